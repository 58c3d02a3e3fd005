-- How the number of stale items goes on.
use Rattle.std.proofs.Common.{◌≡◌, ℕ, ◌+◌, ◌*◌, ◌<◌, ◌≤◌, not, Bool, true, false, IsTrue, ◌↔◌, Option, None, Some, List, [], ◌∷◌, cond, count_by, sum_by, length, slice_get, slice_set, take, replicate, zero, suc, refl, sym, ap, ◌∙◌, suc-mul, arith}
use Rattle.std.specs.List.{AllByRecursion}
use Rattle.std.specs.Bool.{one_answer}
use Rattle.std.proofs.lemmas.List.{get_or-set_other, get_or-set_same, length-set}
use Rattle.std.proofs.lemmas.List.Sums.{sum_by-le-sum_by, sum_by-take-le, sum_by_more}
use Rattle.std.proofs.lemmas.List.Folds.{sum_by-replicate}
use Rattle.std.proofs.lemmas.Nat.{same_from_place}
use Rattle.pl_wiring.specs.Index.{port_index}
use Rattle.pl_node.specs.Announcements.{announcement}
use Rattle.pl_node.specs.PortRecords.{port_of}
use Rattle.pl_node.specs.SwitchFacts.{IsAnnounced}
use Rattle.pl_node.specs.SwitchViews.{SwitchView}
use Rattle.pl_queues.specs.Counts.{counted_in}
use Rattle.pl_queues.specs.Queues.{items_at}
use Rattle.pl_world.specs.declared.item.Item.{Item}
use Rattle.pl_world.specs.declared.item.Item.TheVariants.{Control, Data}
use Rattle.pl_world.specs.Pending.{is_announced, is_control_item, is_stale, stale, stale_at, stale_at_ports, stale_in}
use Rattle.pl_world.proofs.Exports.{is_announced-decides}
use Rattle.pl_world_parts.proofs.Sums.{one_le_sum, sum_from, sum_last, sums_changed, sums_same}

announced_is : (b : Bool) (v : SwitchView) (port : ℕ) (frame : List ℕ) → (IsTrue b ↔ IsAnnounced v port frame) → b ≡ is_announced v port frame
announced_is b v port frame h =
    let test = is_announced-decides (port_of v port).host frame (announcement v port) in
    one_answer b (is_announced v port frame) (λ e. let a = h.0 e in (a.told, a.is), λ p. h.1 (record { told = p.0; is = p.1 })) test

pub not_announced_is : (b : Bool) (v : SwitchView) (port : ℕ) (frame : List ℕ) → (IsTrue b ↔ IsAnnounced v port frame) → not b ≡ not (is_announced v port frame)
not_announced_is b v port frame h = ap not (announced_is b v port frame h)

module _ (k : ℕ) (switches : List SwitchView) (out : List (List Item)) (s port at : ℕ) where
  module _ (queue : List Item) where
    at_other : (t q : ℕ) → q < k → port < k → port_index k s port ≡ at → ((t ≡ s) × (q ≡ port) → ⊥) →
        items_at (slice_set out at queue) (port_index k t q) ≡ items_at out (port_index k t q)
    at_other t q low within index apart =
        get_or-set_other out at (port_index k t q) queue [] (λ e. apart (same_from_place t q s port k low within (e ∙ sym index)))

    at_this : port < k → port_index k s port ≡ at → at < length out →
        stale_at k switches (slice_set out at queue) s + stale_in (slice_get switches s) port (items_at out at)
        ≡ stale_at k switches out s + stale_in (slice_get switches s) port queue
    at_this within index there =
        let v : Option SwitchView = slice_get switches s in
        let new : ℕ → ℕ = λ q. stale_in v q (items_at (slice_set out at queue) (port_index k s q)) in
        let old : ℕ → ℕ = λ q. stale_in v q (items_at out (port_index k s q)) in
        let sums : stale_at k switches (slice_set out at queue) s + old port ≡ stale_at k switches out s + new port =
        sums_changed new old k 0 port (omega arith) (omega (arith, within))
        (λ q low high apart. ap (stale_in v q) (at_other s q (omega (arith, high)) within index (λ e. apart e.1))) in
        let was : old port ≡ stale_in v port (items_at out at) = ap (λ n. stale_in v port (items_at out n)) index in
        let is : new port ≡ stale_in v port queue =
        ap (λ n. stale_in v port (items_at (slice_set out at queue) n)) index ∙ ap (stale_in v port) (get_or-set_same out at queue [] there) in
        omega (arith, sums, was, is)

    -- a queue becomes another
    pub queue_changes : port < k → port_index k s port ≡ at → at < length out → s < length switches →
        stale k switches (slice_set out at queue) + stale_in (slice_get switches s) port (items_at out at)
        ≡ stale k switches out + stale_in (slice_get switches s) port queue
    queue_changes within index there low =
        let sums : stale k switches (slice_set out at queue) + stale_at k switches out s ≡ stale k switches out + stale_at k switches (slice_set out at queue) s =
        sums_changed (stale_at k switches (slice_set out at queue)) (stale_at k switches out) (length switches) 0 s (omega arith) (omega (arith, low))
        (λ t above below apart.
        sums_same (λ q. stale_in (slice_get switches t) q (items_at (slice_set out at queue) (port_index k t q)))
        (λ q. stale_in (slice_get switches t) q (items_at out (port_index k t q))) k 0
        (λ q above below. ap (stale_in (slice_get switches t) q) (at_other t q (omega (arith, below)) within index (λ e. apart e.0)))) in
        let here = at_this within index there in
        omega (arith, sums, here)

  -- one queue has no more than all
  pub queue_le : port < k → port_index k s port ≡ at → s < length switches → stale_in (slice_get switches s) port (items_at out at) ≤ stale k switches out
  queue_le within index low =
      let one : stale_at k switches out s ≤ stale k switches out = one_le_sum (stale_at k switches out) (length switches) 0 s (omega arith) (omega (arith, low)) in
      let mine : stale_in (slice_get switches s) port (items_at out (port_index k s port)) ≤ stale_at k switches out s =
      one_le_sum (λ q. stale_in (slice_get switches s) q (items_at out (port_index k s q))) k 0 port (omega arith) (omega (arith, within)) in
      let here : stale_in (slice_get switches s) port (items_at out (port_index k s port)) ≡ stale_in (slice_get switches s) port (items_at out at) =
      ap (λ n. stale_in (slice_get switches s) port (items_at out n)) index in
      omega (arith, one, mine, here)

module _ {X : Type 0} where
  pub slice_get-set_other : (xs : List X) (n m : ℕ) (x : X) → (m ≡ n → ⊥) → slice_get (slice_set xs n x) m ≡ slice_get xs m
  slice_get-set_other [] n m x apart = refl
  slice_get-set_other (y ∷ xs) zero zero x apart = absurd (apart refl)
  slice_get-set_other (y ∷ xs) zero (suc m) x apart = refl
  slice_get-set_other (y ∷ xs) (suc n) zero x apart = refl
  slice_get-set_other (y ∷ xs) (suc n) (suc m) x apart = slice_get-set_other xs n m x (λ e. apart (ap suc e))

  pub slice_get-set_same : (xs : List X) (n : ℕ) (x : X) → n < length xs → slice_get (slice_set xs n x) n ≡ Some x
  slice_get-set_same [] n x within = absurd (omega (arith, within))
  slice_get-set_same (y ∷ xs) zero x within = refl
  slice_get-set_same (y ∷ xs) (suc n) x within = slice_get-set_same xs n x (omega (arith, within))

module _ (k : ℕ) (old : List SwitchView) (out : List (List Item)) (s : ℕ) where
  -- a switch has another view
  pub switch_changes : (new : List SwitchView) (after : SwitchView) → new ≡ slice_set old s after → s < length old →
      stale k new out + stale_at k old out s ≡ stale k old out + stale_at k new out s
  switch_changes new after changed low =
      let many : length new ≡ length old = ap length changed ∙ length-set old s after in
      let sums : sum_from (stale_at k new out) 0 (length old) + stale_at k old out s ≡ stale k old out + stale_at k new out s =
      sums_changed (stale_at k new out) (stale_at k old out) (length old) 0 s (omega arith) (omega (arith, low))
      (λ t above below apart. ap (λ v. stale_at_ports k v out t) (ap (λ vs. slice_get vs t) changed ∙ slice_get-set_other old s t after apart)) in
      let all : stale k new out ≡ sum_from (stale_at k new out) 0 (length old) = ap (sum_from (stale_at k new out) 0) many in
      omega (arith, sums, all)

  pub switch_le : s < length old → stale_at k old out s ≤ stale k old out
  switch_le low = one_le_sum (stale_at k old out) (length old) 0 s (omega arith) (omega (arith, low))

-- only control frames are stale
pub one_at_most : (b : Bool) → cond b 1 0 ≤ 1
one_at_most true = omega arith
one_at_most false = omega arith

stale_counts : (v : SwitchView) (port : ℕ) (item : Item) → ◌≤◌ (cond (is_stale v port item) 1 0) (cond (is_control_item item) 1 0)
unfolding is_stale
stale_counts v port (Control frame) = one_at_most (not (is_announced v port frame))
stale_counts v port (Data id frame) = omega arith

pub stale_in_le : (v : Option SwitchView) (port : ℕ) (items : List Item) → stale_in v port items ≤ count_by is_control_item items
stale_in_le None port items = omega arith
stale_in_le (Some v) port items =
    sum_by-le-sum_by (λ item. cond (is_stale v port item) 1 0) (λ item. cond (is_control_item item) 1 0) items (stale_counts v port)

module _ (k : ℕ) (out : List (List Item)) where
  -- how many count in the first n queues
  abbrev before : ℕ → ℕ
  before n = sum_by (count_by is_control_item) (take n out)

  -- a number for each port of a switch, each no more than count in the queue there
  module _ (part : ℕ → ℕ) (s : ℕ) where
    parts_le : (q : ℕ) → ((p : ℕ) → p < q → part p ≤ count_by is_control_item (items_at out (port_index k s p))) →
        port_index k s q ≤ length out → before (s * k) + sum_from part 0 q ≤ before (port_index k s q)
    parts_le zero each within =
        let here : before (port_index k s 0) ≡ before (s * k) = ap before (omega arith) in
        omega (arith, here)
    parts_le (suc q) each within =
        let less = parts_le q (λ p low. each p (omega (arith, low))) (omega (arith, within)) in
        let last = sum_last part q in
        let more : before (port_index k s q + 1) ≡ before (port_index k s q) + count_by is_control_item (items_at out (port_index k s q)) =
        sum_by_more (count_by is_control_item) out (port_index k s q) [] (omega (arith, within)) in
        let here : before (port_index k s (suc q)) ≡ before (port_index k s q + 1) = ap before (omega arith) in
        let fits : part q ≤ count_by is_control_item (items_at out (port_index k s q)) = each q (omega arith) in
        omega (arith, less, last, more, here, fits)

    pub parts_fit : (q : ℕ) → ((p : ℕ) → p < q → part p ≤ count_by is_control_item (items_at out (port_index k s p))) →
        port_index k s q ≤ length out → sum_from part 0 q ≤ counted_in is_control_item out
    parts_fit q each within =
        let less = parts_le q each within in
        let all : before (port_index k s q) ≤ counted_in is_control_item out = sum_by-take-le (count_by is_control_item) out (port_index k s q) in
        omega (arith, less, all)

  module _ (v : Option SwitchView) (s : ℕ) where
    abbrev pub port_part : ℕ → ℕ
    port_part q = stale_in v q (items_at out (port_index k s q))

    ports_le : (q : ℕ) → port_index k s q ≤ length out → before (s * k) + sum_from port_part 0 q ≤ before (port_index k s q)
    ports_le q within = parts_le port_part s q (λ p low. stale_in_le v p (items_at out (port_index k s p))) within

    pub ports_fit : (q : ℕ) → port_index k s q ≤ length out → sum_from port_part 0 q ≤ counted_in is_control_item out
    ports_fit q within = parts_fit port_part s q (λ p low. stale_in_le v p (items_at out (port_index k s p))) within

  switches_le : (switches : List SwitchView) (n : ℕ) → n * k ≤ length out → sum_from (stale_at k switches out) 0 n ≤ before (n * k)
  switches_le switches zero within = omega arith
  switches_le switches (suc n) within =
      let row : suc n * k ≡ n * k + k = suc-mul n k in
      let less = switches_le switches n (omega (arith, within, row)) in
      let last = sum_last (stale_at k switches out) n in
      let mine : before (n * k) + stale_at k switches out n ≤ before (port_index k n k) = ports_le (slice_get switches n) n k (omega (arith, within, row)) in
      let here : before (suc n * k) ≡ before (port_index k n k) = ap before row in
      omega (arith, less, last, mine, here)

  pub stale_fits : (switches : List SwitchView) → length out ≡ length switches * k → stale k switches out ≤ counted_in is_control_item out
  stale_fits switches many =
      let less = switches_le switches (length switches) (omega (arith, many)) in
      let part : before (length switches * k) ≤ counted_in is_control_item out = sum_by-take-le (count_by is_control_item) out (length switches * k) in
      omega (arith, less, part)

-- all queues are empty at first
pub none_stale : (k n : ℕ) (switches : List SwitchView) (out : List (List Item)) → length out ≡ length switches * k → out ≡ replicate n [] → stale k switches out ≡ 0
none_stale k n switches out many empty =
    let fits = stale_fits k out switches many in
    let none : counted_in is_control_item out ≡ n * 0 = ap (counted_in is_control_item) empty ∙ sum_by-replicate (count_by is_control_item) n [] in
    omega (arith, fits, none)

-- switches that have as many ports as the wiring says are counted as it says
pub stale_by_wiring : (j k : ℕ) (switches : List SwitchView) (out : List (List Item)) → AllByRecursion (λ v. v.k ≡ j) switches →
    AllByRecursion (λ v. v.k ≡ k) switches → stale j switches out ≡ stale k switches out
stale_by_wiring j k [] out all same = refl
stale_by_wiring j k (v ∷ switches) out all same = ap (λ n. stale n (v ∷ switches) out) (sym all.0 ∙ same.0)
