-- The number of stale items in the queue out of each port.
use Rattle.std.proofs.Common.{◌≡◌, ℕ, ◌+◌, ◌-◌, ◌*◌, ◌<◌, ◌≤◌, not, Bool, true, Option, None, Some, IfSome, MatchOption, List, [], ◌∷◌, ◌++◌, ◌&&◌, bytes_eq, cond, count_by, sum_by, get_or, length, map, option_to_list, replicate, slice_get, slice_index_or, slice_set, zero, suc, refl, sym, ap, ◌∙◌, inl, inr, subst, suc-mul, arith}
use Rattle.std.proofs.Math.ListN.{length-map}
use Rattle.std.proofs.lemmas.Bool.{cases_eq}
use Rattle.std.proofs.lemmas.List.{get_or_read_under, get_or-set_other, get_or-set_same, length-replicate, length-set}
use Rattle.std.proofs.lemmas.List.Sums.{sum_by-cons, sum_by_push, sum_by-le-sum_by}
use Rattle.std.proofs.lemmas.Nat.{same_from_place}
use Rattle.std.proofs.lemmas.Option.{slice_get-get_or}
use Rattle.pl_wiring.specs.Index.{port_index}
use Rattle.pl_layouts.specs.declared.control.Control.TheVariants as control
use Rattle.pl_layouts.specs.Control.{control_frame}
use Rattle.pl_layouts.specs.Placement.{nowhere}
use Rattle.pl_node.specs.PortRecords.{ports_of_switch}
use Rattle.pl_node.specs.SwitchViews.{SwitchView}
use Rattle.pl_queues.specs.Counts.{counted_in}
use Rattle.pl_queues.specs.Queues.{items_at, put_at}
use Rattle.pl_world.specs.declared.item.Item.{Item}
use Rattle.pl_world.specs.declared.item.Item.TheVariants.{Control, Data}
use Rattle.pl_world.specs.Pending.{HasQueues, KeepsStale, is_control_item, is_stale, stale, stale_at, stale_at_ports, stale_in}
use Rattle.pl_world.proofs.Exports.{none_in}
use Rattle.pl_world_parts.specs.declared.said.Said.{Said}
use Rattle.pl_world_parts.specs.OneStep.{IsOneChanged, sizes}
use Rattle.pl_world_parts.specs.QueueIndices.{IsQueueIndex}
use Rattle.pl_world_parts.specs.StaleCounts.{KeepsEach, is_stale_under, said_at}
use Rattle.pl_world_parts.proofs.OneChanged.{found-map}
use Rattle.pl_world_parts.proofs.Stale.{one_at_most, parts_fit, port_part, queue_changes, queue_le, slice_get-set_other, stale_fits, stale_in_le}
use Rattle.pl_world_parts.proofs.Sums.{sum_from, sum_next, sums_same}
use Rattle.pl_world_parts.proofs.Switching.{all_switches, kept_fits, queues_kept, same_size, switch_is_there}
use Rattle.pl_world_parts.proofs.Stepping.{sizes_many}

-- what is stale by what is announced
stale_under : (v : SwitchView) (port : ℕ) (item : Item) → is_stale v port item ≡ is_stale_under (said_at v port) item
unfolding is_stale is_stale_under
stale_under v port (Control frame) = refl
stale_under v port (Data id frame) = refl

pub count_under : (v : SwitchView) (port : ℕ) (items : List Item) → count_by (is_stale v port) items ≡ count_by (is_stale_under (said_at v port)) items
count_under v port [] = refl
count_under v port (item ∷ items) =
    let left = sum_by-cons (λ i. cond (is_stale v port i) 1 0) item items in
    let right = sum_by-cons (λ i. cond (is_stale_under (said_at v port) i) 1 0) item items in
    let here : ◌≡◌ {A = ℕ} (cond (is_stale v port item) 1 0) (cond (is_stale_under (said_at v port) item) 1 0) = ap (λ b. cond b 1 0) (stale_under v port item) in
    let rest = count_under v port items in
    omega (arith, left, right, here, rest)

pub count_known : (v : SwitchView) (port count : ℕ) (said : Said) (queue : List Item) → count ≡ count_by (is_stale_under said) queue →
    said ≡ said_at v port → count ≡ count_by (is_stale v port) queue
count_known v port count said queue known same = known ∙ ap (λ a. count_by (is_stale_under a) queue) same ∙ sym (count_under v port queue)

under_counts : (said : Said) (item : Item) → ◌≤◌ (cond (is_stale_under said item) 1 0) (cond (is_control_item item) 1 0)
unfolding is_stale_under
under_counts said (Control frame) = one_at_most (not (not said.host && bytes_eq frame (control_frame (control.Ldm said.id said.ldm))))
under_counts said (Data id frame) = omega arith

under_le : (said : Said) (items : List Item) → count_by (is_stale_under said) items ≤ count_by is_control_item items
under_le said items =
    sum_by-le-sum_by (λ item. cond (is_stale_under said item) 1 0) (λ item. cond (is_control_item item) 1 0) items (under_counts said)

pub some_at : (P : Said → Type 0) (o : Option Said) (x : Said) → o ≡ Some x → IfSome o P → P x
some_at P o x is holds = subst (λ o. IfSome o P) is holds

pub at_some : (P : Said → Type 0) (o : Option Said) (x : Said) → o ≡ Some x → P x → IfSome o P
at_some P o x is holds = subst (λ o. IfSome o P) (sym is) holds

set_back : (queues : List (List Item)) (at : ℕ) → slice_set queues at (items_at queues at) ≡ queues
set_back [] at = refl
set_back (queue ∷ queues) zero = refl
set_back (queue ∷ queues) (suc at) = ap (λ rest. queue ∷ rest) (set_back queues at)

module _ (k : ℕ) (switches : List SwitchView) (out : List (List Item)) (counts : List ℕ) where
  pub each_at : KeepsEach (all_switches k switches out) counts → (s port at : ℕ) → port < k → port_index k s port ≡ at → slice_index_or counts at 0 ≡ stale_in (slice_get switches s) port (items_at out at)
  each_at each s port at within index =
      subst (λ n. slice_index_or counts n 0 ≡ stale_in (slice_get switches s) port (items_at out n)) index (each.are s port within)

  -- a queue becomes another
  pub each_set : KeepsEach (all_switches k switches out) counts → (s port at n : ℕ) (queue : List Item) (new : List (List Item)) (after : List ℕ) →
      port < k → port_index k s port ≡ at → at < length out → n ≡ stale_in (slice_get switches s) port queue →
      new ≡ slice_set out at queue → after ≡ slice_set counts at n → KeepsEach (all_switches k switches new) after
  each_set each s port at n queue new after within index there is queues numbers =
      let many : length after ≡ length counts = ap length numbers ∙ length-set counts at n in
      let queue_arrays : length new ≡ length out = ap length queues ∙ length-set out at queue in
      let low : at < length counts = omega (arith, there, each.many) in
      record {
        many = omega (arith, many, queue_arrays, each.many);
        are = λ t q inside.
            let here : slice_index_or after (port_index k t q) 0 ≡ slice_index_or (slice_set counts at n) (port_index k t q) 0 = ap (λ ns. slice_index_or ns (port_index k t q) 0) numbers in
            let there : stale_in (slice_get switches t) q (items_at (slice_set out at queue) (port_index k t q)) ≡ stale_in (slice_get switches t) q (items_at new (port_index k t q)) =
            ap (λ o. stale_in (slice_get switches t) q (items_at o (port_index k t q))) (sym queues) in
            here ∙ set_at t q inside low ∙ there;
      }
    where
      set_at : (t q : ℕ) → q < k → at < length counts → slice_index_or (slice_set counts at n) (port_index k t q) 0
          ≡ stale_in (slice_get switches t) q (items_at (slice_set out at queue) (port_index k t q))
      set_at t q inside low =
          elim (cases_eq (port_index k t q) at) [
            | inl same ↦
                let both = same_from_place t q s port k inside within (same ∙ sym index) in
                ap (λ i. slice_index_or (slice_set counts at n) i 0) same ∙ get_or-set_same counts at n 0 low ∙ is
                ∙ ap (λ i. stale_in (slice_get switches i) port queue) (sym both.0) ∙ ap (λ i. stale_in (slice_get switches t) i queue) (sym both.1)
                ∙ ap (stale_in (slice_get switches t) q) (sym (get_or-set_same out at queue [] there) ∙ ap (items_at (slice_set out at queue)) (sym same))
            | inr other ↦
                get_or-set_other counts at (port_index k t q) n 0 other ∙ each.are t q inside
                ∙ ap (stale_in (slice_get switches t) q) (sym (get_or-set_other out at (port_index k t q) queue [] other))
          ]

  module _ (each : KeepsEach (all_switches k switches out) counts) (s port at was : ℕ) (index : IsQueueIndex (all_switches k switches out) s port at)
      (read : was ≡ get_or counts at was) where
    was_is : was ≡ stale_in (slice_get switches s) port (items_at out at)
    was_is = get_or_read_under counts at (length out) was 0 read index.there (sym each.many) ∙ each_at each s port at index.within index.is

    pub was_within : (kept : ℕ) → KeepsStale (all_switches k switches out) kept → was ≤ kept
    was_within kept keeps =
        let low = switch_is_there k switches out s port at keeps.queues index.is index.there in
        let fits = queue_le k switches out s port at index.within index.is low in
        let here = was_is in
        omega (arith, fits, here, keeps.is)

    nothing : (o : Option SwitchView) → stale_in o port [] ≡ 0
    nothing None = refl
    nothing (Some v) = refl

    -- a queue is emptied
    pub each_emptied : (new : List (List Item)) → new ≡ slice_set out at [] → KeepsEach (all_switches k switches new) (slice_set counts at 0)
    each_emptied new same = each_set each s port at 0 [] new (slice_set counts at 0) index.within index.is index.there (sym (nothing (slice_get switches s))) same refl

    pub keeps_emptied : (kept : ℕ) (new : List (List Item)) → KeepsStale (all_switches k switches out) kept → new ≡ slice_set out at [] →
        KeepsStale (all_switches k switches new) (kept - was)
    keeps_emptied kept new keeps same =
        let low = switch_is_there k switches out s port at keeps.queues index.is index.there in
        let all = queue_changes k switches out s port at [] index.within index.is index.there low in
        let last = nothing (slice_get switches s) in
        let here = was_is in
        let seen : stale k switches new ≡ stale k switches (slice_set out at []) = ap (stale k switches) same in
        record {
          queues = record { ports = keeps.queues.ports; queues = ap length same ∙ length-set out at [] ∙ keeps.queues.queues };
          is = omega (arith, all, last, here, seen, keeps.is);
        }

    module _ (v : SwitchView) (found : slice_get switches s ≡ Some v) where
      counted_is : was ≡ count_by (is_stale v port) (items_at out at)
      counted_is = was_is ∙ ap (λ o. stale_in o port (items_at out at)) found

      with_queue : (queue : List Item) (new : List (List Item)) (n : ℕ) → n ≡ count_by (is_stale v port) queue → new ≡ slice_set out at queue →
          KeepsEach (all_switches k switches new) (slice_set counts at n)
      with_queue queue new n is same =
          each_set each s port at n queue new (slice_set counts at n) index.within index.is index.there (is ∙ ap (λ o. stale_in o port queue) (sym found)) same refl

      -- an item is put into a queue, or taken from it
      pub each_put : (new : List (List Item)) (item : Item) (b : Bool) (more : ℕ) → new ≡ put_at out at item → more ≡ cond b 1 0 → b ≡ is_stale v port item →
          KeepsEach (all_switches k switches new) (slice_set counts at (was + more))
      each_put new item b more same one is =
          let push = sum_by_push (λ i. cond (is_stale v port i) 1 0) (items_at out at) item in
          let here : ◌≡◌ {A = ℕ} (cond b 1 0) (cond (is_stale v port item) 1 0) = ap (λ c. cond c 1 0) is in
          let old = counted_is in
          with_queue (items_at out at ++ item ∷ []) new (was + more) (omega (arith, push, one, here, old)) same

      one_more : (x : Item) (queue : List Item) → items_at out at ≡ x ∷ queue →
          was ≡ count_by (is_stale v port) (x ∷ []) + count_by (is_stale v port) queue
      one_more x queue head =
          let whole = ap (count_by (is_stale v port)) head in
          let parts = sum_by-cons (λ i. cond (is_stale v port i) 1 0) x queue in
          let one = sum_by-cons (λ i. cond (is_stale v port i) 1 0) x [] in
          let old = counted_is in
          omega (arith, whole, parts, one, old)

      abbrev IsTaken : List (List Item) → Option Item → Type 0
      IsTaken new taken = MatchOption taken ((items_at out at ≡ []) × (new ≡ out)) (λ x. (items_at out at ≡ x ∷ items_at new at) × (new ≡ slice_set out at (items_at new at)))

      pub less_within : (new : List (List Item)) (taken : Option Item) (less : ℕ) → IsTaken new taken →
          less ≡ count_by (is_stale v port) (option_to_list taken) → less ≤ was
      less_within new None less h is = omega (arith, is)
      less_within new (Some x) less h is = let head = one_more x (items_at new at) h.0 in omega (arith, head, is)

      pub each_take : (new : List (List Item)) (taken : Option Item) (less : ℕ) → IsTaken new taken →
          less ≡ count_by (is_stale v port) (option_to_list taken) → KeepsEach (all_switches k switches new) (slice_set counts at (was - less))
      each_take new None less h is =
          let old = counted_is in
          with_queue (items_at out at) new (was - less) (omega (arith, old, is)) (h.1 ∙ sym (set_back out at))
      each_take new (Some x) less h is =
          let head = one_more x (items_at new at) h.0 in
          with_queue (items_at new at) new (was - less) (omega (arith, head, is)) h.1

-- all queues are empty at first
pub none_each : (k n : ℕ) (switches : List SwitchView) (out : List (List Item)) (counts : List ℕ) → out ≡ replicate n [] → counts ≡ replicate (length out) 0 →
    KeepsEach (all_switches k switches out) counts
none_each k n switches out counts empty zeros = record {
  many = ap length zeros ∙ length-replicate (length out) 0;
  are = λ s port within.
      ap (λ ns. slice_index_or ns (port_index k s port) 0) zeros ∙ zero_at (length out) (port_index k s port)
      ∙ sym (ap (λ o. stale_in (slice_get switches s) port (items_at o (port_index k s port))) empty
      ∙ ap (stale_in (slice_get switches s) port) (empty_at n (port_index k s port)) ∙ none_in_empty (slice_get switches s) port);
}
  where
    zero_at : (n i : ℕ) → ◌≡◌ {A = ℕ} (slice_index_or (replicate n 0) i 0) 0
    zero_at zero i = refl
    zero_at (suc n) zero = refl
    zero_at (suc n) (suc i) = zero_at n i

    empty_at : (n i : ℕ) → items_at {T = Item} (replicate n []) i ≡ []
    empty_at zero i = refl
    empty_at (suc n) zero = refl
    empty_at (suc n) (suc i) = empty_at n i

    none_in_empty : (v : Option SwitchView) (port : ℕ) → stale_in v port [] ≡ 0
    none_in_empty None port = refl
    none_in_empty (Some v) port = refl

-- the numbers of a switch's ports, each of which is how many are stale under what was announced there
module _ (k s : ℕ) (out : List (List Item)) (counts : List ℕ) (said : List Said) where
  abbrev pub IsKnownAt : ℕ → Type 0
  IsKnownAt port = IfSome (slice_get said port) (λ was.
      slice_index_or counts (port_index k s port) 0 ≡ count_by (is_stale_under was) (items_at out (port_index k s port)))

  abbrev pub count_part : ℕ → ℕ
  count_part port = slice_index_or counts (port_index k s port) 0

  pub known_le : (port : ℕ) (was : Said) → slice_get said port ≡ Some was → IsKnownAt port → count_part port ≤ count_by is_control_item (items_at out (port_index k s port))
  known_le port was is known =
      let here : slice_index_or counts (port_index k s port) 0 ≡ count_by (is_stale_under was) (items_at out (port_index k s port)) =
      some_at (λ was. slice_index_or counts (port_index k s port) 0 ≡ count_by (is_stale_under was) (items_at out (port_index k s port))) (slice_get said port) was is known in
      let fits = under_le was (items_at out (port_index k s port)) in
      omega (arith, here, fits)

  -- so many fit in a count
  pub known_fit : (q : ℕ) → q ≤ length said → ((port : ℕ) → port < q → IsKnownAt port) → port_index k s q ≤ length out →
      sum_from count_part 0 q ≤ counted_in is_control_item out
  known_fit q room known within =
      parts_fit k out count_part s q
      (λ p low. known_le p (get_or said p none_said) (slice_get-get_or said p none_said (omega (arith, low, room))) (known p low)) within
    where
      none_said : Said
      none_said = record { host = true; id = record { 0 = 0 }; ldm = record { place = nowhere; direction = 0; echo = None } }

-- the ports of a switch below `port` are counted again, and what was and what is there is summed
pub record AreCounted (k s : ℕ) (v : SwitchView) (out : List (List Item)) (old counts : List ℕ) (before after port : ℕ) : Type 0 where
  pub many : length counts ≡ length out
  pub before_is : before ≡ sum_from (λ q. slice_index_or old (port_index k s q) 0) 0 port
  pub after_is : after ≡ sum_from (port_part k out (Some v) s) 0 port
  pub done : (q : ℕ) → q < port → slice_index_or counts (port_index k s q) 0 ≡ count_by (is_stale v q) (items_at out (port_index k s q))
  pub left : (q : ℕ) → port ≤ q → q < k → slice_index_or counts (port_index k s q) 0 ≡ slice_index_or old (port_index k s q) 0
  pub others : (t q : ℕ) → q < k → (t ≡ s → ⊥) → slice_index_or counts (port_index k t q) 0 ≡ slice_index_or old (port_index k t q) 0

module _ (k s : ℕ) (v : SwitchView) (out : List (List Item)) (old : List ℕ) (within : port_index k s k ≤ length out) where
  pub none_counted : length old ≡ length out → AreCounted k s v out old old 0 0 0
  none_counted many = record {
    many = many;
    before_is = refl;
    after_is = refl;
    done = λ q low. absurd (omega (arith, low));
    left = λ q low high. refl;
    others = λ t q low apart. refl;
  }

  module _ (counts : List ℕ) (before after port : ℕ) (so_far : AreCounted k s v out old counts before after port) (inside : port < k) (at count : ℕ)
      (index : at ≡ port_index k s port) (read : count ≡ get_or counts at count) where
    pub count_read : count ≡ slice_index_or old (port_index k s port) 0
    count_read =
        get_or_read_under counts at (length out) count 0 read (omega (arith, index, inside, within)) (sym so_far.many)
        ∙ ap (λ i. slice_index_or counts i 0) index ∙ so_far.left port (omega arith) inside

    pub known_here : (said : List Said) (d : Said) (queue_array : List (List Item)) (queue : List Item) → port < length said → IsKnownAt k s out old said port → queue_array ≡ out →
        queue ≡ items_at queue_array at → count ≡ count_by (is_stale_under (slice_index_or said port d)) queue
    known_here said d queue_array queue room known same is =
        count_read
        ∙ some_at (λ was. slice_index_or old (port_index k s port) 0 ≡ count_by (is_stale_under was) (items_at out (port_index k s port)))
        (slice_get said port) (get_or said port d) (slice_get-get_or said port d room) known
        ∙ sym (ap (count_by (is_stale_under (get_or said port d))) (is ∙ ap (λ o. items_at o at) same ∙ ap (items_at out) index))

    module _ (queue_array : List (List Item)) (queue : List Item) (now : ℕ) (same : queue_array ≡ out) (is : queue ≡ items_at queue_array at) (again : now ≡ count_by (is_stale v port) queue) where
      now_is : now ≡ port_part k out (Some v) s port
      now_is = again ∙ ap (count_by (is_stale v port)) (is ∙ ap (λ o. items_at o at) same ∙ ap (items_at out) index)

      pub before_more : before + count ≡ sum_from (λ q. slice_index_or old (port_index k s q) 0) 0 (port + 1)
      before_more =
          let next = sum_next (λ q. slice_index_or old (port_index k s q) 0) port in
          let here = count_read in
          omega (arith, next, here, so_far.before_is)

      pub after_more : after + now ≡ sum_from (port_part k out (Some v) s) 0 (port + 1)
      after_more =
          let next = sum_next (port_part k out (Some v) s) port in
          let here = now_is in
          omega (arith, next, here, so_far.after_is)

      pub one_counted : AreCounted k s v out old (slice_set counts at now) (before + count) (after + now) (port + 1)
      one_counted = record {
        many = length-set counts at now ∙ so_far.many;
        before_is = before_more;
        after_is = after_more;
        done = λ q low.
            elim (cases_eq q port) [
              | inl same ↦
                  ap (λ i. slice_index_or (slice_set counts at now) (port_index k s i) 0) same ∙ ap (λ i. slice_index_or (slice_set counts at now) i 0) (sym index)
                  ∙ get_or-set_same counts at now 0 (omega (arith, index, inside, within, so_far.many)) ∙ now_is
                  ∙ ap (λ i. port_part k out (Some v) s i) (sym same)
              | inr other ↦ elsewhere (port_index k s q) (λ e. other (omega (arith, e, index))) ∙ so_far.done q (omega (arith, low, other))
            ];
        left = λ q low high. elsewhere (port_index k s q) (λ e. omega (arith, e, index, low)) ∙ so_far.left q (omega (arith, low)) high;
        others = λ t q low apart.
            elsewhere (port_index k t q) (λ e. apart (same_from_place t q s port k low inside (e ∙ index)).0) ∙ so_far.others t q low apart;
      }
        where
          elsewhere : (i : ℕ) → (i ≡ at → ⊥) → slice_index_or (slice_set counts at now) i 0 ≡ slice_index_or counts i 0
          elsewhere i apart = get_or-set_other counts at i now 0 apart

module _ (k : ℕ) (switches : List SwitchView) (out : List (List Item)) (counts : List ℕ) (s : ℕ) (v w : SwitchView)
    (each : KeepsEach (all_switches k switches out) counts) (before : slice_get switches s ≡ Some v) (size : w.k ≡ k) where
  -- what is kept is how many are stale under what was announced before
  pub known_before : (said : List Said) → v.k ≡ k → ((port : ℕ) → port < v.k → slice_get said port ≡ Some (said_at v port)) →
      (port : ℕ) → port < w.k → IsKnownAt w.k s out counts said port
  known_before said was told =
      subst (λ n. (port : ℕ) → port < n → IsKnownAt n s out counts said port) (sym size)
      (λ port within.
      at_some (λ a. slice_index_or counts (port_index k s port) 0 ≡ count_by (is_stale_under a) (items_at out (port_index k s port)))
      (slice_get said port) (said_at v port) (told port (omega (arith, within, was)))
      (each.are s port within ∙ ap (λ o. stale_in o port (items_at out (port_index k s port))) before ∙ count_under v port (items_at out (port_index k s port))))

  pub first_is : (first : ℕ) → first ≡ sum_by (λ port. slice_index_or counts (port_index w.k s port) 0) (ports_of_switch w.k) → first ≡ stale_at k switches out s
  first_is first is =
      is ∙ ap (λ n. sum_by (λ port. slice_index_or counts (port_index n s port) 0) (ports_of_switch n)) size
      ∙ sums_same (λ port. slice_index_or counts (port_index k s port) 0) (port_part k out (slice_get switches s) s) k 0
      (λ port low high. each.are s port (omega (arith, high)))

  module _ (new : List SwitchView) (after : slice_get new s ≡ Some w) where
    pub last_is : (last : ℕ) → last ≡ stale_at_ports w.k (Some w) out s → last ≡ stale_at k new out s
    last_is last is = is ∙ ap (λ n. stale_at_ports n (Some w) out s) size ∙ ap (λ o. stale_at_ports k o out s) (sym after)

    pub each_again : (renewed : List ℕ) → IsOneChanged switches s new → length renewed ≡ length out →
        ((port : ℕ) → port < w.k → slice_index_or renewed (port_index w.k s port) 0 ≡ stale_in (Some w) port (items_at out (port_index w.k s port))) →
        ((t port : ℕ) → port < w.k → (t ≡ s → ⊥) → slice_index_or renewed (port_index w.k t port) 0 ≡ slice_index_or counts (port_index w.k t port) 0) →
        KeepsEach (all_switches k new out) renewed
    each_again renewed one many here others = record {
      many = many;
      are = λ t port within.
          elim (cases_eq t s) [
            | inl same ↦
                ap (λ i. slice_index_or renewed (port_index k i port) 0) same ∙ mine port within
                ∙ ap (λ o. stale_in o port (items_at out (port_index k s port))) (sym after)
                ∙ ap (λ i. stale_in (slice_get new i) port (items_at out (port_index k i port))) (sym same)
            | inr other ↦
                theirs t port within other ∙ each.are t port within
                ∙ ap (λ o. stale_in o port (items_at out (port_index k t port))) (sym (ap (λ vs. slice_get vs t) one.1 ∙ slice_get-set_other switches s t one.0 other))
          ];
    }
      where
        mine : (port : ℕ) → port < k → slice_index_or renewed (port_index k s port) 0 ≡ stale_in (Some w) port (items_at out (port_index k s port))
        mine = subst (λ n. (port : ℕ) → port < n → slice_index_or renewed (port_index n s port) 0 ≡ stale_in (Some w) port (items_at out (port_index n s port))) size here

        theirs : (t port : ℕ) → port < k → (t ≡ s → ⊥) → slice_index_or renewed (port_index k t port) 0 ≡ slice_index_or counts (port_index k t port) 0
        theirs = subst (λ n. (t port : ℕ) → port < n → (t ≡ s → ⊥) → slice_index_or renewed (port_index n t port) 0 ≡ slice_index_or counts (port_index n t port) 0) size others

row_fits : (k s n : ℕ) → s < n → s * k + k ≤ n * k
row_fits k s zero low = absurd (omega (arith, low))
row_fits k zero (suc n) low = let row : suc n * k ≡ n * k + k = suc-mul n k in omega (arith, row)
row_fits k (suc s) (suc n) low =
    let mine : suc s * k ≡ s * k + k = suc-mul s k in
    let all : suc n * k ≡ n * k + k = suc-mul n k in
    let rest = row_fits k s n (omega (arith, low)) in
    omega (arith, mine, all, rest)

-- a switch hears something, and is looked at before and after
module _ {T : Type 0} (view : T → SwitchView) (k : ℕ) (devices new : List T) (out : List (List Item)) (counts : List ℕ) (s kept : ℕ) (was is : T)
    (keeps : KeepsStale (all_switches k (map view devices) out) kept) (each : KeepsEach (all_switches k (map view devices) out) counts)
    (low : s < length (map view devices)) (seen : was ≡ get_or devices s was) (same : sizes (map view new) ≡ sizes (map view devices))
    (again : is ≡ get_or new s is) where
  found_before : slice_get (map view devices) s ≡ Some (view was)
  found_before = let many = length-map devices view in found-map view devices s was (omega (arith, low, many)) (sym seen)

  found_after : slice_get (map view new) s ≡ Some (view is)
  found_after =
      let many = length-map new view in
      let all = sizes_many (map view devices) (map view new) same in
      found-map view new s is (omega (arith, low, many, all)) (sym again)

  before_size : (view was).k ≡ k
  before_size = same_size k (map view devices) out s (view was) keeps.queues found_before

  after_size : (view is).k ≡ k
  after_size = same_size k (map view new) out s (view is) (queues_kept k (map view devices) out s kept 0 0 (map view new) keeps low same) found_after

  pub hear_queues : port_index (view is).k s (view is).k ≤ length out
  hear_queues =
      let fits : s * k + k ≤ length (map view devices) * k = row_fits k s (length (map view devices)) low in
      let here : port_index (view is).k s (view is).k ≡ port_index k s k = ap (λ n. port_index n s n) after_size in
      omega (arith, fits, here, keeps.queues.queues)

  pub hear_known : (said : List Said) → ((port : ℕ) → port < (view was).k → slice_get said port ≡ Some (said_at (view was) port)) →
      (port : ℕ) → port < (view is).k → IsKnownAt (view is).k s out counts said port
  hear_known said told = known_before k (map view devices) out counts s (view was) (view is) each found_before after_size said before_size told

  pub hear_first : (first : ℕ) → first ≡ sum_by (λ port. slice_index_or counts (port_index (view is).k s port) 0) (ports_of_switch (view is).k) →
      first ≡ stale_at k (map view devices) out s
  hear_first = first_is k (map view devices) out counts s (view was) (view is) each found_before after_size

  pub hear_last : (last : ℕ) → last ≡ stale_at_ports (view is).k (Some (view is)) out s → last ≡ stale_at k (map view new) out s
  hear_last = last_is k (map view devices) out counts s (view was) (view is) each found_before after_size (map view new) found_after

  pub hear_each : (renewed : List ℕ) → IsOneChanged (map view devices) s (map view new) → length renewed ≡ length out →
      ((port : ℕ) → port < (view is).k → slice_index_or renewed (port_index (view is).k s port) 0 ≡ stale_in (Some (view is)) port (items_at out (port_index (view is).k s port))) →
      ((t port : ℕ) → port < (view is).k → (t ≡ s → ⊥) → slice_index_or renewed (port_index (view is).k t port) 0 ≡ slice_index_or counts (port_index (view is).k t port) 0) →
      KeepsEach (all_switches k (map view new) out) renewed
  hear_each = each_again k (map view devices) out counts s (view was) (view is) each found_before after_size (map view new) found_after

-- where no control frame waits, nothing is stale whatever the switches announce
module _ (k : ℕ) (switches new : List SwitchView) (out : List (List Item)) (none : counted_in is_control_item out ≡ 0) (same : sizes new ≡ sizes switches) where
  none_at : (v : Option SwitchView) (port at : ℕ) → stale_in v port (items_at out at) ≡ 0
  none_at v port at =
      let fits = stale_in_le v port (items_at out at) in
      let empty = none_in is_control_item out at none in
      omega (arith, fits, empty)

  pub none_each_still : (counts : List ℕ) → KeepsEach (all_switches k switches out) counts → KeepsEach (all_switches k new out) counts
  none_each_still counts each = record {
    many = each.many;
    are = λ t port within.
        each.are t port within ∙ none_at (slice_get switches t) port (port_index k t port) ∙ sym (none_at (slice_get new t) port (port_index k t port));
  }

  pub none_still : (s kept : ℕ) → s < length switches → KeepsStale (all_switches k switches out) kept → KeepsStale (all_switches k new out) kept
  none_still s kept low keeps =
      let has : HasQueues (all_switches k new out) = queues_kept k switches out s kept 0 0 new keeps low same in
      let old_fits = kept_fits k switches out kept keeps in
      let new_fits = stale_fits k out new has.queues in
      record { queues = has; is = omega (arith, none, old_fits, new_fits) }
