-- Nothing is pending exactly where the queues are those of a settled fabric.
use Rattle.std.proofs.Common.{◌≡◌, ℕ, zero, suc, ◌+◌, ◌<◌, ◌≤◌, ◌&&◌, ◌↔◌, not, Bool, true, false, List, [], ◌∷◌, length, Option, None, Some, Contains, bytes_eq, cond, count_by, get_or, slice_get, sum_by, refl, sym, ◌∙◌, ap, subst, inl, inr, arith}
use Rattle.std.specs.Bool.{Decides}
use Rattle.std.specs.List.{AllByRecursion, range_with_len}
use Rattle.std.proofs.lemmas.Bool.{cases_eq, not-false}
use Rattle.std.proofs.lemmas.List.Sums.{sum_by-cons}
use Rattle.std.proofs.lemmas.Option.{slice_get_within}
use Rattle.std.proofs.lemmas.Slice.Eq.{bytes_eq-Decides}
use Rattle.pl_wiring.specs.Index.{port_index}
use Rattle.pl_node.specs.declared.messages.ToManager.{ToManager}
use Rattle.pl_node.specs.declared.messages.ToManager.TheVariants as tell
use Rattle.pl_node.specs.declared.messages.ToSwitch.{ToSwitch}
use Rattle.pl_node.specs.declared.messages.ToSwitch.TheVariants as order
use Rattle.pl_node.specs.Announcements.{announcement}
use Rattle.pl_node.specs.PortRecords.{port_of}
use Rattle.pl_node.specs.SwitchFacts.{IsAnnounced}
use Rattle.pl_node.specs.SwitchViews.{SwitchView}
use Rattle.pl_queues.specs.Counts.{counted_in}
use Rattle.pl_queues.specs.Queues.{items_at}
use Rattle.pl_world.specs.declared.item.Item.{Item}
use Rattle.pl_world.specs.declared.item.Item.TheVariants.{Control, Data}
use Rattle.pl_world.specs.Changes.{out_of}
use Rattle.pl_world.specs.Flying.{IsCounted, IsDataItem}
use Rattle.pl_world.specs.Pending.{is_announced, is_order, is_report, is_stale, pending, stale, stale_at, stale_in}
use Rattle.pl_world.specs.SettledQueues.{HasSettledQueues, IsQuestion, IsReply}
use Rattle.pl_world.specs.Worlds.{WorldView}
use Rattle.pl_world.proofs.Counts.{all_at}

-- ---- where nothing is counted
module _ {T : Type 0} (p : T → Bool) where
  none_passes : (b : Bool) → ◌≡◌ {A = ℕ} (cond b 1 0) 0 → b ≡ false
  none_passes true none = absurd (omega (arith, none))
  none_passes false none = refl

  none_counted_at : (xs : List T) (k : ℕ) (x : T) → count_by p xs ≡ 0 → k < length xs → get_or xs k x ≡ x → p x ≡ false
  none_counted_at [] k x none within is = absurd (omega (arith, within))
  none_counted_at (y ∷ xs) zero x none within is =
      let parts = sum_by-cons (λ z. cond (p z) 1 0) y xs in
      ap p (sym is) ∙ none_passes (p y) (omega (arith, parts, none))
  none_counted_at (y ∷ xs) (suc k) x none within is =
      let parts = sum_by-cons (λ z. cond (p z) 1 0) y xs in
      none_counted_at xs k x (omega (arith, parts, none)) (omega (arith, within)) is

  pub none_contained : (xs : List T) (x : T) → count_by p xs ≡ 0 → Contains xs x → p x ≡ false
  none_contained xs x none there = none_counted_at xs there.0 x none there.1 there.2

  pub none_counted : (xs : List T) → ((x : T) → Contains xs x → p x ≡ false) → count_by p xs ≡ 0
  none_counted [] each = refl
  none_counted (y ∷ xs) each =
      let parts = sum_by-cons (λ z. cond (p z) 1 0) y xs in
      let here : ◌≡◌ {A = ℕ} (cond (p y) 1 0) 0 = ap (λ b. cond b 1 0) (each y (zero, omega arith, refl)) in
      let rest = none_counted xs (λ x there. each x (suc there.0, omega (arith, there.1), there.2)) in
      omega (arith, parts, here, rest)

  pub none_in : (queues : List (List T)) (at : ℕ) → counted_in p queues ≡ 0 → count_by p (items_at queues at) ≡ 0
  none_in [] at none = refl
  none_in (queue ∷ queues) zero none = let parts = sum_by-cons (count_by p) queue queues in omega (arith, parts, none)
  none_in (queue ∷ queues) (suc at) none =
      let parts = sum_by-cons (count_by p) queue queues in none_in queues at (omega (arith, parts, none))

  pub none_of_all : (queues : List (List T)) → ((at : ℕ) → count_by p (items_at queues at) ≡ 0) → counted_in p queues ≡ 0
  none_of_all [] each = refl
  none_of_all (queue ∷ queues) each =
      let parts = sum_by-cons (count_by p) queue queues in
      let here : count_by p queue ≡ 0 = each zero in
      let rest = none_of_all queues (λ at. each (suc at)) in
      omega (arith, parts, here, rest)

module _ (f : ℕ → ℕ) where
  none_summed_at : (n from at : ℕ) → sum_by f (range_with_len from n) ≡ 0 → from ≤ at → at < from + n → f at ≡ 0
  none_summed_at zero from at none low high = absurd (omega (arith, low, high))
  none_summed_at (suc n) from at none low high =
      let parts : sum_by f (range_with_len from (suc n)) ≡ f from + sum_by f (range_with_len (from + 1) n) =
      sum_by-cons f from (range_with_len (from + 1) n) in
      elim (cases_eq from at) [
        | inl same ↦ let here : f from ≡ f at = ap f same in omega (arith, parts, here, none)
        | inr other ↦ none_summed_at n (from + 1) at (omega (arith, parts, none)) (omega (arith, low, other)) (omega (arith, high))
      ]

  none_summed : (n from : ℕ) → ((at : ℕ) → from ≤ at → at < from + n → f at ≡ 0) → sum_by f (range_with_len from n) ≡ 0
  none_summed zero from each = refl
  none_summed (suc n) from each =
      let parts : sum_by f (range_with_len from (suc n)) ≡ f from + sum_by f (range_with_len (from + 1) n) =
      sum_by-cons f from (range_with_len (from + 1) n) in
      let here = each from (omega arith) (omega arith) in
      let rest = none_summed n (from + 1) (λ at low high. each at (omega (arith, low)) (omega (arith, high))) in
      omega (arith, parts, here, rest)

all_contained : {T : Type 0} (P : T → Type 0) (xs : List T) (k : ℕ) (x : T) → AllByRecursion P xs → k < length xs → get_or xs k x ≡ x → P x
all_contained P [] k x all within is = absurd (omega (arith, within))
all_contained P (y ∷ xs) zero x all within is = subst P is all.0
all_contained P (y ∷ xs) (suc k) x all within is = all_contained P xs k x all.1 (omega (arith, within)) is

-- ---- which items count
-- the test of a frame
pub is_announced-decides : (host : Bool) (xs ys : List ℕ) → Decides (not host && bytes_eq xs ys) ((host ≡ false) × (xs ≡ ys))
is_announced-decides true xs ys = (λ e. absurd (cc), λ h. absurd (cc))
is_announced-decides false xs ys = (λ e. (refl, (bytes_eq-Decides xs ys).0 e), λ h. (bytes_eq-Decides xs ys).1 h.1)

module _ (v : SwitchView) (port : ℕ) where
  timely_is : (frame : List ℕ) → is_stale v port (Control frame) ≡ false → IsAnnounced v port frame
  unfolding is_stale
  timely_is frame h =
      let both = (is_announced-decides (port_of v port).host frame (announcement v port)).0 (not-false (is_announced v port frame) h) in
      record { told = both.0; is = both.1 }

  timely_counts : (frame : List ℕ) → IsAnnounced v port frame → is_stale v port (Control frame) ≡ false
  unfolding is_stale
  timely_counts frame is = ap not ((is_announced-decides (port_of v port).host frame (announcement v port)).1 (is.told, is.is))

  not_stale : (item : Item) → ((frame : List ℕ) → item ≡ Control frame → IsAnnounced v port frame) → is_stale v port item ≡ false
  unfolding is_stale
  not_stale (Control frame) is = timely_counts frame (is frame refl)
  not_stale (Data id frame) is = refl

question_is : (told : ToManager) → is_report told ≡ false → IsQuestion told
question_is (tell.Place place) h = absurd (cc)
question_is (tell.Link neighbour usable) h = absurd (cc)
question_is tell.PodWanted h = absurd (cc)
question_is (tell.Learned pmac amac ip) h = absurd (cc)
question_is (tell.Aged pmac number) h = absurd (cc)
question_is (tell.Begin epoch) h = absurd (cc)
question_is (tell.End epoch) h = absurd (cc)
question_is (tell.Trapped trapped toward numbered) h = absurd (cc)
question_is (tell.Query asker asker_ip ip) h = tt
question_is (tell.Members group any) h = absurd (cc)

question_counts : (told : ToManager) → IsQuestion told → is_report told ≡ false
question_counts (tell.Place place) is = absurd is
question_counts (tell.Link neighbour usable) is = absurd is
question_counts tell.PodWanted is = absurd is
question_counts (tell.Learned pmac amac ip) is = absurd is
question_counts (tell.Aged pmac number) is = absurd is
question_counts (tell.Begin epoch) is = absurd is
question_counts (tell.End epoch) is = absurd is
question_counts (tell.Trapped trapped toward numbered) is = absurd is
question_counts (tell.Query asker asker_ip ip) is = refl
question_counts (tell.Members group any) is = absurd is

reply_is : (says : ToSwitch) → is_order says ≡ false → IsReply says
reply_is (order.Pod pod) h = absurd (cc)
reply_is (order.Answer asker asker_ip ip pmac) h = tt
reply_is (order.Flood asker asker_ip ip) h = tt
reply_is (order.Avoid list) h = absurd (cc)
reply_is (order.Invalidate old new number ip) h = absurd (cc)
reply_is (order.Release pmac) h = absurd (cc)
reply_is (order.Hello epoch) h = absurd (cc)
reply_is (order.Tree group part) h = absurd (cc)

reply_counts : (says : ToSwitch) → IsReply says → is_order says ≡ false
reply_counts (order.Pod pod) is = absurd is
reply_counts (order.Answer asker asker_ip ip pmac) is = refl
reply_counts (order.Flood asker asker_ip ip) is = refl
reply_counts (order.Avoid list) is = absurd is
reply_counts (order.Invalidate old new number ip) is = absurd is
reply_counts (order.Release pmac) is = absurd is
reply_counts (order.Hello epoch) is = absurd is
reply_counts (order.Tree group part) is = absurd is

-- ---- both ways
module _ (w : WorldView) where
  none_stale_out : (s port : ℕ) (v : SwitchView) (frame : List ℕ) → stale w.plan.k w.switches w.out ≡ 0 → slice_get w.switches s ≡ Some v →
      port < w.plan.k → Contains (out_of w s port) (Control frame) → IsAnnounced v port frame
  none_stale_out s port v frame none found low there =
      let within = slice_get_within w.switches s v found in
      let here = none_summed_at (stale_at w.plan.k w.switches w.out) (length w.switches) 0 s none (omega arith) (omega (arith, within)) in
      let queue : stale_in (slice_get w.switches s) port (out_of w s port) ≡ 0 =
      none_summed_at (λ q. stale_in (slice_get w.switches s) q (items_at w.out (port_index w.plan.k s q))) w.plan.k 0 port here (omega arith) (omega (arith, low)) in
      let is : count_by (is_stale v port) (out_of w s port) ≡ 0 = ap (λ o. stale_in o port (out_of w s port)) (sym found) ∙ queue in
      timely_is v port frame (none_contained (is_stale v port) (out_of w s port) (Control frame) is there)

  stale_none : HasSettledQueues w → stale w.plan.k w.switches w.out ≡ 0
  stale_none settled = none_summed (stale_at w.plan.k w.switches w.out) (length w.switches) 0 (λ s above below.
      none_summed (λ q. stale_in (slice_get w.switches s) q (items_at w.out (port_index w.plan.k s q))) w.plan.k 0 (λ port low high.
      at_queue s port (omega (arith, high)) (slice_get w.switches s) refl))
    where
      at_queue : (s port : ℕ) → port < w.plan.k → (v : Option SwitchView) → slice_get w.switches s ≡ v → stale_in v port (out_of w s port) ≡ 0
      at_queue s port low None found = refl
      at_queue s port low (Some v) found = none_counted (is_stale v port) (out_of w s port) (λ item there.
          not_stale v port item (λ frame same. settled.out_of_ports s port v frame found low (subst (Contains (out_of w s port)) same there)))

  pub no_control_from_host : IsCounted w → (h : ℕ) (frame : List ℕ) → Contains (items_at w.from_hosts h) (Control frame) → ⊥
  no_control_from_host counted h frame there =
      all_contained IsDataItem (items_at w.from_hosts h) there.0 (Control frame)
      (all_at (AllByRecursion IsDataItem) w.from_hosts h [] tt counted.in_host_queues) there.1 there.2

  settled_by_count : IsCounted w → pending w ≡ 0 → HasSettledQueues w
  settled_by_count counted none = record {
    out_of_ports = λ s port v frame found low there. none_stale_out s port v frame (omega (arith, none)) found low there;
    from_hosts = no_control_from_host counted;
    to_manager = λ s told there. question_is told
        (none_contained is_report (items_at w.to_manager s) told (none_in is_report w.to_manager s (omega (arith, none))) there);
    from_manager = λ s says there. reply_is says
        (none_contained is_order (items_at w.from_manager s) says (none_in is_order w.from_manager s (omega (arith, none))) there);
  }

  count_by_settled : HasSettledQueues w → pending w ≡ 0
  count_by_settled settled =
      let out = stale_none settled in
      let reports : counted_in is_report w.to_manager ≡ 0 = none_of_all is_report w.to_manager (λ s. none_counted is_report (items_at w.to_manager s)
      (λ told there. question_counts told (settled.to_manager s told there))) in
      let orders : counted_in is_order w.from_manager ≡ 0 = none_of_all is_order w.from_manager (λ s. none_counted is_order (items_at w.from_manager s)
      (λ says there. reply_counts says (settled.from_manager s says there))) in
      omega (arith, out, reports, orders)

  pub none_is_pending : IsCounted w → (pending w ≡ 0) ↔ HasSettledQueues w
  none_is_pending counted = (settled_by_count counted, count_by_settled)
