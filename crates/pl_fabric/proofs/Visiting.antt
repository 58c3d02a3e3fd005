-- A sweep looks at no empty queue.
use Rattle.std.proofs.Common.{◌≡◌, ℕ, zero, suc, ◌+◌, ◌-◌, ◌<◌, ◌≤◌, Bool, true, false, cond, List, [], ◌∷◌, length, map, replicate, Option, Some, None, MatchOption, unwrap_or, refl, sym, subst, arith}
use Rattle.std.specs.List.{range_with_len}
use Rattle.pl_wiring.specs.Plan.{Plan}
use Rattle.pl_node.specs.HostInputs.{HostRule}
use Rattle.pl_node.specs.ManagerDuties.{ManagerRule}
use Rattle.pl_node.specs.SwitchInputs.{SwitchRule}
use Rattle.pl_queue_array.specs.Bits.{IsLeast}
use Rattle.pl_queues.specs.Queues.{has_items, items_at}
use Rattle.pl_queue_array.proofs.Exports.{next_index_is_least}
use Rattle.pl_world.specs.declared.error.StepError.{StepError}
use Rattle.pl_world.specs.declared.event.Event.TheVariants.{Deliver}
use Rattle.pl_world.specs.declared.event.QueueName.{QueueName}
use Rattle.pl_world.specs.declared.event.QueueName.TheVariants as queue
use Rattle.pl_world.specs.Changes.{out_of}
use Rattle.pl_world.specs.QueueOrder.{has_items_at, next_queue, queue_at, queue_count}
use Rattle.pl_world.specs.Refusals.{has_host, has_port, has_switch, is_filled}
use Rattle.pl_world.specs.Worlds.{WorldView}
use Rattle.pl_fabric.specs.Executions.{MakesAll, Then}
use Rattle.pl_fabric.specs.Rounds.{Visits, VisitsAll, queues_from, waiting}

none_waits : {T : Type 0} (there : Bool) (xs : List T) → has_items xs ≡ false → unwrap_or (cond there (Some (length xs)) None) 0 ≡ 0
none_waits false xs none = refl
none_waits true [] none = refl
none_waits true (x ∷ xs) none = absurd (cc)

pub none_waiting : (w : WorldView) (name : QueueName) → is_filled w name ≡ false → waiting w name ≡ 0
none_waiting w (queue.FromHost h) none = none_waits (has_host w.plan h.0) (items_at w.from_hosts h.0) none
none_waiting w (queue.Port s port) none = none_waits (has_port w.plan s.0 port) (out_of w s.0 port) none
none_waiting w (queue.ToManager s) none = none_waits (has_switch w.plan s.0) (items_at w.to_manager s.0) none
none_waiting w (queue.FromManager s) none = none_waits (has_switch w.plan s.0) (items_at w.from_manager s.0) none

-- the next queue with items is the first; where there is none, no queue has any
abbrev pub IsFirst : WorldView → ℕ → Option ℕ → Type 0
IsFirst w from next = MatchOption next
    ((k : ℕ) → from ≤ k → k < queue_count w.plan → has_items_at w k ≡ false)
    (λ n. IsLeast (has_items_at w) from n × (n < queue_count w.plan))

pub next_is_first : (w : WorldView) (from : ℕ) (next : Option ℕ) → next ≡ next_queue w from → IsFirst w from next
next_is_first w from next is = next_index_is_least (has_items_at w) (queue_count w.plan) from next is

module _ (switch : SwitchRule) (manager : ManagerRule) (host : HostRule) (w : WorldView) where
  stays : (name : QueueName) → is_filled w name ≡ false → Visits switch manager host name w None w
  stays name none = subst (λ n. MakesAll switch manager host (replicate n (Deliver name)) w None w) (sym (none_waiting w name none)) (refl, refl)

  -- m queues with no items are passed over
  passed_over : (plan : Plan) (end : Option StepError) (new : WorldView) (m rest from at all : ℕ) → at ≡ from + m → all ≡ m + rest →
      ((k : ℕ) → from ≤ k → k < at → is_filled w (queue_at plan k) ≡ false) →
      VisitsAll switch manager host (map (queue_at plan) (range_with_len at rest)) w end new →
      VisitsAll switch manager host (map (queue_at plan) (range_with_len from all)) w end new
  passed_over plan end new zero rest from at all here many none visits =
      let place : at ≡ from = omega arith in
      let long : rest ≡ all = omega arith in
      subst (λ n. VisitsAll switch manager host (map (queue_at plan) (range_with_len n all)) w end new) place
      (subst (λ n. VisitsAll switch manager host (map (queue_at plan) (range_with_len at n)) w end new) long visits)
  passed_over plan end new (suc m) rest from at all here many none visits =
      let long : suc (m + rest) ≡ all = omega arith in
      subst (λ n. VisitsAll switch manager host (map (queue_at plan) (range_with_len from n)) w end new) long (
        None,
        w,
        stays (queue_at plan from) (none from (omega arith) (omega arith)),
        passed_over plan end new m rest (from + 1) at (m + rest) (omega arith) refl (λ k low high. none k (omega arith) high) visits,
      )

  -- so the next queue with items is the one that is visited next
  pub next_visited : (plan : Plan) (from n : ℕ) (end : Option StepError) (new : WorldView) → w.plan ≡ plan → IsFirst w from (Some n) →
      Then (Visits switch manager host (queue_at plan n)) (VisitsAll switch manager host (queues_from plan (n + 1))) w end new →
      VisitsAll switch manager host (queues_from plan from) w end new
  next_visited plan from n end new same first rest =
      let low = first.0.reached in
      let high : n < queue_count plan = subst (λ p. n < queue_count p) same first.1 in
      let one : suc (queue_count plan - (n + 1)) ≡ queue_count plan - n = omega arith in
      passed_over plan end new (n - from) (queue_count plan - n) from n (queue_count plan - from) (omega arith) (omega arith)
      (λ k above below. subst (λ p. is_filled w (queue_at p k) ≡ false) same (first.0.least k above below))
      (subst (λ m. VisitsAll switch manager host (map (queue_at plan) (range_with_len n m)) w end new) one rest)

  -- and where there is none the sweep is at its end
  pub none_visited : (plan : Plan) (from : ℕ) → w.plan ≡ plan → IsFirst w from None → VisitsAll switch manager host (queues_from plan from) w None w
  none_visited plan from same first =
      passed_over plan None w (queue_count plan - from) 0 from (from + (queue_count plan - from)) (queue_count plan - from) refl (omega arith)
      (λ k above below. subst (λ p. is_filled w (queue_at p k) ≡ false) same
      (first k above (subst (λ p. k < queue_count p) (sym same) (let high : k < queue_count plan = omega arith in high))))
      (refl, refl)
