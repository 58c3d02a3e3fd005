-- What holds when so many queues of a sweep were visited, by what each delivery keeps.
use Rattle.std.proofs.Common.{◌≡◌, ℕ, zero, suc, ◌+◌, ◌-◌, ◌<◌, ◌≤◌, map, replicate, MatchOption, Option, Some, None, refl, sym, subst, arith}
use Rattle.std.specs.List.{range_with_len}
use Rattle.pl_wiring.specs.Plan.{Plan}
use Rattle.pl_node.specs.HostInputs.{HostRule}
use Rattle.pl_node.specs.ManagerDuties.{ManagerRule}
use Rattle.pl_node.specs.SwitchInputs.{SwitchRule}
use Rattle.pl_world.specs.declared.error.StepError.{StepError}
use Rattle.pl_world.specs.declared.event.Event.TheVariants.{Deliver}
use Rattle.pl_world.specs.QueueOrder.{queue_at, queue_count}
use Rattle.pl_world.specs.Refusals.{refusal}
use Rattle.pl_world.specs.WorldRule.{WorldStep}
use Rattle.pl_world.specs.Worlds.{WorldView}
use Rattle.pl_fabric.specs.Executions.{GoesOnBehind, Makes, MakesAll}
use Rattle.pl_fabric.specs.Rounds.{Sweeps, Visits, VisitsAll, waiting}

module _ (switch : SwitchRule) (manager : ManagerRule) (host : HostRule) where
  -- Of a sweep: what holds before queue number n is visited, and what holds while so many of its items are left to be delivered.
  pub record IsSwept (plan : Plan) (before : ℕ → WorldView → Type 0) (within : ℕ → ℕ → WorldView → Type 0) : Type 0 where
    pub begins : (n : ℕ) (w : WorldView) → n < queue_count plan → before n w → within n (waiting w (queue_at plan n)) w
    pub delivers : (n many : ℕ) (old new : WorldView) → n < queue_count plan → within n (suc many) old → refusal old (Deliver (queue_at plan n)) ≡ None →
        WorldStep switch manager host old (Deliver (queue_at plan n)) new → within n many new
    pub ends : (n : ℕ) (w : WorldView) → n < queue_count plan → within n 0 w → before (n + 1) w

  module _ (plan : Plan) (before : ℕ → WorldView → Type 0) (within : ℕ → ℕ → WorldView → Type 0) (is : IsSwept plan before within) where
    delivered : (n many : ℕ) (old new : WorldView) (o : Option StepError) → n < queue_count plan → refusal old (Deliver (queue_at plan n)) ≡ o → within n (suc many) old →
        MatchOption o (◌≡◌ {A = Option StepError} None None × WorldStep switch manager host old (Deliver (queue_at plan n)) new) (λ reason. ◌≡◌ {A = Option StepError} None (Some reason) × (new ≡ old)) → within n many new
    delivered n many old new None there same holds done = is.delivers n many old new there holds same done.1
    delivered n many old new (Some reason) there same holds done = (let no : ◌≡◌ {A = Option StepError} None (Some reason) = done.0 in absurd (cc no))

    visited : (n many : ℕ) (old new : WorldView) → n < queue_count plan → within n many old →
        MakesAll switch manager host (replicate many (Deliver (queue_at plan n))) old None new → within n 0 new
    visited n zero old new there holds done = subst (within n 0) (sym done.1) holds
    visited n (suc many) old new there holds done = by done.0 done.2 done.3 (λ mid. visited n many done.1 new there mid)
      where
        by : (stop : Option StepError) → Makes switch manager host (Deliver (queue_at plan n)) old stop done.1 →
            GoesOnBehind (MakesAll switch manager host (replicate many (Deliver (queue_at plan n)))) stop done.1 None new →
            (within n many done.1 → MakesAll switch manager host (replicate many (Deliver (queue_at plan n))) done.1 None new → within n 0 new) → within n 0 new
        by None first rest on = on (delivered n many old done.1 (refusal old (Deliver (queue_at plan n))) there refl holds first) rest
        by (Some reason) first rest on = (let no : ◌≡◌ {A = Option StepError} None (Some reason) = rest.0 in absurd (cc no))

    visited_all : (many n : ℕ) (old new : WorldView) → n + many ≤ queue_count plan → before n old →
        VisitsAll switch manager host (map (queue_at plan) (range_with_len n many)) old None new → before (n + many) new
    visited_all zero n old new fits holds done = subst (before (n + zero)) (sym done.1) (subst (λ x. before x old) (omega arith) holds)
    visited_all (suc many) n old new fits holds done =
        by done.0 done.2 done.3 (λ then rest. subst (λ x. before x new) (omega arith) (visited_all many (n + 1) done.1 new (omega (arith, fits)) then rest))
      where
        there : n < queue_count plan
        there = omega (arith, fits)

        by : (stop : Option StepError) → Visits switch manager host (queue_at plan n) old stop done.1 →
            GoesOnBehind (VisitsAll switch manager host (map (queue_at plan) (range_with_len (n + 1) many))) stop done.1 None new →
            (before (n + 1) done.1 → VisitsAll switch manager host (map (queue_at plan) (range_with_len (n + 1) many)) done.1 None new → before (n + suc many) new) →
            before (n + suc many) new
        by None first rest on = on (is.ends n done.1 there (visited n (waiting old (queue_at plan n)) old done.1 there (is.begins n old there holds) first)) rest
        by (Some reason) first rest on = (let no : ◌≡◌ {A = Option StepError} None (Some reason) = rest.0 in absurd (cc no))

    pub swept : (old new : WorldView) → old.plan ≡ plan → before 0 old → Sweeps switch manager host old None new → before (queue_count plan) new
    swept old new same holds done =
        let all : queue_count plan - 0 ≡ queue_count plan = omega arith in
        let visits = subst (λ (p : Plan). VisitsAll switch manager host (map (queue_at p) (range_with_len 0 (queue_count p - 0))) old None new) same done in
        let each = subst (λ c. VisitsAll switch manager host (map (queue_at plan) (range_with_len 0 c)) old None new) all visits in
        subst (λ x. before x new) (omega arith) (visited_all (queue_count plan) 0 old new (omega arith) holds each)
