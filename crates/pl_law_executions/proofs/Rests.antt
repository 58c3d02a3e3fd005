-- With rules that leave no choice a settling goes one way, and answers one thing.
use Rattle.std.proofs.Common.{◌≡◌, ℕ, zero, suc, ◌<◌, ◌≤◌, Option, Some, None, inl, inr, refl, sym, ◌∙◌, ap, subst, arith}
use Rattle.std.proofs.lemmas.Bool.{cases_lt}
use Rattle.pl_node.specs.HostInputs.{HostRule}
use Rattle.pl_node.specs.ManagerDuties.{ManagerRule}
use Rattle.pl_node.specs.SwitchInputs.{SwitchRule}
use Rattle.pl_world.specs.declared.error.StepError.{StepError}
use Rattle.pl_world.specs.Worlds.{WorldView}
use Rattle.pl_law_runs.specs.NoChoice.{LeavesHostNoChoice, LeavesManagerNoChoice, LeavesSwitchNoChoice}
use Rattle.pl_fabric.specs.declared.settling.Settling.{Settling}
use Rattle.pl_fabric.specs.declared.settling.Settling.TheVariants.{NotSettled, Settled}
use Rattle.pl_fabric.specs.Executions.{Execution, GoesOnBehind}
use Rattle.pl_fabric.specs.Drains.{Drains, GoesSweeps, IsDrainAnswer, IsDrained}
use Rattle.pl_fabric.specs.Rounds.{GoesRound, Sweeps}
use Rattle.pl_fabric.specs.Settlings.{GoesRounds, GoesUntil, IsSettlingAnswer, IsAtRest, Settles}
use Rattle.pl_law_executions.specs.OneWay.{IsOneWay}
use Rattle.pl_law_executions.proofs.OneWayOfExecutions.{goes_round_one_way, sweeps_one_way, until_one_way}

-- where an execution came to its end, each part of it did
came_through : (next : Execution) (before : Option StepError) (between new : WorldView) → GoesOnBehind next before between None new → before ≡ None
came_through next None between new on = refl
came_through next (Some reason) between new on = let e : None ≡ Some reason = on.0 in absurd (cc)

goes_on_from : (next : Execution) (before : Option StepError) (between : WorldView) (end : Option StepError) (new : WorldView) → before ≡ None →
    GoesOnBehind next before between end new → next between end new
goes_on_from next None between end new is on = on
goes_on_from next (Some reason) between end new is on = absurd (cc)

answers_agree : (w : WorldView) (used : ℕ) (p q : Settling) → IsSettlingAnswer w used p → IsSettlingAnswer w used q → p ≡ q
answers_agree w used (Settled rounds) (Settled more) one other = ap Settled (one.1 ∙ sym other.1)
answers_agree w used (Settled rounds) (NotSettled waiting) one other = absurd (other.0 one.0)
answers_agree w used (NotSettled waiting) (Settled rounds) one other = absurd (one.0 other.0)
answers_agree w used (NotSettled waiting) (NotSettled more) one other = ap NotSettled (one.1 ∙ sym other.1)

drained_agree : (w : WorldView) (used : ℕ) (p q : Settling) → IsDrainAnswer w used p → IsDrainAnswer w used q → p ≡ q
drained_agree w used (Settled sweeps) (Settled more) one other = ap Settled (one.1 ∙ sym other.1)
drained_agree w used (Settled sweeps) (NotSettled items) one other = absurd (other.0 one.0)
drained_agree w used (NotSettled items) (Settled sweeps) one other = absurd (one.0 other.0)
drained_agree w used (NotSettled items) (NotSettled more) one other = ap NotSettled (one.1 ∙ sym other.1)

-- ---- an execution that goes one way, again and again until the world is at rest
module _ (Rest : WorldView → Type 0) (execution : Execution) (way : IsOneWay execution) where
  -- more times go on only from a world that is not at rest
  pub no_more_times : (n m : ℕ) (old : WorldView) (end : Option StepError) (one other : WorldView) → n < m → GoesUntil Rest execution n old None one →
      GoesUntil Rest execution m old end other → Rest one → ⊥
  no_more_times zero zero old end one other less a b rest = absurd (omega arith)
  no_more_times zero (suc m) old end one other less a b rest = b.0 (subst Rest a.1 rest)
  no_more_times (suc n) zero old end one other less a b rest = absurd (omega arith)
  no_more_times (suc n) (suc m) old end one other less a b rest =
      let same = way old b.1.0 a.1.0 b.1.1 a.1.1 b.1.2 a.1.2 in
      let through : a.1.0 ≡ None = came_through (GoesUntil Rest execution n) a.1.0 a.1.1 one a.1.3 in
      no_more_times n m a.1.1 end one other (omega arith)
      (goes_on_from (GoesUntil Rest execution n) a.1.0 a.1.1 None one through a.1.3)
      (subst (λ (w : WorldView). GoesUntil Rest execution m w end other) same.1
      (goes_on_from (GoesUntil Rest execution m) b.1.0 b.1.1 end other (same.0 ∙ through) b.1.3)) rest

  -- two ways to rest, each as short as can be
  pub record IsShortest (asked : ℕ) (old new : WorldView) : Type 0 where
    pub used : ℕ
    pub times : GoesUntil Rest execution used old None new
    pub within : used ≤ asked
    pub least : used < asked → Rest new

  pub same_times : (asked : ℕ) (old one other : WorldView) (a : IsShortest asked old one) (b : IsShortest asked old other) → a.used ≡ b.used
  same_times asked old one other a b = elim (cases_lt a.used b.used) [
    | inl less ↦ absurd (no_more_times a.used b.used old None one other less a.times b.times (a.least (let most = b.within in omega arith)))
    | inr most ↦ elim (cases_lt b.used a.used) [
      | inl less ↦ absurd (no_more_times b.used a.used old None other one less b.times a.times (b.least (let all = a.within in omega arith)))
      | inr least ↦ omega arith
    ]
  ]

  pub same_rest : (asked : ℕ) (old one other : WorldView) (a : IsShortest asked old one) (b : IsShortest asked old other) → one ≡ other
  same_rest asked old one other a b =
      let used : a.used ≡ b.used = same_times asked old one other a b in
      let times : GoesUntil Rest execution a.used old None other = subst (λ (n : ℕ). GoesUntil Rest execution n old None other) (sym used) b.times in
      (until_one_way Rest execution way a.used old None None one other a.times times).1

  -- one that comes to its end is refused no step
  pub times_unrefused : (asked : ℕ) (old one other : WorldView) (reason : StepError) → IsShortest asked old one → GoesUntil Rest execution asked old (Some reason) other → ⊥
  times_unrefused asked old one other reason a b = elim (cases_lt a.used asked) [
    | inl less ↦ no_more_times a.used asked old (Some reason) one other less a.times b (a.least less)
    | inr most ↦
        let used : asked ≡ a.used = let within = a.within in omega arith in
        let times : GoesUntil Rest execution a.used old (Some reason) other = subst (λ (n : ℕ). GoesUntil Rest execution n old (Some reason) other) used b in
        let same = (until_one_way Rest execution way a.used old None (Some reason) one other a.times times).0 in
        absurd (cc)
  ]

module _ (switch : SwitchRule) (manager : ManagerRule) (host : HostRule) (switches : LeavesSwitchNoChoice switch) (managers : LeavesManagerNoChoice manager)
    (hosts : LeavesHostNoChoice host) where
  abbrev round_way : IsOneWay (GoesRound switch manager host)
  round_way = goes_round_one_way switch manager host switches managers hosts

  abbrev sweep_way : IsOneWay (Sweeps switch manager host)
  sweep_way = sweeps_one_way switch manager host switches managers hosts

  abbrev by_rounds : (asked : ℕ) (old new : WorldView) (p : Settling) → Settles switch manager host asked old p new →
      IsShortest IsAtRest (GoesRound switch manager host) round_way asked old new
  by_rounds asked old new p a = record { used = a.used; times = a.rounds; within = a.within; least = a.least }

  abbrev by_sweeps : (asked : ℕ) (old new : WorldView) (p : Settling) → Drains switch manager host asked old p new →
      IsShortest IsDrained (Sweeps switch manager host) sweep_way asked old new
  by_sweeps asked old new p a = record { used = a.used; times = a.sweeps; within = a.within; least = a.least }

  -- two settlings of one world
  pub settles_one_way : (asked : ℕ) (old one other : WorldView) (p q : Settling) → Settles switch manager host asked old p one →
      Settles switch manager host asked old q other → (p ≡ q) × (one ≡ other)
  settles_one_way asked old one other p q a b =
      let used : a.used ≡ b.used = same_times IsAtRest (GoesRound switch manager host) round_way asked old one other (by_rounds asked old one p a) (by_rounds asked old other q b) in
      let same : one ≡ other = same_rest IsAtRest (GoesRound switch manager host) round_way asked old one other (by_rounds asked old one p a) (by_rounds asked old other q b) in
      let answered : IsSettlingAnswer one a.used q =
      subst (λ (w : WorldView). IsSettlingAnswer w a.used q) (sym same) (subst (λ (n : ℕ). IsSettlingAnswer other n q) (sym used) b.answered) in
      (answers_agree one a.used p q a.answered answered, same)

  -- a settling that comes to its end is refused no step
  pub settles_unrefused : (asked : ℕ) (old one other : WorldView) (p : Settling) (reason : StepError) → Settles switch manager host asked old p one →
      GoesRounds switch manager host asked old (Some reason) other → ⊥
  settles_unrefused asked old one other p reason a b =
      times_unrefused IsAtRest (GoesRound switch manager host) round_way asked old one other reason (by_rounds asked old one p a) b

  -- the same of sweeps until no queue has items
  pub drains_one_way : (asked : ℕ) (old one other : WorldView) (p q : Settling) → Drains switch manager host asked old p one →
      Drains switch manager host asked old q other → (p ≡ q) × (one ≡ other)
  drains_one_way asked old one other p q a b =
      let used : a.used ≡ b.used = same_times IsDrained (Sweeps switch manager host) sweep_way asked old one other (by_sweeps asked old one p a) (by_sweeps asked old other q b) in
      let same : one ≡ other = same_rest IsDrained (Sweeps switch manager host) sweep_way asked old one other (by_sweeps asked old one p a) (by_sweeps asked old other q b) in
      let answered : IsDrainAnswer one a.used q =
      subst (λ (w : WorldView). IsDrainAnswer w a.used q) (sym same) (subst (λ (n : ℕ). IsDrainAnswer other n q) (sym used) b.answered) in
      (drained_agree one a.used p q a.answered answered, same)

  pub drains_unrefused : (asked : ℕ) (old one other : WorldView) (p : Settling) (reason : StepError) → Drains switch manager host asked old p one →
      GoesSweeps switch manager host asked old (Some reason) other → ⊥
  drains_unrefused asked old one other p reason a b =
      times_unrefused IsDrained (Sweeps switch manager host) sweep_way asked old one other reason (by_sweeps asked old one p a) b
