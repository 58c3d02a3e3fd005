-- What each run of lawful logic keeps, each execution keeps.
use Rattle.std.proofs.Common.{◌≡◌, ℕ, zero, suc, List, [], ◌∷◌, MatchOption, Option, Some, None, replicate, refl, sym, subst}
use Rattle.pl_node.specs.HostInputs.{HostRule}
use Rattle.pl_node.specs.ManagerDuties.{ManagerRule}
use Rattle.pl_node.specs.SwitchInputs.{SwitchRule}
use Rattle.pl_world.specs.declared.error.StepError.{StepError}
use Rattle.pl_world.specs.declared.event.Event.{Event}
use Rattle.pl_world.specs.declared.event.Event.TheVariants.{Deliver}
use Rattle.pl_world.specs.declared.event.QueueName.{QueueName}
use Rattle.pl_world.specs.Refusals.{refusal}
use Rattle.pl_world.specs.Runs.{Moment, WorldRun}
use Rattle.pl_world.specs.Runs.Moment.{Step}
use Rattle.pl_world.specs.WorldRule.{WorldStep}
use Rattle.pl_world.specs.Worlds.{WorldView}
use Rattle.pl_fabric.specs.declared.settling.Settling.{Settling}
use Rattle.pl_fabric.specs.Executions.{Execution, GoesOnBehind, Makes, MakesAll, Stays, Then, Times}
use Rattle.pl_fabric.specs.Draws.{Draws, drawn, next_number}
use Rattle.pl_fabric.specs.Rounds.{GoesRound, Sweeps, TicksAll, Visits, VisitsAll, queues_from, ticks, waiting}
use Rattle.pl_fabric.specs.Settlings.{GoesRounds, Settles}
use Rattle.pl_law_invariant.specs.ControlInvariant.{ControlInvariant}
use Rattle.pl_law_invariant.specs.KeepsAll.{KeepsAll}

stays_keeps : KeepsAll Stays
stays_keeps = λ old end new before done. subst ControlInvariant (sym done.1) before

goes_on_keeps : (next : Execution) → KeepsAll next → (stop : Option StepError) (between : WorldView) (end : Option StepError) (new : WorldView) → ControlInvariant between →
    GoesOnBehind next stop between end new → ControlInvariant new
goes_on_keeps next keeps None between end new before done = keeps between end new before done
goes_on_keeps next keeps (Some reason) between end new before done = subst ControlInvariant (sym done.1) before

then_keeps : (first next : Execution) → KeepsAll first → KeepsAll next → KeepsAll (Then first next)
then_keeps first next keeps on = λ old end new before done.
    goes_on_keeps next on done.0 done.1 end new (keeps old done.0 done.1 before done.2) done.3

times_keeps : (n : ℕ) (execution : Execution) → KeepsAll execution → KeepsAll (Times n execution)
times_keeps zero execution keeps = stays_keeps
times_keeps (suc n) execution keeps = then_keeps execution (Times n execution) keeps (times_keeps n execution keeps)

module _ (switch : SwitchRule) (manager : ManagerRule) (host : HostRule)
    (run_keeps : (old : WorldView) (moments : List Moment) (new : WorldView) → ControlInvariant old → WorldRun switch manager host old moments new → ControlInvariant new) where
  by_refusal : (refused : Option StepError) (event : Event) (old : WorldView) (end : Option StepError) (new : WorldView) → refusal old event ≡ refused → ControlInvariant old →
      MatchOption refused ((end ≡ None) × WorldStep switch manager host old event new) (λ reason. (end ≡ Some reason) × (new ≡ old)) → ControlInvariant new
  by_refusal None event old end new is before done = run_keeps old (Step event ∷ []) new before (new, (is, done.1), refl)
  by_refusal (Some reason) event old end new is before done = subst ControlInvariant (sym done.1) before

  pub makes_keeps : (event : Event) → KeepsAll (Makes switch manager host event)
  makes_keeps event = λ old end new before done. by_refusal (refusal old event) event old end new refl before done

  pub makes_all_keeps : (events : List Event) → KeepsAll (MakesAll switch manager host events)
  makes_all_keeps [] = stays_keeps
  makes_all_keeps (event ∷ events) =
      then_keeps (Makes switch manager host event) (MakesAll switch manager host events) (makes_keeps event) (makes_all_keeps events)

  visits_keeps : (name : QueueName) → KeepsAll (Visits switch manager host name)
  visits_keeps name = λ old. makes_all_keeps (replicate (waiting old name) (Deliver name)) old

  visits_all_keeps : (names : List QueueName) → KeepsAll (VisitsAll switch manager host names)
  visits_all_keeps [] = stays_keeps
  visits_all_keeps (name ∷ names) =
      then_keeps (Visits switch manager host name) (VisitsAll switch manager host names) (visits_keeps name) (visits_all_keeps names)

  pub sweeps_keep : KeepsAll (Sweeps switch manager host)
  sweeps_keep = λ old. visits_all_keeps (queues_from old.plan 0) old

  pub ticks_all_keep : KeepsAll (TicksAll switch manager host)
  ticks_all_keep = λ old. makes_all_keeps (ticks old.plan) old

  pub round_keeps : KeepsAll (GoesRound switch manager host)
  round_keeps =
      then_keeps (TicksAll switch manager host) (Times 4 (Sweeps switch manager host)) ticks_all_keep (times_keeps 4 (Sweeps switch manager host) sweeps_keep)

  pub rounds_keep : (n : ℕ) → KeepsAll (GoesRounds switch manager host n)
  rounds_keep zero = stays_keeps
  rounds_keep (suc n) = λ old end new before done.
      then_keeps (GoesRound switch manager host) (GoesRounds switch manager host n) round_keeps (rounds_keep n) old end new before done.1

  pub settles_keeps : (asked : ℕ) (old : WorldView) (answer : Settling) (new : WorldView) → ControlInvariant old → Settles switch manager host asked old answer new → ControlInvariant new
  settles_keeps asked old answer new before settles = rounds_keep settles.used old None new before settles.rounds

  pub draws_keep : (n x : ℕ) → KeepsAll (Draws switch manager host n x)
  draws_keep zero x = stays_keeps
  draws_keep (suc n) x = λ old.
      then_keeps (Makes switch manager host (drawn old (next_number x))) (Draws switch manager host n (next_number x)) (makes_keeps (drawn old (next_number x)))
      (draws_keep n (next_number x)) old
