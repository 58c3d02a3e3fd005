-- What is done in an execution is a run: steps one after the other, none of which is refused.
use Rattle.std.proofs.Common.{◌≡◌, ℕ, zero, suc, List, [], ◌∷◌, replicate, MatchOption, Option, Some, None, refl, subst}
use Rattle.pl_node.specs.HostInputs.{HostRule}
use Rattle.pl_node.specs.ManagerDuties.{ManagerRule}
use Rattle.pl_node.specs.SwitchInputs.{SwitchRule}
use Rattle.pl_world.specs.declared.error.StepError.{StepError}
use Rattle.pl_world.specs.declared.event.Event.{Event}
use Rattle.pl_world.specs.declared.event.Event.TheVariants.{Deliver}
use Rattle.pl_world.specs.declared.event.QueueName.{QueueName}
use Rattle.pl_world.specs.Refusals.{refusal}
use Rattle.pl_world.specs.Runs.{Moment, WorldRun}
use Rattle.pl_world.specs.Runs.Moment.{Step}
use Rattle.pl_world.specs.WorldRule.{WorldStep}
use Rattle.pl_world.specs.Worlds.{WorldView}
use Rattle.pl_fabric.specs.Executions.{Execution, GoesOnBehind, Makes, MakesAll, Stays, Then, Times}
use Rattle.pl_fabric.specs.Draws.{Draws, drawn, next_number}
use Rattle.pl_fabric.specs.Rounds.{GoesRound, Sweeps, TicksAll, Visits, VisitsAll, queues_from, ticks, waiting}
use Rattle.pl_fabric.specs.Settlings.{GoesRounds}

module _ (switch : SwitchRule) (manager : ManagerRule) (host : HostRule) where
  abbrev pub IsRun : WorldView → WorldView → Type 0
  IsRun old new = (moments : List Moment) × WorldRun switch manager host old moments new

  -- all that an execution does is a run
  record Ran (execution : Execution) : Type 0 where
    run : (old : WorldView) (end : Option StepError) (new : WorldView) → execution old end new → IsRun old new

  joined : (old between new : WorldView) (moments : List Moment) → WorldRun switch manager host old moments between → IsRun between new → IsRun old new
  joined old between new [] same rest = subst (λ w. IsRun w new) same rest
  joined old between new (m ∷ moments) run rest =
      let more = joined run.0 between new moments run.2 rest in
      (m ∷ more.0, (run.0, run.1, more.1))

  stays_ran : Ran Stays
  stays_ran = record { run = λ old end new done. ([], done.1) }

  made : (event : Event) (old new : WorldView) (end o : Option StepError) → refusal old event ≡ o →
      MatchOption o ((end ≡ None) × WorldStep switch manager host old event new) (λ reason. (end ≡ Some reason) × (new ≡ old)) → IsRun old new
  made event old new end None is done = (Step event ∷ [], (new, (is, done.1), refl))
  made event old new end (Some reason) is done = ([], done.1)

  makes_ran : (event : Event) → Ran (Makes switch manager host event)
  makes_ran event = record { run = λ old end new done. made event old new end (refusal old event) refl done }

  gone_on : (next : Execution) → Ran next → (between new : WorldView) (end stop : Option StepError) → GoesOnBehind next stop between end new → IsRun between new
  gone_on next ran between new end None done = ran.run between end new done
  gone_on next ran between new end (Some reason) done = ([], done.1)

  then_ran : (first next : Execution) → Ran first → Ran next → Ran (Then first next)
  then_ran first next ran_first ran_next = record {
    run = λ old end new done.
        let before = ran_first.run old done.0 done.1 done.2 in
        joined old done.1 new before.0 before.1 (gone_on next ran_next done.1 new end done.0 done.3);
  }

  makes_all_ran : (events : List Event) → Ran (MakesAll switch manager host events)
  makes_all_ran [] = stays_ran
  makes_all_ran (event ∷ events) = then_ran (Makes switch manager host event) (MakesAll switch manager host events) (makes_ran event) (makes_all_ran events)

  times_ran : (n : ℕ) (execution : Execution) → Ran execution → Ran (Times n execution)
  times_ran zero execution ran = stays_ran
  times_ran (suc n) execution ran = then_ran execution (Times n execution) ran (times_ran n execution ran)

  visits_ran : (name : QueueName) → Ran (Visits switch manager host name)
  visits_ran name = record { run = λ old end new done. (makes_all_ran (replicate (waiting old name) (Deliver name))).run old end new done }

  visits_all_ran : (names : List QueueName) → Ran (VisitsAll switch manager host names)
  visits_all_ran [] = stays_ran
  visits_all_ran (name ∷ names) = then_ran (Visits switch manager host name) (VisitsAll switch manager host names) (visits_ran name) (visits_all_ran names)

  sweeps_ran : Ran (Sweeps switch manager host)
  sweeps_ran = record { run = λ old end new done. (visits_all_ran (queues_from old.plan 0)).run old end new done }

  ticks_ran : Ran (TicksAll switch manager host)
  ticks_ran = record { run = λ old end new done. (makes_all_ran (ticks old.plan)).run old end new done }

  round_ran : Ran (GoesRound switch manager host)
  round_ran = then_ran (TicksAll switch manager host) (Times 4 (Sweeps switch manager host)) ticks_ran (times_ran 4 (Sweeps switch manager host) sweeps_ran)

  rounds_ran : (n : ℕ) → Ran (GoesRounds switch manager host n)
  rounds_ran zero = stays_ran
  rounds_ran (suc n) = record {
    run = λ old end new done.
        (then_ran (GoesRound switch manager host) (GoesRounds switch manager host n) round_ran (rounds_ran n)).run old end new done.1;
  }

  draws_ran : (n x : ℕ) → Ran (Draws switch manager host n x)
  draws_ran zero x = stays_ran
  draws_ran (suc n) x = record {
    run = λ old end new done.
        (then_ran (Makes switch manager host (drawn old (next_number x))) (Draws switch manager host n (next_number x)) (makes_ran (drawn old (next_number x)))
        (draws_ran n (next_number x))).run old end new done;
  }

  pub sweep_is_run : (old new : WorldView) (end : Option StepError) → Sweeps switch manager host old end new → IsRun old new
  sweep_is_run old new end done = sweeps_ran.run old end new done

  pub rounds_are_run : (n : ℕ) (old new : WorldView) (end : Option StepError) → GoesRounds switch manager host n old end new → IsRun old new
  rounds_are_run n old new end done = (rounds_ran n).run old end new done

  pub draws_are_run : (n x : ℕ) (old new : WorldView) (end : Option StepError) → Draws switch manager host n x old end new → IsRun old new
  draws_are_run n x old new end done = (draws_ran n x).run old end new done
