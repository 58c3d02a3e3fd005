-- With rules that leave no choice each execution goes one way.
use Rattle.std.proofs.Common.{◌≡◌, ℕ, zero, suc, List, [], ◌∷◌, MatchOption, Option, Some, None, replicate, sym, ◌∙◌, subst}
use Rattle.pl_node.specs.HostInputs.{HostRule}
use Rattle.pl_node.specs.ManagerDuties.{ManagerRule}
use Rattle.pl_node.specs.SwitchInputs.{SwitchRule}
use Rattle.pl_world.specs.declared.error.StepError.{StepError}
use Rattle.pl_world.specs.declared.event.Event.{Event}
use Rattle.pl_world.specs.declared.event.Event.TheVariants.{Deliver}
use Rattle.pl_world.specs.declared.event.QueueName.{QueueName}
use Rattle.pl_world.specs.Refusals.{refusal}
use Rattle.pl_world.specs.WorldRule.{WorldStep}
use Rattle.pl_world.specs.Worlds.{WorldView}
use Rattle.pl_law_runs.specs.NoChoice.{LeavesHostNoChoice, LeavesManagerNoChoice, LeavesSwitchNoChoice}
use Rattle.pl_law_runs.proofs.Exports.{steps_agree}
use Rattle.pl_fabric.specs.Executions.{Execution, GoesOnBehind, Makes, MakesAll, Stays, Then, Times}
use Rattle.pl_fabric.specs.Draws.{Draws, drawn, next_number}
use Rattle.pl_fabric.specs.Rounds.{GoesRound, Sweeps, TicksAll, Visits, VisitsAll, queues_from, ticks, waiting}
use Rattle.pl_fabric.specs.Drains.{GoesSweeps, IsDrained}
use Rattle.pl_fabric.specs.Settlings.{GoesRounds, GoesUntil, IsAtRest}
use Rattle.pl_law_executions.specs.OneWay.{GoesOneWayFrom, IsOneWay}

pub stays_one_way : IsOneWay Stays
stays_one_way = λ old end stop one other first second. (first.0 ∙ sym second.0, first.1 ∙ sym second.1)

goes_on : (next : Execution) → IsOneWay next → (before : Option StepError) (between : WorldView) (end stop : Option StepError) (one other : WorldView) →
    GoesOnBehind next before between end one → GoesOnBehind next before between stop other → (end ≡ stop) × (one ≡ other)
goes_on next way None between end stop one other first second = way between end stop one other first second
goes_on next way (Some reason) between end stop one other first second = (first.0 ∙ sym second.0, first.1 ∙ sym second.1)

-- one execution and behind it another, from this world
pub then_from : (first next : Execution) (old : WorldView) → GoesOneWayFrom first old → IsOneWay next → GoesOneWayFrom (Then first next) old
then_from first next old way on = λ end stop one other a b.
    let same = way b.0 a.0 b.1 a.1 b.2 a.2 in
    goes_on next on a.0 a.1 end stop one other a.3
    (subst (λ (w : WorldView). GoesOnBehind next a.0 w stop other) same.1
    (subst (λ (before : Option StepError). GoesOnBehind next before b.1 stop other) same.0 b.3))

pub then_one_way : (first next : Execution) → IsOneWay first → IsOneWay next → IsOneWay (Then first next)
then_one_way first next way on = λ old. then_from first next old (way old) on

pub times_one_way : (n : ℕ) (execution : Execution) → IsOneWay execution → IsOneWay (Times n execution)
times_one_way zero execution way = stays_one_way
times_one_way (suc n) execution way = then_one_way execution (Times n execution) way (times_one_way n execution way)

pub until_one_way : (Rest : WorldView → Type 0) (execution : Execution) → IsOneWay execution → (n : ℕ) → IsOneWay (GoesUntil Rest execution n)
until_one_way Rest execution way zero = stays_one_way
until_one_way Rest execution way (suc n) = λ old end stop one other a b.
    then_one_way execution (GoesUntil Rest execution n) way (until_one_way Rest execution way n) old end stop one other a.1 b.1

module _ (switch : SwitchRule) (manager : ManagerRule) (host : HostRule) (switches : LeavesSwitchNoChoice switch) (managers : LeavesManagerNoChoice manager)
    (hosts : LeavesHostNoChoice host) where
  by_refusal : (refused : Option StepError) (event : Event) (old : WorldView) (end stop : Option StepError) (one other : WorldView) →
      MatchOption refused ((end ≡ None) × WorldStep switch manager host old event one) (λ reason. (end ≡ Some reason) × (one ≡ old)) →
      MatchOption refused ((stop ≡ None) × WorldStep switch manager host old event other) (λ reason. (stop ≡ Some reason) × (other ≡ old)) →
      (end ≡ stop) × (one ≡ other)
  by_refusal None event old end stop one other a b =
      (a.0 ∙ sym b.0, steps_agree switch manager host switches managers hosts old event one other a.1 b.1)
  by_refusal (Some reason) event old end stop one other a b = (a.0 ∙ sym b.0, a.1 ∙ sym b.1)

  pub makes_one_way : (event : Event) → IsOneWay (Makes switch manager host event)
  makes_one_way event = λ old end stop one other a b. by_refusal (refusal old event) event old end stop one other a b

  pub makes_all_one_way : (events : List Event) → IsOneWay (MakesAll switch manager host events)
  makes_all_one_way [] = stays_one_way
  makes_all_one_way (event ∷ events) =
      then_one_way (Makes switch manager host event) (MakesAll switch manager host events) (makes_one_way event) (makes_all_one_way events)

  pub visits_one_way : (name : QueueName) → IsOneWay (Visits switch manager host name)
  visits_one_way name = λ old. makes_all_one_way (replicate (waiting old name) (Deliver name)) old

  pub visits_all_one_way : (names : List QueueName) → IsOneWay (VisitsAll switch manager host names)
  visits_all_one_way [] = stays_one_way
  visits_all_one_way (name ∷ names) =
      then_one_way (Visits switch manager host name) (VisitsAll switch manager host names) (visits_one_way name) (visits_all_one_way names)

  pub sweeps_one_way : IsOneWay (Sweeps switch manager host)
  sweeps_one_way = λ old. visits_all_one_way (queues_from old.plan 0) old

  pub ticks_all_one_way : IsOneWay (TicksAll switch manager host)
  ticks_all_one_way = λ old. makes_all_one_way (ticks old.plan) old

  pub goes_round_one_way : IsOneWay (GoesRound switch manager host)
  goes_round_one_way =
      then_one_way (TicksAll switch manager host) (Times 4 (Sweeps switch manager host)) ticks_all_one_way
      (times_one_way 4 (Sweeps switch manager host) sweeps_one_way)

  pub goes_rounds_one_way : (n : ℕ) → IsOneWay (GoesRounds switch manager host n)
  goes_rounds_one_way = until_one_way IsAtRest (GoesRound switch manager host) goes_round_one_way

  pub goes_sweeps_one_way : (n : ℕ) → IsOneWay (GoesSweeps switch manager host n)
  goes_sweeps_one_way = until_one_way IsDrained (Sweeps switch manager host) sweeps_one_way

  pub draws_one_way : (n x : ℕ) → IsOneWay (Draws switch manager host n x)
  draws_one_way zero x = stays_one_way
  draws_one_way (suc n) x = λ old.
      then_from (Makes switch manager host (drawn old (next_number x))) (Draws switch manager host n (next_number x)) old
      (makes_one_way (drawn old (next_number x)) old) (draws_one_way n (next_number x))
