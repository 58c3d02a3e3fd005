-- What holds of each step that is made, of nothing, and of one thing with another behind it, holds along each execution.
use Rattle.std.proofs.Common.{◌≡◌, ℕ, zero, suc, List, [], ◌∷◌, map, replicate, MatchOption, Option, Some, None, refl, sym, subst}
use Rattle.pl_node.specs.HostInputs.{HostRule}
use Rattle.pl_node.specs.ManagerDuties.{ManagerRule}
use Rattle.pl_node.specs.SwitchInputs.{SwitchRule}
use Rattle.pl_world.specs.declared.error.StepError.{StepError}
use Rattle.pl_world.specs.declared.event.Event.{Event}
use Rattle.pl_world.specs.declared.event.Event.TheVariants.{Deliver, Tick}
use Rattle.pl_world.specs.declared.event.QueueName.{QueueName}
use Rattle.pl_world.specs.Changes.{switch_no}
use Rattle.pl_world.specs.QueueOrder.{switch_numbers}
use Rattle.pl_world.specs.Refusals.{refusal}
use Rattle.pl_world.specs.WorldRule.{WorldStep}
use Rattle.pl_world.specs.Worlds.{WorldView}
use Rattle.pl_fabric.specs.Executions.{Execution, GoesOnBehind, Makes, MakesAll, Stays, Then, Times}
use Rattle.pl_fabric.specs.Draws.{Draws, delivery_or_tick, drawn, next_number}
use Rattle.pl_fabric.specs.Rounds.{GoesRound, Sweeps, TicksAll, Visits, VisitsAll, queues_from, waiting}
use Rattle.pl_fabric.specs.Drains.{GoesSweeps, IsDrained}
use Rattle.pl_fabric.specs.Settlings.{GoesRounds, GoesUntil, IsAtRest}

-- from any world to the one that the execution comes to
abbrev pub Along : (WorldView → WorldView → Type 0) → Execution → Type 0
Along R execution = (old : WorldView) (end : Option StepError) (new : WorldView) → execution old end new → R old new

module _ (switch : SwitchRule) (manager : ManagerRule) (host : HostRule) where
  -- wherever the event is a step
  abbrev pub Holds : (WorldView → WorldView → Type 0) → Event → Type 0
  Holds R event = (old new : WorldView) → refusal old event ≡ None → WorldStep switch manager host old event new → R old new

  abbrev pub HoldsOfAll : (WorldView → WorldView → Type 0) → List Event → Type 0
  HoldsOfAll R [] = Unit {0}
  HoldsOfAll R (event ∷ events) = Holds R event × HoldsOfAll R events

module _ (switch : SwitchRule) (manager : ManagerRule) (host : HostRule) (R : WorldView → WorldView → Type 0) (stays : (w : WorldView) → R w w)
    (on : (a b c : WorldView) → R a b → R b c → R a c) where
  pub same : (old new : WorldView) → new ≡ old → R old new
  same old new is = subst (λ (w : WorldView). R old w) (sym is) (stays old)

  stays_along : Along R Stays
  stays_along = λ old end new done. same old new done.1

  by_refusal : (event : Event) → Holds switch manager host R event → (old : WorldView) (end o : Option StepError) (new : WorldView) → refusal old event ≡ o →
      MatchOption o ((end ≡ None) × WorldStep switch manager host old event new) (λ reason. (end ≡ Some reason) × (new ≡ old)) → R old new
  by_refusal event holds old end None new is done = holds old new is done.1
  by_refusal event holds old end (Some reason) new is done = same old new done.1

  pub makes_along : (event : Event) → Holds switch manager host R event → Along R (Makes switch manager host event)
  makes_along event holds = λ old end new done. by_refusal event holds old end (refusal old event) new refl done

  goes_on_along : (next : Execution) → Along R next → (between : WorldView) (end stop : Option StepError) (new : WorldView) → GoesOnBehind next stop between end new → R between new
  goes_on_along next way between end None new done = way between end new done
  goes_on_along next way between end (Some reason) new done = same between new done.1

  then_along : (first next : Execution) → Along R first → Along R next → Along R (Then first next)
  then_along first next way further =
      λ old end new done. on old done.1 new (way old done.0 done.1 done.2) (goes_on_along next further done.1 end done.0 new done.3)

  pub makes_all_along : (events : List Event) → HoldsOfAll switch manager host R events → Along R (MakesAll switch manager host events)
  makes_all_along [] holds = stays_along
  makes_all_along (event ∷ events) holds =
      then_along (Makes switch manager host event) (MakesAll switch manager host events) (makes_along event holds.0) (makes_all_along events holds.1)

  pub times_along : (n : ℕ) (execution : Execution) → Along R execution → Along R (Times n execution)
  times_along zero execution way = stays_along
  times_along (suc n) execution way = then_along execution (Times n execution) way (times_along n execution way)

  until_along : (Rest : WorldView → Type 0) (execution : Execution) → Along R execution → (n : ℕ) → Along R (GoesUntil Rest execution n)
  until_along Rest execution way zero = stays_along
  until_along Rest execution way (suc n) = λ old end new done.
      then_along execution (GoesUntil Rest execution n) way (until_along Rest execution way n) old end new done.1

  module _ (delivered : (name : QueueName) → Holds switch manager host R (Deliver name)) (ticked : (s : ℕ) → Holds switch manager host R (Tick (switch_no s))) where
    deliveries : (name : QueueName) (n : ℕ) → HoldsOfAll switch manager host R (replicate n (Deliver name))
    deliveries name zero = tt
    deliveries name (suc n) = (delivered name, deliveries name n)

    visits_along : (name : QueueName) → Along R (Visits switch manager host name)
    visits_along name = λ old end new done. makes_all_along (replicate (waiting old name) (Deliver name)) (deliveries name (waiting old name)) old end new done

    visits_all_along : (names : List QueueName) → Along R (VisitsAll switch manager host names)
    visits_all_along [] = stays_along
    visits_all_along (name ∷ names) =
        then_along (Visits switch manager host name) (VisitsAll switch manager host names) (visits_along name) (visits_all_along names)

    pub sweeps_along : Along R (Sweeps switch manager host)
    sweeps_along = λ old end new done. visits_all_along (queues_from old.plan 0) old end new done

    all_ticked : (numbers : List ℕ) → HoldsOfAll switch manager host R (map (λ s. Tick (switch_no s)) numbers)
    all_ticked [] = tt
    all_ticked (s ∷ numbers) = (ticked s, all_ticked numbers)

    pub ticks_along : Along R (TicksAll switch manager host)
    ticks_along = λ old end new done.
        makes_all_along (map (λ s. Tick (switch_no s)) (switch_numbers old.plan)) (all_ticked (switch_numbers old.plan)) old end new done

    round_along : Along R (GoesRound switch manager host)
    round_along = then_along (TicksAll switch manager host) (Times 4 (Sweeps switch manager host)) ticks_along (times_along 4 (Sweeps switch manager host) sweeps_along)

    pub rounds_along : (n : ℕ) → Along R (GoesRounds switch manager host n)
    rounds_along = until_along IsAtRest (GoesRound switch manager host) round_along

    pub drains_along : (n : ℕ) → Along R (GoesSweeps switch manager host n)
    drains_along = until_along IsDrained (Sweeps switch manager host) sweeps_along

    by_name : (o : Option QueueName) (s : ℕ) → Holds switch manager host R (delivery_or_tick o s)
    by_name None s = ticked s
    by_name (Some name) s = delivered name

    drawn_holds : (w : WorldView) (x : ℕ) → Holds switch manager host R (drawn w x)
    drawn_holds w x = by_name _ _

    pub draws_along : (n x : ℕ) → Along R (Draws switch manager host n x)
    draws_along zero x = stays_along
    draws_along (suc n) x = λ old end new done.
        then_along (Makes switch manager host (drawn old (next_number x))) (Draws switch manager host n (next_number x))
        (makes_along (drawn old (next_number x)) (drawn_holds old (next_number x))) (draws_along n (next_number x)) old end new done
