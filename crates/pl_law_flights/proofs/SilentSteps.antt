-- Acts that speak of no frame, and steps of a switch that speak of none at first: a tick, a message of the manager.
use Rattle.std.proofs.Common.{◌≡◌, ℕ, List, [], ◌∷◌, ◌++◌, reverse, refl}
use Rattle.std.specs.List.{AllByRecursion}
use Rattle.pl_layouts.specs.declared.place.Place.{Place}
use Rattle.pl_node.specs.declared.acts.Act.{Act}
use Rattle.pl_node.specs.declared.acts.Act.TheVariants as act
use Rattle.pl_node.specs.Accounting.{AccountsForFrames, CanCome, first_frame_state}
use Rattle.pl_node.specs.Accounting.FrameState.{Silent as SaidNone}
use Rattle.pl_node.specs.SwitchInputs.{SwitchInput, SwitchRule}
use Rattle.pl_node.specs.SwitchViews.{SwitchView}
use Rattle.pl_switch_rule.specs.Telling.{changes_told}
use Rattle.pl_wiring.specs.Plan.{Plan}
use Rattle.pl_world.specs.declared.spoken_frame.SpokenFrame.TheVariants.{Silent}
use Rattle.pl_world.specs.WorldRule.{SwitchTurn}
use Rattle.pl_world.specs.Worlds.{WorldView}
use Rattle.pl_world.proofs.Exports.{Sound}
use Rattle.pl_law_flights.specs.OnTheWay.{AddressHistory, IsJournaled, history_of, place_in}
use Rattle.pl_law_flights.specs.Standing.{IsMore}
use Rattle.pl_law_flights.proofs.RoutesStay.{tells_grown}
use Rattle.pl_law_flights.proofs.Hands.{GoodActs, Hand}
use Rattle.pl_law_flights.proofs.Hands.Hand.{Empty}
use Rattle.pl_law_flights.proofs.SwitchTurns.{turn_journaled}
use Rattle.pl_switch_rule.proofs.Exports.{ChangeActs, told_acts}

-- an act that speaks of no frame, and grants nothing
abbrev pub IsSilent : Act → Type 0
IsSilent (act.Control port frame) = Unit {0}
IsSilent (act.Tell told) = Unit {0}
IsSilent _ = ⊥

abbrev pub AreSilent : List Act → Type 0
AreSilent acts = AllByRecursion IsSilent acts

pub silent_append : (xs ys : List Act) → AreSilent xs → AreSilent ys → AreSilent (xs ++ ys)
silent_append [] ys first next = next
silent_append (x ∷ xs) ys first next = (first.0, silent_append xs ys first.1 next)

pub silent_change : (place : Place) → ChangeActs place IsSilent
silent_change place = record { placed = tt; linked = λ neighbour usable. tt; wanted = λ position. tt }

pub silent_changes : (old new : SwitchView) → AreSilent (changes_told old new)
silent_changes old new = told_acts IsSilent old new (silent_change new.place)

-- silent acts are good, and what follows them
pub silent_good : (plan : Plan) (place : ℕ → Place) (history : AddressHistory) (s : ℕ) (acts rest : List Act) (hand : Hand) → AreSilent acts →
    GoodActs plan place history s rest hand → GoodActs plan place history s (acts ++ rest) hand
silent_good plan place history s [] rest hand silent good = good
silent_good plan place history s (act.Control port frame ∷ acts) rest hand silent good = silent_good plan place history s acts rest hand silent.1 good
silent_good plan place history s (act.Tell told ∷ acts) rest hand silent good = silent_good plan place history s acts rest hand silent.1 good
silent_good plan place history s (a ∷ acts) rest hand silent good = absurd silent.0

pub all_silent_good : (plan : Plan) (place : ℕ → Place) (history : AddressHistory) (s : ℕ) (acts : List Act) (hand : Hand) → AreSilent acts → GoodActs plan place history s acts hand
all_silent_good plan place history s [] hand silent = tt
all_silent_good plan place history s (act.Control port frame ∷ acts) hand silent = all_silent_good plan place history s acts hand silent.1
all_silent_good plan place history s (act.Tell told ∷ acts) hand silent = all_silent_good plan place history s acts hand silent.1
all_silent_good plan place history s (a ∷ acts) hand silent = absurd silent.0

-- a turn of a switch with no frame in hand
pub silent_turn : (rule : SwitchRule) → AccountsForFrames rule → (w : WorldView) (s : ℕ) (input : SwitchInput) (new : WorldView) → SaidNone ≡ first_frame_state input →
    ((v : SwitchView) → v.k ≡ w.plan.k → CanCome v input) → Sound w → IsJournaled w → (turn : SwitchTurn rule w s input Silent new) →
    IsMore (place_in w.switches) (place_in new.switches) →
    GoodActs w.plan (place_in new.switches) (history_of (reverse w.journal)) s turn.acts Empty → IsJournaled new
silent_turn rule accounts w s input new same can so told turn more good =
    turn_journaled rule accounts w s input Silent new turn same can so.balance so.rest Empty (reverse w.journal)
    (record {
      is = refl;
      tells = tells_grown (place_in w.switches) (place_in new.switches) more w.plan (reverse w.journal) w.links w.attachments w.from_hosts w.out told;
      holds = tt;
      puts_off = tt;
    }) good
