-- A frame that a switch passes on, by one port or by more, ends there.
use Rattle.std.proofs.Common.{◌≡◌, ℕ, ◌<◌, zero, suc, false, List, [], ◌∷◌, length, map, get_or, Option, Some, None, refl, sym, subst, ◌∙◌, inl, inr, arith}
use Rattle.std.proofs.lemmas.Option.{same_Some}
use Rattle.std.specs.List.{AllByRecursion, IsAmong}
use Rattle.pl_frame.specs.Ethernet.{destination_of, source_of}
use Rattle.pl_pmac.specs.declared.pmac.Pmac.{Pmac}
use Rattle.pl_pmac.specs.Pmac.{pmac_of}
use Rattle.pl_node.specs.declared.acts.Act.{Act}
use Rattle.pl_node.specs.declared.acts.Act.TheVariants.{Drop, Pass}
use Rattle.pl_switch_rule.specs.declared.came.Came.{Came}
use Rattle.pl_switch_rule.specs.declared.came.Way.{Way}
use Rattle.pl_switch_rule.specs.declared.came.Way.TheVariants.{Down, Nowhere, ToHosts, Up}
use Rattle.pl_journal.specs.declared.cause.Cause.{Cause}
use Rattle.pl_journal.specs.declared.cause.Cause.TheVariants.{NoNextHop}
use Rattle.pl_switch_rule.specs.Forwarding.{Choice, candidates, candidates_by, forwards, is_candidate, leaves_by}
use Rattle.pl_switch_rule.specs.GroupForwarding.{at_most_one, forwards_group, destination_group, group_ports, no_way, passes_or_drops, way_of}
use Rattle.pl_switch_rule.specs.Intake.{takes}
use Rattle.pl_node.specs.Accounting.{IsFit, IsMade, IsSentDuly, IsShaped, frame_state}
use Rattle.pl_node.specs.Accounting.FrameState.{Passed}
use Rattle.pl_steps.specs.Steps.{does}
use Rattle.pl_switch_rule.specs.SwitchRule.{IsChoice}
use Rattle.pl_node.specs.SwitchViews.{SwitchView}
use Rattle.pl_switch_rule.proofs.ControlParts.{ports_within}
use Rattle.pl_switch_rule.proofs.Shapes.{same_self}
use Rattle.pl_switch_rule.proofs.StepParts.{IsEnding}

pub drop_ends : (v : SwitchView) (cause : Cause) → IsShaped v → IsEnding v (does v (Drop cause ∷ []))
drop_ends v cause shaped = record { ends = inr refl; fit = (tt, tt); same = same_self v shaped }

pub take_ends : (v : SwitchView) → IsShaped v → IsEnding v (takes v)
take_ends v shaped = record { ends = inr refl; fit = (tt, tt); same = same_self v shaped }

pub sent_by : (k port : ℕ) (frame : List ℕ) → port < k → IsMade frame → IsSentDuly k port false frame
sent_by k port frame within made = record { within = within; kind = made.kind; whole = made.whole }

pub pass_ends : (v : SwitchView) (port : ℕ) (frame : List ℕ) → IsShaped v → port < v.k → IsMade frame →
    IsEnding v (does v (Pass port frame ∷ []))
pass_ends v port frame shaped within made =
    record { ends = inl refl; fit = (sent_by v.k port frame within made, tt); same = same_self v shaped }

-- Ports below k.

abbrev AreBelow : ℕ → List ℕ → Type 0
AreBelow k ports = AllByRecursion (λ port. port < k) ports

-- Unicast.

candidates_below : (v : SwitchView) (to : Pmac) (came : Came) → AreBelow v.k (candidates v to came)
unfolding candidates
candidates_below v to came = ports_within v (is_candidate v to came)

by_below : (v : SwitchView) (to : Pmac) (came : Option Came) → AreBelow v.k (candidates_by v to came)
by_below v to None = tt
by_below v to (Some came) = candidates_below v to came

at_below : (k : ℕ) (ports : List ℕ) (i d : ℕ) → AreBelow k ports → i < length ports → get_or ports i d < k
at_below k [] i d below within = absurd (omega arith)
at_below k (p ∷ ports) zero d below within = below.0
at_below k (p ∷ ports) (suc i) d below within = at_below k ports i d below.1 (omega arith)

among_below : (k n : ℕ) (ports : List ℕ) → AreBelow k ports → IsAmong ports n → n < k
among_below k n ports below among = subst (λ port. port < k) (sym among.1.1) (at_below k ports among.0 n below among.1.0)

chosen_below : (choose : Choice) (k : ℕ) (ports frame : List ℕ) (n : ℕ) → IsChoice choose → AreBelow k ports → choose ports frame ≡ Some n →
    n < k
chosen_below choose k [] frame n is_choice below found = let none = is_choice.empty frame in absurd (cc)
chosen_below choose k (p ∷ ports) frame n is_choice below found =
    let some = is_choice.chosen p ports frame in
    let same : some.0 ≡ n = same_Some some.0 n (sym some.1 ∙ found) in
    subst (λ port. port < k) same (among_below k some.0 (p ∷ ports) below some.2)

leaves_ends : (v : SwitchView) (frame : List ℕ) (o : Option ℕ) → IsShaped v → IsMade frame → ((n : ℕ) → o ≡ Some n → n < v.k) →
    IsEnding v (leaves_by v frame o)
leaves_ends v frame None shaped made below = drop_ends v NoNextHop shaped
leaves_ends v frame (Some port) shaped made below = pass_ends v port frame shaped (below port refl) made

pub forwards_ends : (choose : Choice) (v : SwitchView) (came : Option Came) (frame : List ℕ) → IsChoice choose → IsShaped v → IsMade frame →
    IsEnding v (forwards choose v came frame)
forwards_ends choose v came frame is_choice shaped made =
    let ports : List ℕ = candidates_by v (pmac_of (destination_of frame)) came in
    leaves_ends v frame (choose ports frame) shaped made
    (λ n found. chosen_below choose v.k ports frame n is_choice (by_below v (pmac_of (destination_of frame)) came) found)

-- Groups.

one_below : (k : ℕ) (ports : List ℕ) → AreBelow k ports → AreBelow k (at_most_one ports)
one_below k [] below = tt
one_below k (p ∷ ports) below = (below.0, tt)

group_below : (v : SwitchView) (way : Way) (group : ℕ) (source : Pmac) → AreBelow v.k (group_ports v way group source)
group_below v Up group source = one_below v.k _ (ports_within v _)
group_below v Down group source = ports_within v _
group_below v ToHosts group source = ports_within v _
group_below v Nowhere group source = tt

abbrev passes : List ℕ → List ℕ → List Act
passes ports frame = map (λ p. Pass p frame) ports

passes_on : (ports frame : List ℕ) → frame_state Passed (passes ports frame) ≡ Passed
passes_on [] frame = refl
passes_on (p ∷ ports) frame = passes_on ports frame

passes_fit : (k : ℕ) (ports frame : List ℕ) → AreBelow k ports → IsMade frame → AllByRecursion (IsFit k) (passes ports frame)
passes_fit k [] frame below made = tt
passes_fit k (p ∷ ports) frame below made = (sent_by k p frame below.0 made, passes_fit k ports frame below.1 made)

passes_end : (v : SwitchView) (ports frame : List ℕ) (cause : Cause) → IsShaped v → AreBelow v.k ports → IsMade frame →
    IsEnding v (does v (passes_or_drops ports frame cause))
passes_end v [] frame cause shaped below made = drop_ends v cause shaped
passes_end v (p ∷ ports) frame cause shaped below made = record {
  ends = inl (passes_on ports frame);
  fit = passes_fit v.k (p ∷ ports) frame below made;
  same = same_self v shaped;
}

pub forwards_group_ends : (v : SwitchView) (came : Option Came) (frame : List ℕ) → IsShaped v → IsMade frame →
    IsEnding v (forwards_group v came frame)
forwards_group_ends v came frame shaped made =
    passes_end v (group_ports v (way_of v.place came) (destination_group frame) (pmac_of (source_of frame))) frame (no_way v came (destination_group frame)) shaped
    (group_below v (way_of v.place came) (destination_group frame) (pmac_of (source_of frame))) made
