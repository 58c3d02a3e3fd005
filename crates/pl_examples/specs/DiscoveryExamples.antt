-- How switches of four ports learn their level, their pod and their links, message by message.
use Rattle.std.specs.Prelude.{◌≡◌, ℕ, true, false, List, [], ◌∷◌, ◌++◌, codes, take, Option, Some, None, refl}
use Rattle.hex.specs.Hex.{decode_pairs}
use Rattle.pl_frame.specs.declared.address.SwitchId.{SwitchId}
use Rattle.pl_node.specs.declared.acts.Act.TheVariants.{Control, Drop, Tell}
use Rattle.pl_journal.specs.declared.cause.Cause.TheVariants.{NotPlaced}
use Rattle.pl_layouts.specs.declared.control.Control.TheVariants as control
use Rattle.pl_node.specs.declared.messages.ToManager.TheVariants.{Link, Place as TellPlace}
use Rattle.pl_layouts.specs.declared.place.Place.{Place}
use Rattle.pl_layouts.specs.Control.{control_bytes, control_frame, control_in}
use Rattle.pl_examples.specs.EdgeExamples.{acts_of, view_after}
use Rattle.pl_examples.specs.ExampleFrames.{a_starts, bytes_of}
use Rattle.pl_switch_rule.specs.Aging.{all_age_out}
use Rattle.pl_switch_rule.specs.Granting.{grants_remembered}
use Rattle.pl_layouts.specs.Placement.{nowhere}
use Rattle.pl_examples.specs.SwitchExamples.{aggregation_of, core, edge_at}
use Rattle.pl_node.specs.SwitchFacts.{switch_at_boot}
use Rattle.pl_switch_rule.specs.SwitchRule.{by_flow, switch_step}
use Rattle.pl_node.specs.SwitchInputs.SwitchInput.{Tick}
use Rattle.pl_node.specs.SwitchViews.{SwitchView}
use Rattle.pl_examples.specs.VoteExamples.{held, level, switch}

-- the switch of these examples
abbrev pub five : SwitchView
five = switch_at_boot (switch 5) 4

-- at its first tick it tells each neighbour that it knows nothing
abbrev pub first_message : List ℕ
first_message = bytes_of (codes "03504c00000100000000000588b5") ++ bytes_of (codes "0101000000000005ffffffff00000000000000")

its_first_tick : (switch_step by_flow five Tick).acts
    ≡ Control 0 first_message ∷ Control 1 first_message ∷ Control 2 first_message ∷ Control 3 first_message ∷ []
unfolding all_age_out control_bytes control_frame decode_pairs
its_first_tick = refl

-- a message of another switch: its place, and whether it has heard switch 5
abbrev pub message : ℕ → Place → Option SwitchId → List ℕ
message id place echo = control_frame (control.Ldm (switch id) (record { place = place; direction = 0; echo = echo }))

abbrev pub hears : ℕ → Place → Option SwitchId → ℕ → SwitchView → SwitchView
hears id place echo port v = view_after v port (message id place echo)

-- what hears an edge switch is an aggregation switch; the link is usable once it is heard itself
an_aggregation_switch : acts_of five 0 (message 1 (level 0) None) ≡ Tell (TellPlace (level 1)) ∷ []
unfolding control_bytes control_frame control_in grants_remembered
an_aggregation_switch = refl

its_link_is_usable : acts_of (hears 1 (level 0) None 0 five) 0 (message 1 (level 0) (Some (switch 5))) ≡ Tell (Link (switch 1) true) ∷ []
unfolding control_bytes control_frame control_in grants_remembered
its_link_is_usable = refl

it_takes_the_pod : acts_of (hears 1 (level 0) None 0 five) 0 (message 1 (edge_at 3 1) None) ≡ Tell (TellPlace (aggregation_of 3)) ∷ []
unfolding control_bytes control_frame control_in grants_remembered
it_takes_the_pod = refl

-- the message by which it becomes one is noted: the position is held and marked
it_notes_the_position : (hears 1 (edge_at 3 1) None 0 five).holds ≡ None ∷ held 1 true ∷ []
unfolding control_bytes control_frame control_in grants_remembered
it_notes_the_position = refl

-- what hears aggregation switches of two pods is a core switch
abbrev pub hears_pods : ℕ → ℕ → SwitchView
hears_pods p q = hears 11 (aggregation_of q) None 1 (hears 9 (aggregation_of p) None 0 five)

a_core_switch : (hears_pods 0 1).place ≡ core
unfolding control_bytes control_frame control_in grants_remembered
a_core_switch = refl

one_pod_is_no_evidence : (hears_pods 1 1).place ≡ nowhere
unfolding control_bytes control_frame control_in grants_remembered
one_pod_is_no_evidence = refl

-- a level is never changed
it_stays_a_core_switch : (hears 1 (edge_at 0 0) None 2 (hears_pods 0 1)).place ≡ core
unfolding control_bytes control_frame control_in grants_remembered
it_stays_a_core_switch = refl

-- after three ticks without a message the link is not usable any more
abbrev pub ticked : SwitchView → SwitchView
ticked v = (switch_step by_flow v Tick).view

abbrev pub linked : SwitchView
linked = hears 1 (level 0) (Some (switch 5)) 0 five

abbrev pub message_down : List ℕ
message_down = bytes_of (codes "03504c00000100000000000588b5") ++ bytes_of (codes "010100000000000501ffffff02000000000001")

it_is_usable_for_two_ticks : take 1 (switch_step by_flow (ticked linked) Tick).acts ≡ Control 0 message_down ∷ []
unfolding all_age_out control_bytes control_frame control_in decode_pairs grants_remembered
it_is_usable_for_two_ticks = refl

and_then_it_is_not : take 1 (switch_step by_flow (ticked (ticked linked)) Tick).acts ≡ Tell (Link (switch 1) false) ∷ []
unfolding all_age_out control_bytes control_frame control_in grants_remembered
and_then_it_is_not = refl

-- silence gives no level
silence_is_no_evidence : (ticked (ticked (ticked (ticked five)))).place ≡ nowhere
unfolding all_age_out
silence_is_no_evidence = refl

-- A host's frame makes an edge switch, which takes the pod that it was told before; control frames of a host are ignored.
abbrev pub told_before : SwitchView
told_before = hears 9 (aggregation_of 2) None 2 five

it_takes_the_pod_told_before : (view_after told_before 0 a_starts).place ≡ record { level = Some 0; position = None; pod = Some 2 }
unfolding control_bytes control_frame control_in decode_pairs grants_remembered
it_takes_the_pod_told_before = refl

a_host_tells_no_place : view_after (view_after five 0 a_starts) 0 (message 1 (level 1) None) ≡ view_after five 0 a_starts
unfolding control_bytes control_frame control_in decode_pairs grants_remembered
a_host_tells_no_place = refl

-- but an aggregation switch has no hosts
no_host_is_there : acts_of (hears 1 (level 0) None 0 five) 3 a_starts ≡ Drop NotPlaced ∷ []
unfolding control_bytes control_frame control_in decode_pairs grants_remembered
no_host_is_there = refl

its_port_stays : view_after (hears 1 (level 0) None 0 five) 3 a_starts ≡ hears 1 (level 0) None 0 five
unfolding control_bytes control_frame control_in decode_pairs grants_remembered
its_port_stays = refl

-- a control frame that is cut is ignored
no_message : acts_of five 0 (take 16 (message 1 (level 0) None)) ≡ []
unfolding control_bytes control_frame control_in
no_message = refl
