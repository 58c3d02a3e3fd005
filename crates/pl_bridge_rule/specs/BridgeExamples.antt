-- Steps of bridges, computed. Host a has 02:00:00:00:00:0a and stands at port 0 of e0.0, host b 02:00:00:00:00:0b at port 1, host d 02:00:00:00:00:0d behind port 2.
use Rattle.std.specs.Prelude.{◌≡◌, ℕ, List, [], ◌∷◌, ◌++◌, replicate, None, refl}
use Rattle.pl_frame.specs.declared.address.Mac.{Mac}
use Rattle.pl_wiring.specs.declared.label.Label.TheVariants.{Aggregation, Core, Edge}
use Rattle.pl_journal.specs.declared.cause.Cause.TheVariants.{NoNextHop}
use Rattle.pl_node.specs.declared.acts.Act.{Act}
use Rattle.pl_node.specs.declared.acts.Act.TheVariants.{Drop, Pass}
use Rattle.pl_node.specs.SwitchFacts.{switch_at_boot}
use Rattle.pl_node.specs.SwitchInputs.SwitchInput.{Comes, Tick}
use Rattle.pl_node.specs.SwitchViews.{SwitchView}
use Rattle.pl_steps.specs.Steps.{rests}
use Rattle.pl_bridge_rule.specs.BridgeRule.{bridge_step, port_among, port_for, table_entry}
use Rattle.pl_bridge_rule.specs.Tree.{IsWay, towards}

abbrev mac_ending : ℕ → Mac
mac_ending n = record { 0 = 2 ∷ 0 ∷ 0 ∷ 0 ∷ 0 ∷ n ∷ [] }

abbrev a : Mac
a = mac_ending 10

abbrev b : Mac
b = mac_ending 11

abbrev d : Mac
d = mac_ending 13

abbrev all : Mac
all = record { 0 = replicate 6 255 }

-- an ARP frame from one address to another, of 42 bytes
abbrev frame : Mac → Mac → List ℕ
frame from to = to.0 ++ from.0 ++ (8 ∷ 6 ∷ []) ++ replicate 28 0

abbrev new : SwitchView
new = switch_at_boot (record { 0 = 1 }) 4

abbrev after : SwitchView → ℕ → List ℕ → SwitchView
after v port bytes = (bridge_step v (Comes port bytes)).view

abbrev does : SwitchView → ℕ → List ℕ → List Act
does v port bytes = (bridge_step v (Comes port bytes)).acts

-- a's request to all goes out of each other port, and a is learnt
a_request_floods : does new 0 (frame a all) ≡ Pass 1 (frame a all) ∷ Pass 2 (frame a all) ∷ Pass 3 (frame a all) ∷ []
unfolding port_among
a_request_floods = refl

abbrev knows_a : SwitchView
knows_a = after new 0 (frame a all)

a_is_learnt : knows_a.members ≡ table_entry 0 a ∷ []
a_is_learnt = refl

-- b answers: its frame goes to a's port alone, with the bytes that came
the_answer_goes_to_a : does knows_a 1 (frame b a) ≡ Pass 0 (frame b a) ∷ []
unfolding port_among
the_answer_goes_to_a = refl

-- d is heard over the link up, and from then on a's frame to d goes that way
abbrev knows_d : SwitchView
knows_d = after knows_a 2 (frame d all)

a_frame_to_d_goes_up : does knows_d 0 (frame a d) ≡ Pass 2 (frame a d) ∷ []
unfolding port_among
a_frame_to_d_goes_up = refl

-- a frame for where it came from ends
a_frame_does_not_turn_back : does knows_a 0 (frame b a) ≡ Drop NoNextHop ∷ []
unfolding port_among
a_frame_does_not_turn_back = refl

-- an address is at one port: where it was heard last
a_host_that_moved_is_learnt_anew : (after knows_a 3 (frame a all)).members ≡ table_entry 3 a ∷ []
a_host_that_moved_is_learnt_anew = refl

-- no group is learnt, and a tick forgets nothing
a_group_is_at_no_port : (after new 1 (frame all a)).members ≡ []
a_group_is_at_no_port = refl

a_tick_changes_nothing : bridge_step knows_a Tick ≡ rests knows_a
a_tick_changes_nothing = refl

nobody_is_known_at_boot : port_for new a ≡ None
unfolding port_among
nobody_is_known_at_boot = refl

-- The way from e0.0 to e1.0 over the tree.
the_way_between_pods : IsWay (Edge 0 0 ∷ Aggregation 0 0 ∷ Core 0 0 ∷ Aggregation 1 0 ∷ Edge 1 0 ∷ [])
the_way_between_pods = (refl, (λ same. absurd (cc), (refl, (λ same. absurd (cc), (refl, (λ same. absurd (cc), refl))))))

it_begins_up : towards (Edge 0 0) (Edge 1 0) ≡ Aggregation 0 0
it_begins_up = refl
