-- Why switches drop frames, by what they know.
use Rattle.std.specs.Prelude.{◌≡◌, [], ◌∷◌, Some, None, refl}
use Rattle.hex.specs.Hex.{decode_pairs}
use Rattle.pl_frame.specs.Ethernet.{with_destination}
use Rattle.pl_pmac.specs.Pmac.{mac_of}
use Rattle.pl_node.specs.SwitchInputs.SwitchInput.{Comes, Says}
use Rattle.pl_node.specs.SwitchViews.{SwitchView}
use Rattle.pl_node.specs.declared.messages.ToSwitch.TheVariants.{Flood}
use Rattle.pl_journal.specs.declared.cause.Cause.TheVariants.{NoAddress, NoMember, NoNextHop, NotPlaced}
use Rattle.pl_examples.specs.EdgeExamples.{a_to_d, a_to_d_above, flooded, ip_of, moved_twice, to_group, with_hosts}
use Rattle.pl_examples.specs.ExampleFrames.{a_starts, a_to_b, pmac_a, pmac_b}
use Rattle.pl_examples.specs.SwitchExamples.{a00}
use Rattle.pl_examples.specs.VoteExamples.{level, switch}
use Rattle.pl_switch_rule.specs.CauseOf.{cause_of, cause_of_made}
use Rattle.pl_switch_rule.specs.Delivering.{last_trap}
use Rattle.pl_switch_rule.specs.Forwarding.{candidates}
use Rattle.pl_switch_rule.specs.Granting.{grants_remembered}

-- The cause of a frame that comes.

it_goes_on : cause_of a00 (Comes 0 a_to_d_above) ≡ None
unfolding decode_pairs candidates
it_goes_on = refl

it_is_taken : cause_of with_hosts (Comes 0 a_starts) ≡ None
unfolding decode_pairs grants_remembered
it_is_taken = refl

nobody_has_the_address : cause_of with_hosts (Comes 0 (with_destination a_to_b (mac_of (record pmac_b { vmid = 9 })))) ≡ Some NoAddress
unfolding decode_pairs grants_remembered
nobody_has_the_address = refl

abbrev pub all_avoided : SwitchView
all_avoided = record with_hosts { avoid = (switch 9, 1, 0) ∷ (switch 10, 1, 0) ∷ [] }

every_way_is_avoided : cause_of all_avoided (Comes 0 a_to_d) ≡ Some NoNextHop
unfolding decode_pairs grants_remembered candidates
every_way_is_avoided = refl

it_has_no_member : cause_of with_hosts (Comes 2 to_group) ≡ Some NoMember
unfolding decode_pairs
it_has_no_member = refl

no_part_is_known : cause_of a00 (Comes 0 flooded) ≡ Some NoNextHop
unfolding decode_pairs
no_part_is_known = refl

it_is_not_placed : cause_of (record a00 { place = level 1 }) (Comes 0 flooded) ≡ Some NotPlaced
unfolding decode_pairs
it_is_not_placed = refl

-- And of a frame that the switch makes: the frame that met two traps goes on to pod 0, position 1, and the reply to its sender, at pod 0,
-- position 0, has no way.

abbrev pub sender_avoided : SwitchView
sender_avoided = record moved_twice { avoid = (switch 11, 0, 0) ∷ (switch 12, 0, 0) ∷ [] }

the_frame_goes_on : cause_of sender_avoided (Comes 2 a_to_d_above) ≡ None
unfolding decode_pairs grants_remembered candidates last_trap
the_frame_goes_on = refl

its_reply_does_not : cause_of_made sender_avoided (Comes 2 a_to_d_above) ≡ Some NoNextHop
unfolding decode_pairs grants_remembered candidates last_trap
its_reply_does_not = refl

all_cannot_be_asked : cause_of_made with_hosts (Says (Flood pmac_a (ip_of 0x0a000001) (ip_of 0x0a000003))) ≡ Some NoNextHop
all_cannot_be_asked = refl
