-- What an edge switch does with frames of its hosts, with frames for them, and with traps.
use Rattle.std.specs.Prelude.{◌≡◌, ℕ, true, false, List, [], ◌∷◌, ◌++◌, codes, drop, replicate, take, Option, Some, None, refl}
use Rattle.hex.specs.Hex.{decode_pairs}
use Rattle.pl_frame.specs.declared.address.Ip4.{Ip4}
use Rattle.pl_frame.specs.declared.address.Mac.{Mac}
use Rattle.pl_frame.specs.declared.address.SwitchId.{SwitchId}
use Rattle.pl_frame.specs.Ethernet.{with_destination}
use Rattle.pl_pmac.specs.declared.pmac.Pmac.{Pmac}
use Rattle.pl_pmac.specs.Pmac.{mac_of}
use Rattle.pl_node.specs.declared.acts.Act.{Act}
use Rattle.pl_node.specs.declared.acts.Act.TheVariants.{Drop, Grant as GrantAct, Make, Pass, Redirect, Take, Tell}
use Rattle.pl_journal.specs.declared.cause.Cause.TheVariants.{NoAddress, NoMember, NoNextHop, NotPlaced}
use Rattle.pl_node.specs.declared.messages.ToManager.TheVariants.{Learned, Members, Place as TellPlace, Query}
use Rattle.pl_node.specs.declared.messages.ToSwitch.TheVariants.{Answer, Flood, Invalidate, Pod}
use Rattle.pl_node.specs.declared.messages.TreePart.{TreePart}
use Rattle.pl_node.specs.declared.trap.Trap.{Trap}
use Rattle.pl_layouts.specs.ArpFrames.{arp_frame}
use Rattle.pl_switch_rule.specs.Delivering.{last_trap, redirects}
use Rattle.pl_examples.specs.ExampleFrames.{a_joins, a_starts, a_to_b, a_to_b_arrived, bytes_of, mac_a, mac_b, pmac_a, pmac_b}
use Rattle.pl_layouts.specs.Flow.{flow_bytes, flow_hash, fnv1a}
use Rattle.pl_switch_rule.specs.Forwarding.{candidates}
use Rattle.pl_switch_rule.specs.Granting.{grants_remembered}
use Rattle.pl_layouts.specs.Memberships.{records_changes}
use Rattle.pl_examples.specs.SwitchExamples.{a00, address, aggregation_of, c00, e00, edge_at}
use Rattle.pl_switch_rule.specs.HostsAlone.{host_port}
use Rattle.pl_node.specs.SwitchFacts.{switch_at_boot}
use Rattle.pl_switch_rule.specs.SwitchRule.{by_flow, switch_step}
use Rattle.pl_node.specs.SwitchInputs.SwitchInput.{Comes, Says}
use Rattle.pl_node.specs.declared.address_use.AddressUse.TheVariants.{InUse, Trapped}
use Rattle.pl_node.specs.declared.switch_records.Grant.{Grant}
use Rattle.pl_node.specs.SwitchViews.{SwitchView}
use Rattle.pl_examples.specs.VoteExamples.{level, port_to, switch}

abbrev pub acts_of : SwitchView → ℕ → List ℕ → List Act
acts_of v port frame = (switch_step by_flow v (Comes port frame)).acts

abbrev pub view_after : SwitchView → ℕ → List ℕ → SwitchView
view_after v port frame = (switch_step by_flow v (Comes port frame)).view

abbrev pub ip_of : ℕ → Ip4
ip_of n = record { 0 = n }

-- A switch that knows nothing hears a host.

abbrev pub fresh : SwitchView
fresh = switch_at_boot (switch 1) 4

abbrev pub heard_a : SwitchView
heard_a = view_after fresh 0 a_starts

it_is_an_edge_switch : acts_of fresh 0 a_starts ≡ Tell (TellPlace (level 0)) ∷ Take ∷ []
unfolding decode_pairs grants_remembered
it_is_an_edge_switch = refl

it_remembers_the_host : heard_a.remembered ≡ Some (record { amac = mac_a; ip = Some (ip_of 0x0a000001) }) ∷ None ∷ None ∷ None ∷ []
unfolding decode_pairs grants_remembered
it_remembers_the_host = refl

-- once its place is known, the host is granted an address
abbrev pub waits_for_pod : SwitchView
waits_for_pod = record heard_a { place = record { level = Some 0; position = Some 0; pod = None } }

it_grants_an_address : (switch_step by_flow waits_for_pod (Says (Pod 0))).acts
    ≡ Tell (TellPlace (edge_at 0 0)) ∷ GrantAct pmac_a mac_a ∷ Tell (Learned pmac_a mac_a (Some (ip_of 0x0a000001))) ∷ []
unfolding decode_pairs grants_remembered
it_grants_an_address = refl

no_pod_is_taken_twice : switch_step by_flow e00 (Says (Pod 7)) ≡ record { view = e00; acts = [] }
unfolding grants_remembered
no_pod_is_taken_twice = refl

-- A frame comes in under the address of its source, and out with the host's own.

abbrev pub granted_to : Mac → ℕ → Grant
granted_to amac ip = record { amac = amac; ip = Some (ip_of ip); held = InUse 0 }

-- e0.0 with hosts a and b
abbrev pub with_hosts : SwitchView
with_hosts = record e00 {
  ports = host_port ∷ host_port ∷ drop 2 e00.ports;
  grants = (granted_to mac_a 0x0a000001 ∷ []) ∷ (granted_to mac_b 0x0a000002 ∷ []) ∷ [] ∷ [] ∷ [];
}

it_goes_out_to_b : acts_of with_hosts 0 a_to_b ≡ Pass 1 a_to_b_arrived ∷ []
unfolding decode_pairs grants_remembered
it_goes_out_to_b = refl

-- the frame of a for pod 1, position 0, as recorded and as it goes up; three of its 14 bytes of header are odd, so its hash is even
abbrev pub a_to_d : List ℕ
a_to_d = bytes_of (codes "00010000000102000000000a88b6") ++ replicate 46 0

abbrev pub a_to_d_above : List ℕ
a_to_d_above = bytes_of (codes "00010000000100000000000188b6") ++ replicate 46 0

it_goes_up : acts_of with_hosts 0 a_to_d ≡ Pass 2 a_to_d_above ∷ []
unfolding decode_pairs grants_remembered candidates flow_hash flow_bytes fnv1a
it_goes_up = refl

it_goes_up_further : acts_of a00 0 a_to_d_above ≡ Pass 2 a_to_d_above ∷ []
unfolding decode_pairs candidates flow_hash flow_bytes fnv1a
it_goes_up_further = refl

it_goes_down : acts_of c00 0 a_to_d_above ≡ Pass 1 a_to_d_above ∷ []
unfolding decode_pairs candidates flow_hash flow_bytes fnv1a
it_goes_down = refl

nobody_has_the_address : acts_of with_hosts 0 (with_destination a_to_b (mac_of (record pmac_b { vmid = 9 }))) ≡ Drop NoAddress ∷ []
unfolding decode_pairs grants_remembered
nobody_has_the_address = refl

-- a request of a for the address of another host
abbrev pub a_asks : List ℕ
a_asks = bytes_of (codes "ffffffffffff02000000000a0806000108000604000102000000000a0a0000010000000000000a000003")

the_manager_is_asked : acts_of with_hosts 0 a_asks
    ≡ Tell (Query pmac_a (ip_of 0x0a000001) (ip_of 0x0a000003)) ∷ Take ∷ []
unfolding decode_pairs grants_remembered
the_manager_is_asked = refl

-- and its answer goes out to a
abbrev pub answer : List ℕ
answer = bytes_of (codes "0000000000010000010000010806000108000604000200000100000100000000000a0a0000030000000000010a000001")

the_first_frame_of_a_stranger : acts_of (record with_hosts { grants = replicate 4 [] }) 0 a_to_d
    ≡ GrantAct pmac_a mac_a ∷ Tell (Learned pmac_a mac_a None) ∷ Pass 2 a_to_d_above ∷ []
unfolding decode_pairs grants_remembered candidates flow_hash flow_bytes fnv1a
the_first_frame_of_a_stranger = refl

-- a joins 239.1.2.3, of number 66051
its_membership_is_told : acts_of with_hosts 0 a_joins ≡ Tell (Members 66051 true) ∷ Take ∷ []
unfolding decode_pairs grants_remembered records_changes
its_membership_is_told = refl

-- Two moves: the host of 00:01:00:00:00:01 came back to another port of e1.0, and then left for e0.1.

abbrev pub d : Mac
d = record { 0 = 2 ∷ 0 ∷ 0 ∷ 0 ∷ 0 ∷ 13 ∷ [] }

abbrev pub back_again : Pmac
back_again = record { pod = 1; position = 0; port = 1; vmid = 1 }

abbrev pub gone : Pmac
gone = record { pod = 0; position = 1; port = 1; vmid = 1 }

abbrev pub trap_to : Pmac → ℕ → Trap
trap_to new number = record { new = new; number = number; ip = Some (ip_of 0x0a000004) }

abbrev pub e10 : SwitchView
e10 = record (switch_at_boot (switch 3) 4) {
  place = edge_at 1 0;
  ports = host_port ∷ host_port ∷ port_to (switch 3) (switch 11) (aggregation_of 1) ∷ port_to (switch 3) (switch 12) (aggregation_of 1) ∷ [];
  grants = (granted_to d 0x0a000004 ∷ []) ∷ (granted_to d 0x0a000004 ∷ []) ∷ [] ∷ [] ∷ [];
}

abbrev pub invalidate : SwitchView → Pmac → Pmac → ℕ → SwitchView
invalidate v old new number = (switch_step by_flow v (Says (Invalidate old new number (Some (ip_of 0x0a000004))))).view

abbrev pub moved_twice : SwitchView
moved_twice = invalidate (invalidate e10 (address 1 0) back_again 5) back_again gone 6

-- The frame is redirected twice, and its sender is told the last address. Both leave by port 3: four of their 14 bytes of header are odd.
abbrev pub a_to_gone : List ℕ
a_to_gone = with_destination a_to_d_above (mac_of gone)

abbrev pub told_to_a : List ℕ
told_to_a = bytes_of (codes "00000000000100000101000108060001080006040002000001010001") ++ bytes_of (codes "0a0000040000000000010a000004")

both_traps_are_followed : take 2 (acts_of moved_twice 2 a_to_d_above) ≡ Redirect (address 1 0) back_again ∷ Redirect back_again gone ∷ []
unfolding decode_pairs grants_remembered candidates flow_hash flow_bytes fnv1a redirects last_trap
both_traps_are_followed = refl

it_goes_on_and_its_sender_is_told : drop 2 (acts_of moved_twice 2 a_to_d_above) ≡ Pass 3 a_to_gone ∷ Make told_to_a ∷ Pass 3 told_to_a ∷ []
unfolding decode_pairs arp_frame grants_remembered candidates flow_hash flow_bytes fnv1a redirects last_trap
it_goes_on_and_its_sender_is_told = refl

-- a trap with a larger number stays
no_older_trap_takes_its_place : invalidate (invalidate e10 (address 1 0) back_again 5) (address 1 0) gone 4 ≡ invalidate e10 (address 1 0) back_again 5
no_older_trap_takes_its_place = refl

a_newer_one_does : (invalidate (invalidate e10 (address 1 0) back_again 5) (address 1 0) gone 6).grants
    ≡ (record (granted_to d 0x0a000004) { held = Trapped (trap_to gone 6) 0 } ∷ []) ∷ (granted_to d 0x0a000004 ∷ []) ∷ [] ∷ [] ∷ []
a_newer_one_does = refl

-- Groups.

abbrev pub part : Option SwitchId → List SwitchId → TreePart
part up down = record { up = up; down = down }

-- a's request, flooded by its edge switch under a's address
abbrev pub flooded : List ℕ
flooded = bytes_of (codes "ffffffffffff0000000000010806000108000604000100000000000100000000000a0a0000030000000000000a000003")

-- the tree of the flood: c0.0, and below it a0.0 and a1.0
abbrev pub in_tree : SwitchView → Option SwitchId → List SwitchId → SwitchView
in_tree v up down = record v { parts = (8388608, part up down) ∷ [] }

-- upwards it goes to the core switch alone, and not down on the way
it_only_goes_up : acts_of (in_tree a00 (Some (switch 17)) (switch 1 ∷ switch 2 ∷ [])) 0 flooded ≡ Pass 2 flooded ∷ []
unfolding decode_pairs
it_only_goes_up = refl

from_the_core_it_goes_down : acts_of (in_tree c00 None (switch 9 ∷ switch 11 ∷ [])) 0 flooded ≡ Pass 0 flooded ∷ Pass 1 flooded ∷ []
unfolding decode_pairs
from_the_core_it_goes_down = refl

from_above_it_goes_down : acts_of (in_tree a00 (Some (switch 17)) (switch 1 ∷ switch 2 ∷ [])) 2 flooded ≡ Pass 0 flooded ∷ Pass 1 flooded ∷ []
unfolding decode_pairs
from_above_it_goes_down = refl

-- it reaches each host port but that of its source
not_its_source : acts_of (in_tree with_hosts (Some (switch 9)) []) 2 flooded ≡ Pass 1 flooded ∷ []
unfolding decode_pairs
not_its_source = refl

-- a frame of 239.1.2.3, of which b is a member here
abbrev pub to_group : List ℕ
to_group = bytes_of (codes "01005e01020300010000000188b6") ++ replicate 46 0

abbrev pub with_member : SwitchView
with_member = record with_hosts { members = record { group = 66051; port = 1; amac = mac_b } ∷ [] }

it_reaches_the_member : acts_of with_member 2 to_group ≡ Pass 1 to_group ∷ []
unfolding decode_pairs
it_reaches_the_member = refl

without_a_member : acts_of with_hosts 2 to_group ≡ Drop NoMember ∷ []
unfolding decode_pairs
without_a_member = refl

without_a_part : acts_of a00 0 to_group ≡ Drop NoMember ∷ []
unfolding decode_pairs
without_a_part = refl

a_flood_without_a_part : acts_of a00 0 flooded ≡ Drop NoNextHop ∷ []
unfolding decode_pairs
a_flood_without_a_part = refl

a_switch_that_is_not_placed : acts_of (record a00 { place = level 1 }) 0 flooded ≡ Drop NotPlaced ∷ []
unfolding decode_pairs
a_switch_that_is_not_placed = refl

-- Answers of the manager.

abbrev pub answered : List ℕ
answered = bytes_of (codes "00000000000100010000000108060001080006040002000100000001") ++ bytes_of (codes "0a0000030000000000010a000001")

-- and as it goes out to a
abbrev pub answered_out : List ℕ
answered_out = bytes_of (codes "02000000000a00010000000108060001080006040002000100000001") ++ bytes_of (codes "0a00000302000000000a0a000001")

the_asker_is_answered : (switch_step by_flow with_hosts (Says (Answer pmac_a (ip_of 0x0a000001) (ip_of 0x0a000003) (address 1 0)))).acts
    ≡ Make answered ∷ Pass 0 answered_out ∷ []
unfolding decode_pairs arp_frame
the_asker_is_answered = refl

abbrev pub asked_of_all : List ℕ
asked_of_all = bytes_of (codes "ffffffffffff000000000001080600010800060400010000000000010a0000010000000000000a000003")

all_are_asked : (switch_step by_flow (in_tree with_hosts (Some (switch 9)) []) (Says (Flood pmac_a (ip_of 0x0a000001) (ip_of 0x0a000003)))).acts
    ≡ Make asked_of_all ∷ Pass 2 asked_of_all ∷ []
unfolding decode_pairs arp_frame
all_are_asked = refl

nobody_asked : switch_step by_flow e00 (Says (Answer pmac_a (ip_of 0x0a000001) (ip_of 0x0a000003) (address 1 0))) ≡ record { view = e00; acts = [] }
nobody_asked = refl

-- An address in use is invalidated: its host is probed, and a second time it is not.
abbrev pub probe : List ℕ
probe = bytes_of (codes "00010000000100010000000008060001080006040001000100000000") ++ bytes_of (codes "000000000000000000000a000004")

abbrev pub probe_out : List ℕ
probe_out = bytes_of (codes "02000000000d00010000000008060001080006040001000100000000") ++ bytes_of (codes "0000000002000000000d0a000004")

its_host_is_probed : (switch_step by_flow e10 (Says (Invalidate (address 1 0) back_again 5 None))).acts ≡ Make probe ∷ Pass 0 probe_out ∷ []
unfolding decode_pairs arp_frame
its_host_is_probed = refl

once : (switch_step by_flow moved_twice (Says (Invalidate (address 1 0) gone 7 None))).acts ≡ []
once = refl
