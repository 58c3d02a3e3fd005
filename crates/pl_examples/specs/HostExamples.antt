-- What host a does: 02:00:00:00:00:0a, 10.0.0.1, beside host b, 02:00:00:00:00:0b, 10.0.0.2.
use Rattle.std.specs.Prelude.{◌≡◌, ℕ, List, [], ◌∷◌, ◌++◌, codes, take, drop, replicate, Some, None, refl}
use Rattle.hex.specs.Hex.{decode_pairs}
use Rattle.pl_frame.specs.declared.address.Ip4.{Ip4}
use Rattle.pl_pmac.specs.Pmac.{mac_of}
use Rattle.pl_arp.specs.declared.cache.Me.{Me}
use Rattle.pl_journal.specs.declared.cause.Skip.{Skip}
use Rattle.pl_journal.specs.declared.cause.Skip.TheVariants.{CutRecord, Short, Long, ForeignSource, ControlType, RecordedArp, NoOwner, HoldFull}
use Rattle.pl_node.specs.declared.reception.Reception.TheVariants.{Kept, NotMember}
use Rattle.pl_layouts.specs.Checksum.{ones_plus}
use Rattle.pl_examples.specs.ExampleFrames.{a_joins, a_starts, bytes_of, mac_a, mac_b, pmac_b}
use Rattle.pl_layouts.specs.Reports.{header_of, message_of_change}
use Rattle.pl_node.specs.HostViews.{HostView, boot_host, groups_after}
use Rattle.pl_host_rule.specs.HostRule.{host_step, skip_of, step_to}
use Rattle.pl_node.specs.HostInputs.HostInput.{Starts, Retries, HasMoved, Plays, PlaysRaw, Joins, Leaves, Receives}
use Rattle.pl_node.specs.HostInputs.HostAnswer.{Nothing, Played, Received}
use Rattle.pl_node.specs.HostInputs.{HostInput}
use Rattle.pl_layouts.specs.ArpFrames.{arp_frame}

abbrev pub ip_a : Ip4
ip_a = record { 0 = 0x0a000001 }

abbrev pub ip_b : Ip4
ip_b = record { 0 = 0x0a000002 }

abbrev pub host_a : Me
host_a = record { mac = mac_a; ip = ip_a }

abbrev pub host_b : Me
host_b = record { mac = mac_b; ip = ip_b }

-- host a as it boots
abbrev pub fresh : HostView
fresh = boot_host host_a (host_a ∷ host_b ∷ [])

-- 239.1.2.3, and 225.1.2.3, which has the same number
abbrev pub a_group : Ip4
a_group = record { 0 = 0xef010203 }

abbrev pub same_number : Ip4
same_number = record { 0 = 0xe1010203 }

-- host a in those groups, with these frames held for host b
abbrev pub in_groups : List Ip4 → HostView
in_groups joined = record fresh { joined = joined }

abbrev pub holding_for_b : List (List ℕ) → HostView
holding_for_b frames = record fresh { held = (ip_b, frames) ∷ [] }

-- host a once it has heard of b under a pseudo address
abbrev pub knowing_b : HostView
knowing_b = record fresh { cache = (ip_b, mac_of pmac_b) ∷ [] }

-- a frame of a for b with this byte in it, and the same for b's pseudo address
abbrev pub for_b : ℕ → List ℕ
for_b n = bytes_of (codes "02000000000b02000000000a88b6") ++ n ∷ replicate 45 0

abbrev pub for_pmac_b : ℕ → List ℕ
for_pmac_b n = bytes_of (codes "00000001000102000000000a88b6") ++ n ∷ replicate 45 0

-- a asks for b; b's answer as it arrives; b asks for a, and the answer of a
abbrev pub a_asks : List ℕ
a_asks = bytes_of (codes "ffffffffffff02000000000a0806000108000604000102000000000a0a0000010000000000000a000002")

abbrev pub b_answers : List ℕ
b_answers = bytes_of (codes "02000000000a000000010001080600010800060400020000000100010a00000202000000000a0a000001")

abbrev pub b_asks : List ℕ
b_asks = bytes_of (codes "ffffffffffff000000010001080600010800060400010000000100010a0000020000000000000a000001")

abbrev pub a_answers : List ℕ
a_answers = bytes_of (codes "00000001000102000000000a0806000108000604000202000000000a0a0000010000000100010a000002")

-- a frame of b to the group 239.1.2.3, and one to all
abbrev pub b_to_group : List ℕ
b_to_group = bytes_of (codes "01005e01020300000001000188b6") ++ replicate 46 0

abbrev pub b_to_all : List ℕ
b_to_all = bytes_of (codes "ffffffffffff00000001000188b6") ++ replicate 46 0

abbrev pub skipped : HostView → HostInput → Skip → Type 0
skipped view input skip = host_step view input ≡ step_to view [] (Played (Some skip))

the_start_frame : host_step fresh Starts ≡ step_to fresh (a_starts ∷ []) Nothing
unfolding decode_pairs arp_frame
the_start_frame = refl

the_report_of_a_host_that_joins : host_step fresh (Joins a_group) ≡ step_to (in_groups (a_group ∷ [])) (a_joins ∷ []) Nothing
unfolding decode_pairs header_of message_of_change ones_plus groups_after
the_report_of_a_host_that_joins = refl

-- the group that was joined last under a number takes the place of the other, and a leave of either leaves
a_group_with_the_same_number : (host_step (in_groups (a_group ∷ [])) (Joins same_number)).view ≡ in_groups (same_number ∷ [])
unfolding header_of message_of_change ones_plus groups_after
a_group_with_the_same_number = refl

either_is_left : (host_step (in_groups (a_group ∷ [])) (Leaves same_number)).view ≡ fresh
unfolding header_of message_of_change ones_plus groups_after
either_is_left = refl

-- 224.0.0.5 is reported, and is no routed group
a_group_that_is_not_routed : (host_step fresh (Joins (record { 0 = 0xe0000005 }))).view ≡ fresh
unfolding header_of message_of_change ones_plus groups_after
a_group_that_is_not_routed = refl

-- a report that was recorded joins as well
a_recorded_report : host_step fresh (Plays a_joins 46) ≡ step_to (in_groups (a_group ∷ [])) (a_joins ∷ []) (Played None)
unfolding decode_pairs skip_of groups_after
a_recorded_report = refl

a_host_that_moved : host_step (in_groups (a_group ∷ [])) HasMoved ≡ step_to (in_groups (a_group ∷ [])) (a_starts ∷ a_joins ∷ []) Nothing
unfolding decode_pairs header_of message_of_change ones_plus arp_frame
a_host_that_moved = refl

-- the first frame that is held sends a request, the second none
the_first_held_frame : host_step fresh (Plays (for_b 1) 60) ≡ step_to (holding_for_b (for_b 1 ∷ [])) (a_asks ∷ []) (Played None)
unfolding decode_pairs skip_of arp_frame
the_first_held_frame = refl

the_second_held_frame : host_step (holding_for_b (for_b 1 ∷ [])) (Plays (for_b 2) 60)
    ≡ step_to (holding_for_b (for_b 1 ∷ for_b 2 ∷ [])) [] (Played None)
unfolding decode_pairs skip_of
the_second_held_frame = refl

a_retry : host_step (holding_for_b (for_b 1 ∷ for_b 2 ∷ [])) Retries ≡ step_to (holding_for_b (for_b 1 ∷ for_b 2 ∷ [])) (a_asks ∷ []) Nothing
unfolding decode_pairs arp_frame
a_retry = refl

-- an answer sends the held frames in order
an_answer : host_step (holding_for_b (for_b 1 ∷ for_b 2 ∷ [])) (Receives b_answers)
    ≡ step_to knowing_b (for_pmac_b 1 ∷ for_pmac_b 2 ∷ []) (Received Kept)
unfolding decode_pairs groups_after
an_answer = refl

-- so does a request of b, behind the reply that a owes for it
a_request : host_step (holding_for_b (for_b 1 ∷ for_b 2 ∷ [])) (Receives b_asks)
    ≡ step_to knowing_b (a_answers ∷ for_pmac_b 1 ∷ for_pmac_b 2 ∷ []) (Received Kept)
unfolding decode_pairs arp_frame groups_after
a_request = refl

-- and a frame that is played later goes at once
a_later_frame : host_step knowing_b (Plays (for_b 3) 60) ≡ step_to knowing_b (for_pmac_b 3 ∷ []) (Played None)
unfolding decode_pairs skip_of groups_after
a_later_frame = refl

-- played raw it goes as it was recorded
a_raw_frame : host_step knowing_b (PlaysRaw (for_b 3) 60) ≡ step_to knowing_b (for_b 3 ∷ []) (Played None)
unfolding decode_pairs skip_of groups_after
a_raw_frame = refl

the_65th_held_frame : skipped (holding_for_b (replicate 64 (for_b 1))) (Plays (for_b 2) 60) HoldFull
unfolding decode_pairs skip_of
the_65th_held_frame = refl

-- a routed group that is not joined is not for the host; one with the same number is, and so is a frame for all
a_group_of_others : host_step fresh (Receives b_to_group) ≡ step_to fresh [] (Received NotMember)
unfolding decode_pairs
a_group_of_others = refl

a_group_of_its_own : host_step (in_groups (same_number ∷ [])) (Receives b_to_group) ≡ step_to (in_groups (same_number ∷ [])) [] (Received Kept)
unfolding decode_pairs
a_group_of_its_own = refl

a_frame_for_all : host_step fresh (Receives b_to_all) ≡ step_to fresh [] (Received Kept)
unfolding decode_pairs
a_frame_for_all = refl

a_cut_record : skipped fresh (Plays (for_b 1) 61) CutRecord
unfolding decode_pairs skip_of
a_cut_record = refl

a_short_frame : skipped fresh (Plays (take 13 (for_b 1)) 13) Short
unfolding decode_pairs skip_of
a_short_frame = refl

a_long_frame : skipped fresh (Plays (take 14 (for_b 1) ++ replicate 65540 0) 65554) Long
unfolding decode_pairs skip_of
a_long_frame = refl

a_frame_of_b : skipped fresh (Plays b_to_all 60) ForeignSource
unfolding decode_pairs skip_of
a_frame_of_b = refl

-- a request in a frame of a, in which b asks
a_packet_of_b : skipped fresh (PlaysRaw (take 6 b_asks ++ mac_a.0 ++ drop 12 b_asks) 42) ForeignSource
unfolding decode_pairs skip_of
a_packet_of_b = refl

a_control_frame : skipped fresh (Plays (bytes_of (codes "02000000000b02000000000a88b5")) 14) ControlType
unfolding decode_pairs skip_of
a_control_frame = refl

a_recorded_request : skipped fresh (Plays a_asks 42) RecordedArp
unfolding decode_pairs skip_of
a_recorded_request = refl

the_same_played_raw : host_step fresh (PlaysRaw a_asks 42) ≡ step_to fresh (a_asks ∷ []) (Played None)
unfolding decode_pairs skip_of groups_after
the_same_played_raw = refl

a_frame_for_nobody : skipped fresh (Plays (bytes_of (codes "02000000000c02000000000a88b6")) 14) NoOwner
unfolding decode_pairs skip_of
a_frame_for_nobody = refl

a_frame_for_itself : skipped fresh (Plays (bytes_of (codes "02000000000a02000000000a88b6")) 14) NoOwner
unfolding decode_pairs skip_of
a_frame_for_itself = refl
