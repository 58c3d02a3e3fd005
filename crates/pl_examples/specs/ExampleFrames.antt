-- Frames of two hosts, and what the definitions say of them. Host a has 02:00:00:00:00:0a and 10.0.0.1, host b 02:00:00:00:00:0b and 10.0.0.2.
use Rattle.std.specs.Prelude.{◌≡◌, ℕ, Bool, true, false, List, [], ◌∷◌, ◌++◌, codes, replicate, take, Some, None, refl}
use Rattle.std.specs.Result.{result_unwrap_or}
use Rattle.hex.specs.Hex.{decode_of, decode_pairs}
use Rattle.pl_frame.specs.declared.address.Mac.{Mac}
use Rattle.pl_pmac.specs.declared.pmac.Pmac.{Pmac}
use Rattle.pl_pmac.specs.Pmac.{mac_of}
use Rattle.pl_layouts.specs.declared.membership.Change.{Change}
use Rattle.pl_layouts.specs.Memberships.{group_of, changes_in, records_changes}
use Rattle.pl_layouts.specs.Frames.{arriving, is_takeable}

-- the bytes that hexadecimal digits spell
abbrev pub bytes_of : List ℕ → List ℕ
bytes_of digits = result_unwrap_or (decode_of digits) []

abbrev pub mac_a : Mac
mac_a = record { 0 = 2 ∷ 0 ∷ 0 ∷ 0 ∷ 0 ∷ 10 ∷ [] }

abbrev pub mac_b : Mac
mac_b = record { 0 = 2 ∷ 0 ∷ 0 ∷ 0 ∷ 0 ∷ 11 ∷ [] }

-- the addresses of ports 0 and 1 of the edge switch at position 0 of pod 0
abbrev pub pmac_a : Pmac
pmac_a = record { pod = 0; position = 0; port = 0; vmid = 1 }

abbrev pub pmac_b : Pmac
pmac_b = record { pod = 0; position = 0; port = 1; vmid = 1 }

-- ARP requests of a and b for their own addresses
abbrev pub a_starts : List ℕ
a_starts = bytes_of (codes "ffffffffffff02000000000a0806000108000604000102000000000a0a0000010000000000000a000001")

abbrev pub b_starts : List ℕ
b_starts = bytes_of (codes "ffffffffffff02000000000b0806000108000604000102000000000b0a0000020000000000000a000002")

-- a frame of 60 bytes from a to b's address, and as it arrives
abbrev pub a_to_b : List ℕ
a_to_b = bytes_of (codes "00000001000102000000000a88b6") ++ replicate 46 0

abbrev pub a_to_b_arrived : List ℕ
a_to_b_arrived = bytes_of (codes "02000000000b00000000000188b6") ++ replicate 46 0

-- an ARP reply of a to b's address, and as it arrives: with b's own address, and under the address of a
abbrev pub reply : List ℕ
reply = bytes_of (codes "00000001000102000000000a0806000108000604000202000000000a0a0000010000000100010a000002")

abbrev pub reply_arrived : List ℕ
reply_arrived = bytes_of (codes "02000000000b000000000001080600010800060400020000000000010a00000102000000000b0a000002")

-- a joins 239.1.2.3 by a report of version 2
abbrev pub a_joins : List ℕ
a_joins = bytes_of (codes "01005e01020302000000000a080046000020000000000102") ++ bytes_of (codes "29d30a000001ef010203940400001600f8faef010203")

-- a report of version 3 with two records: one leaves 239.1.2.3, and behind a word of auxiliary data one joins 239.1.2.4
abbrev pub a_changes : List ℕ
a_changes = bytes_of (codes "01005e00001602000000000a08004600003400000000010200000a000001e000001694040000")
    ++ bytes_of (codes "2200000000000002") ++ bytes_of (codes "03010000ef010203deadbeef") ++ bytes_of (codes "04000000ef010204")

-- Another one with three: type 4 for 239.1.2.5 with a source, and without any type 2 for 239.1.2.6 and type 1 for 239.1.2.7. The one in
-- the middle joins.
abbrev pub a_sources : List ℕ
a_sources = bytes_of (codes "01005e00001602000000000a08004600003800000000010200000a000001e000001694040000")
    ++ bytes_of (codes "2200000000000003") ++ bytes_of (codes "04000001ef0102050a000009") ++ bytes_of (codes "02000000ef010206") ++ bytes_of (codes "01000000ef010207")

abbrev pub change : ℕ → Bool → Change
change ip join = record { group = record { 0 = ip }; join = join }

a_routed_group : group_of (record { 0 = 1 ∷ 0 ∷ 0x5e ∷ 1 ∷ 2 ∷ 3 ∷ [] }) ≡ Some 66051
a_routed_group = refl

-- 224.0.0.255 and all below it are flooded, 224.0.1.0 is routed
the_last_that_is_flooded : group_of (record { 0 = 1 ∷ 0 ∷ 0x5e ∷ 0 ∷ 0 ∷ 255 ∷ [] }) ≡ Some 8388608
the_last_that_is_flooded = refl

the_first_that_is_routed : group_of (record { 0 = 1 ∷ 0 ∷ 0x5e ∷ 0 ∷ 1 ∷ 0 ∷ [] }) ≡ Some 256
the_first_that_is_routed = refl

a_set_bit_before_the_number : group_of (record { 0 = 1 ∷ 0 ∷ 0x5e ∷ 128 ∷ 1 ∷ 0 ∷ [] }) ≡ Some 8388608
a_set_bit_before_the_number = refl

the_broadcast_address : group_of (record { 0 = replicate 6 255 }) ≡ Some 8388608
the_broadcast_address = refl

no_group : group_of (mac_of pmac_a) ≡ None
no_group = refl

a_report_joins : changes_in a_joins ≡ change 0xef010203 true ∷ []
unfolding decode_pairs
a_report_joins = refl

two_records : changes_in a_changes ≡ change 0xef010203 false ∷ change 0xef010204 true ∷ []
unfolding decode_pairs records_changes
two_records = refl

records_with_sources : changes_in a_sources ≡ change 0xef010206 true ∷ []
unfolding decode_pairs records_changes
records_with_sources = refl

-- without its last byte the second record is not whole
a_cut_record : changes_in (take 65 a_changes) ≡ change 0xef010203 false ∷ []
unfolding decode_pairs records_changes
a_cut_record = refl

-- 45 bytes have only 7 behind the IPv4 header
a_cut_report : changes_in (take 45 a_joins) ≡ []
unfolding decode_pairs
a_cut_report = refl

a_request_is_taken : is_takeable a_starts ≡ true
unfolding decode_pairs
a_request_is_taken = refl

a_report_is_taken : is_takeable a_joins ≡ true
unfolding decode_pairs
a_report_is_taken = refl

a_cut_report_is_not : is_takeable (take 45 a_joins) ≡ false
unfolding decode_pairs
a_cut_report_is_not = refl

a_reply_to_a_host_is_not : is_takeable reply ≡ false
unfolding decode_pairs
a_reply_to_a_host_is_not = refl

-- to a group, or to vmid 0, a reply is taken
a_reply_to_all_is : is_takeable (replicate 6 255 ++ bytes_of (codes "02000000000a0806000108000604000202000000000a0a0000010000000100010a000002")) ≡ true
unfolding decode_pairs
a_reply_to_all_is = refl

the_answer_to_a_probe_is : is_takeable (bytes_of (codes "00000001000002000000000a0806000108000604000202000000000a0a0000010000000100010a000002")) ≡ true
unfolding decode_pairs
the_answer_to_a_probe_is = refl

another_frame_is_not : is_takeable a_to_b ≡ false
unfolding decode_pairs
another_frame_is_not = refl

a_frame_arrives : arriving a_to_b (Some (mac_of pmac_a)) (Some mac_b) ≡ a_to_b_arrived
unfolding decode_pairs
a_frame_arrives = refl

a_reply_arrives : arriving reply (Some (mac_of pmac_a)) (Some mac_b) ≡ reply_arrived
unfolding decode_pairs
a_reply_arrives = refl
