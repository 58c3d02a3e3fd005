-- Group membership in a frame (RFC 1112, RFC 2236, RFC 3376).
use Rattle.std.specs.Prelude.{ℕ, ◌+◌, ◌*◌, ◌/◌, ◌%◌, ◌^◌, zero, suc, ◌==◌, ◌&&◌, ◌||◌, not, nat_lt, nat_le, Bool, true, false, if◌then◌else◌, List, [], ◌∷◌, ◌++◌, length, drop, slice_index, Option, Some, None}
use Rattle.byteorder.specs.Endian.{big_number}
use Rattle.pl_frame.specs.declared.address.Ip4.{Ip4}
use Rattle.pl_frame.specs.declared.address.Mac.{Mac}
use Rattle.pl_frame.specs.Ethernet.{kind_of, payload_of}
use Rattle.pl_layouts.specs.declared.membership.Change.{Change}

-- the number under which all groups go that are not routed
abbrev pub flood : ℕ
flood = 8388608

abbrev pub is_group : Mac → Bool
is_group mac = slice_index mac.0 0 % 2 == 1

-- 01:00:5e, a zero bit, and the number of the group in 23 bits (RFC 1112, section 6.4)
abbrev pub is_ip_group : Mac → Bool
is_ip_group mac =
    (slice_index mac.0 0 == 1) && (slice_index mac.0 1 == 0) && (slice_index mac.0 2 == 0x5e) && nat_lt (slice_index mac.0 3) 128

-- the group that a frame with this destination goes to: a group is routed by its number from 256 on, and every other is flooded
abbrev pub group_of : Mac → Option ℕ
group_of mac =
    if not (is_group mac) then None
    else if is_ip_group mac && nat_le 256 (big_number 3 (drop 3 mac.0)) then Some (big_number 3 (drop 3 mac.0))
    else Some flood

-- the length of the IPv4 header at the front of a payload, by its own field in words of four bytes
abbrev pub header_length : List ℕ → ℕ
header_length payload = 4 * (slice_index payload 0 % 16)

-- type 0x0800, version 4, and a header of at least 20 bytes that is whole
abbrev pub has_ipv4 : List ℕ → Bool
has_ipv4 frame = let payload = payload_of frame in
    (kind_of frame == 0x0800) && nat_le 20 (length payload) && (slice_index payload 0 / 16 == 4) && nat_le 20 (header_length payload)
    && nat_le (header_length payload) (length payload)

-- a report of version 2 (0x16), a leave (0x17), or a report of version 3 (0x22)
abbrev pub is_membership : ℕ → Bool
is_membership kind = (kind == 0x16) || (kind == 0x17) || (kind == 0x22)

-- the membership message of a frame: protocol 2, and at least 8 bytes behind the IPv4 header
abbrev pub membership_in : List ℕ → Option (List ℕ)
membership_in frame = let payload = payload_of frame in let message = drop (header_length payload) payload in
    if has_ipv4 frame && (slice_index payload 9 == 2) && nat_le 8 (length message) && is_membership (slice_index message 0) then Some message
    else None

-- a group's number is the low 23 bits of its address, and groups with one number are one group
abbrev pub group_number : Ip4 → ℕ
group_number group = group.0 % 2 ^ 23

-- 224.0.0.0 to 239.255.255.255, with a number (the low 23 bits) from 256 on
abbrev pub is_routed_group : ℕ → Bool
is_routed_group ip = (ip / 2 ^ 28 == 14) && nat_le 256 (ip % 2 ^ 23)

abbrev pub change_if_routed : ℕ → Bool → List Change
change_if_routed ip join = if is_routed_group ip then record { group = record { 0 = ip }; join = join } ∷ [] else []

-- a group record without sources: types 2 and 4 join, type 3 leaves (RFC 3376, section 4.2.12); all others say nothing here
abbrev pub record_change : ℕ → ℕ → ℕ → List Change
record_change kind sources group =
    if not (sources == 0) then []
    else if (kind == 2) || (kind == 4) then change_if_routed group true
    else if kind == 3 then change_if_routed group false
    else []

-- a group record: type, auxiliary length in words, number of sources, group, sources, auxiliary bytes
abbrev pub record_length : List ℕ → ℕ
record_length bytes = 8 + 4 * big_number 2 (drop 2 bytes) + 4 * slice_index bytes 1

-- the changes of at most so many records, up to the first that is not whole
unfoldable pub records_changes : ℕ → List ℕ → List Change
records_changes zero bytes = []
records_changes (suc n) bytes =
    if nat_lt (length bytes) 8 || nat_lt (length bytes) (record_length bytes) then []
    else record_change (slice_index bytes 0) (big_number 2 (drop 2 bytes)) (big_number 4 (drop 4 bytes)) ++ records_changes n (drop (record_length bytes) bytes)

abbrev pub message_changes : List ℕ → List Change
message_changes message =
    if slice_index message 0 == 0x16 then change_if_routed (big_number 4 (drop 4 message)) true
    else if slice_index message 0 == 0x17 then change_if_routed (big_number 4 (drop 4 message)) false
    else records_changes (big_number 2 (drop 6 message)) (drop 8 message)

abbrev pub changes_of : Option (List ℕ) → List Change
changes_of None = []
changes_of (Some message) = message_changes message

-- what a frame says of its sender's memberships, in order
abbrev pub changes_in : List ℕ → List Change
changes_in frame = changes_of (membership_in frame)
