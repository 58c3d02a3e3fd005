-- The frame by which a host joins or leaves a group (RFC 2236, section 2; the IPv4 header is that of RFC 791 with the option of RFC 2113).
use Rattle.std.specs.Prelude.{◌≡◌, ℕ, ◌%◌, ◌^◌, Bool, true, if◌then◌else◌, List, [], ◌∷◌, ◌++◌, refl}
use Rattle.byteorder.specs.Endian.{big_bytes}
use Rattle.pl_frame.specs.declared.address.Mac.{Mac}
use Rattle.pl_frame.specs.Ethernet.{frame_of}
use Rattle.pl_arp.specs.declared.cache.Me.{Me}
use Rattle.pl_layouts.specs.declared.membership.Change.{Change}
use Rattle.pl_layouts.specs.Checksum.{checksum_of, ones_plus}

-- all routers of the network, 224.0.0.2
abbrev pub all_routers : ℕ
all_routers = 0xe0000002

-- a report goes to its group, a leave to all routers
abbrev pub receiver_of : Change → ℕ
receiver_of change = if change.join then change.group.0 else all_routers

-- 01:00:5e and the low 23 bits of the group (RFC 1112, section 6.4)
abbrev pub group_mac : ℕ → Mac
group_mac group = record { 0 = 1 ∷ 0 ∷ 0x5e ∷ big_bytes 3 (group % 2 ^ 23) }

-- 24 bytes of header before a message of 8 bytes: version 4 and six words, no service, total length 32, no fragment, one hop,
-- protocol 2, checksum, source, destination, router alert
abbrev pub header_with : ℕ → ℕ → ℕ → List ℕ
header_with src dst sum =
    0x46 ∷ 0 ∷ 0 ∷ 32 ∷ 0 ∷ 0 ∷ 0 ∷ 0 ∷ 1 ∷ 2 ∷ (big_bytes 2 sum ++ (big_bytes 4 src ++ (big_bytes 4 dst ++ (0x94 ∷ 4 ∷ 0 ∷ 0 ∷ []))))

unfoldable pub header_of : ℕ → ℕ → List ℕ
header_of src dst = header_with src dst (checksum_of (header_with src dst 0))

-- type, no time, checksum, group
abbrev pub message_with : Bool → ℕ → ℕ → List ℕ
message_with join group sum = (if join then 0x16 else 0x17) ∷ 0 ∷ (big_bytes 2 sum ++ big_bytes 4 group)

unfoldable pub message_of_change : Change → List ℕ
message_of_change change = message_with change.join change.group.0 (checksum_of (message_with change.join change.group.0 0))

abbrev pub membership_frame : Me → Change → List ℕ
membership_frame me change = frame_of (record {
  dst = group_mac (receiver_of change);
  src = me.mac;
  kind = 0x0800;
  payload = header_of me.ip.0 (receiver_of change) ++ message_of_change change;
})

-- host 02:00:00:00:00:0a, 10.0.0.1, joins 239.1.2.3
the_report_of_a_host : membership_frame (record { mac = record { 0 = 2 ∷ 0 ∷ 0 ∷ 0 ∷ 0 ∷ 0x0a ∷ [] }; ip = record { 0 = 0x0a000001 } })
    (record { group = record { 0 = 0xef010203 }; join = true })
    ≡ 1 ∷ 0 ∷ 0x5e ∷ 1 ∷ 2 ∷ 3 ∷ 2 ∷ 0 ∷ 0 ∷ 0 ∷ 0 ∷ 0x0a ∷ 8 ∷ 0
    ∷ 0x46 ∷ 0 ∷ 0 ∷ 0x20 ∷ 0 ∷ 0 ∷ 0 ∷ 0 ∷ 1 ∷ 2 ∷ 0x29 ∷ 0xd3 ∷ 0x0a ∷ 0 ∷ 0 ∷ 1 ∷ 0xef ∷ 1 ∷ 2 ∷ 3 ∷ 0x94 ∷ 4 ∷ 0 ∷ 0
    ∷ 0x16 ∷ 0 ∷ 0xf8 ∷ 0xfa ∷ 0xef ∷ 1 ∷ 2 ∷ 3 ∷ []
unfolding header_of message_of_change ones_plus
the_report_of_a_host = refl
