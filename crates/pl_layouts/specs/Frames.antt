-- What a fabric may do to a frame: take it, or rewrite its address fields.
use Rattle.std.specs.Prelude.{◌≡◌, ◌⊎◌, ◌<◌, ◌≤◌, ℕ, ◌+◌, ◌==◌, ◌||◌, Bool, false, if◌then◌else◌, List, ◌++◌, length, take, drop, Option, Some, None, is_some, IsSome, unwrap_or}
use Rattle.std.specs.Result.{result_ok}
use Rattle.byteorder.specs.Endian.{big_number}
use Rattle.pl_frame.specs.declared.address.Mac.{Mac}
use Rattle.pl_frame.specs.Ethernet.{kind_of, payload_of, destination_of}
use Rattle.pl_arp.specs.declared.packet.Arp.{Arp}
use Rattle.pl_arp.specs.Packet.{arp_in}
use Rattle.pl_pmac.specs.Pmac.{pmac_of}
use Rattle.pl_layouts.specs.Memberships.{is_group, membership_in}

-- an address as a number of 48 bits
abbrev pub mac_number : Mac → ℕ
mac_number mac = big_number 6 mac.0

abbrev pub is_arp : List ℕ → Bool
is_arp frame = kind_of frame == 0x0806

-- the ARP packet of a frame, where it can be read
abbrev pub packet_in : List ℕ → Option Arp
packet_in frame = if is_arp frame then result_ok (arp_in (payload_of frame)) else None

-- a request, or a packet of another opcode that goes to a group or to an address with vmid 0
abbrev pub is_taken_packet : Mac → Option Arp → Bool
is_taken_packet dst None = false
is_taken_packet dst (Some arp) = (arp.op == 1) || is_group dst || ((pmac_of dst).vmid == 0)

-- an edge switch takes such a frame of a host for itself
abbrev pub is_takeable : List ℕ → Bool
is_takeable frame = is_taken_packet (destination_of frame) (packet_in frame) || is_some (membership_in frame)

-- the bytes with these in place of those from a place on
abbrev pub with_bytes : List ℕ → ℕ → List ℕ → List ℕ
with_bytes bytes at new = take at bytes ++ new ++ drop (at + length new) bytes

-- the four fields that a fabric may rewrite, as places in the frame: both addresses, and the hardware addresses of an ARP packet
abbrev pub dst_at : ℕ
dst_at = 0

abbrev pub src_at : ℕ
src_at = 6

abbrev pub sha_at : ℕ
sha_at = 22

abbrev pub tha_at : ℕ
tha_at = 32

abbrev pub put : Option Mac → ℕ → List ℕ → List ℕ
put None at bytes = bytes
put (Some mac) at bytes = with_bytes bytes at mac.0

abbrev pub put_if : Bool → Option Mac → ℕ → List ℕ → List ℕ
put_if b None at bytes = bytes
put_if b (Some mac) at bytes = if b then with_bytes bytes at mac.0 else bytes

-- A frame as it arrives: with this source and this destination where there is one, in the frame and in an ARP packet that can be
-- read. Every other byte is as it was.
abbrev pub arriving : List ℕ → Option Mac → Option Mac → List ℕ
arriving frame src dst = let readable = is_some (packet_in frame) in
    put dst dst_at (put src src_at (put_if readable src sha_at (put_if readable dst tha_at frame)))

-- an address has six bytes
abbrev pub HasSixBytes : Option Mac → Type 0
HasSixBytes None = Unit {0}
HasSixBytes (Some mac) = length mac.0 ≡ 6

-- an ARP packet with these hardware addresses, where there are any
abbrev pub with_addresses : Option Mac → Option Mac → Arp → Arp
with_addresses src dst arp = record arp { sha = unwrap_or src arp.sha; tha = unwrap_or dst arp.tha }

-- A byte that a fabric leaves as it is: behind both addresses, and outside of the hardware addresses of a packet that can be read.
pub record IsUnalteredByte (frame : List ℕ) (i : ℕ) : Type 0 where
  pub behind : 12 ≤ i
  pub outside : IsSome (packet_in frame) → ((i < sha_at) ⊎ (sha_at + 6 ≤ i)) × ((i < tha_at) ⊎ (tha_at + 6 ≤ i))
