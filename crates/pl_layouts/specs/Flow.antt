-- By what a switch tells flows apart: the addresses, type and ports of a frame, hashed by FNV-1a (Fowler, Noll and Vo).
use Rattle.std.specs.Prelude.{ℕ, ◌+◌, ◌*◌, ◌%◌, ◌^◌, ◌==◌, ◌&&◌, ◌||◌, nat_le, bit_xor, Bool, if◌then◌else◌, List, [], ◌∷◌, ◌++◌, length, take, drop, fold, slice_index}
use Rattle.byteorder.specs.Endian.{big_number}
use Rattle.pl_frame.specs.Ethernet.{payload_of}
use Rattle.pl_layouts.specs.Memberships.{has_ipv4, header_length}

-- where the hash of 32 bits begins
abbrev pub fnv_offset : ℕ
fnv_offset = 2166136261

-- by what the hash is multiplied for each byte
abbrev pub fnv_prime : ℕ
fnv_prime = 16777619

-- a byte goes into the hash: exclusive or, then times the prime
abbrev pub fnv_step : ℕ → ℕ → ℕ
fnv_step hash byte = bit_xor hash byte * fnv_prime % 2 ^ 32

-- the hash of some bytes, in order
unfoldable pub fnv1a : List ℕ → ℕ
fnv1a bytes = fold fnv_step fnv_offset bytes

-- TCP and UDP have ports
abbrev pub protocol_has_ports : ℕ → Bool
protocol_has_ports protocol = (protocol == 6) || (protocol == 17)

-- no fragment: no more fragments behind it, and it begins at the front
abbrev pub is_whole : List ℕ → Bool
is_whole payload = big_number 2 (drop 6 payload) % 2 ^ 14 == 0

-- the ports stand in the four bytes behind the IPv4 header
abbrev pub has_ports : List ℕ → Bool
has_ports payload = protocol_has_ports (slice_index payload 9) && is_whole payload && nat_le (header_length payload + 4) (length payload)

-- source and destination port, or nothing
abbrev pub port_bytes : List ℕ → List ℕ
port_bytes payload = if has_ports payload then take 4 (drop (header_length payload) payload) else []

-- protocol, source, destination, and the ports where there are any
abbrev pub ipv4_flow_bytes : List ℕ → List ℕ
ipv4_flow_bytes payload = slice_index payload 9 ∷ (take 8 (drop 12 payload) ++ port_bytes payload)

-- destination, source and type of the frame, and what its IPv4 part has
unfoldable pub flow_bytes : List ℕ → List ℕ
flow_bytes frame = take 14 frame ++ (if has_ipv4 frame then ipv4_flow_bytes (payload_of frame) else [])

-- the number by which a switch chooses among the ports that lead on
unfoldable pub flow_hash : List ℕ → ℕ
flow_hash frame = fnv1a (flow_bytes frame)
