-- The membership message of a frame, by the type and the payload of the frame.
use Rattle.std.specs.Prelude.{ℕ, ◌/◌, ◌==◌, ◌&&◌, nat_le, if◌then◌else◌, List, length, drop, slice_index, Option, Some, None}
use Rattle.pl_layouts.specs.Memberships.{header_length, is_membership}

-- IPv4 of protocol 2 in a whole header, and at least 8 bytes behind it
abbrev pub message_of : ℕ → List ℕ → Option (List ℕ)
message_of kind payload = let message = drop (header_length payload) payload in
    if ((kind == 0x0800) && nat_le 20 (length payload) && (slice_index payload 0 / 16 == 4) && nat_le 20 (header_length payload)
    && nat_le (header_length payload) (length payload)) && (slice_index payload 9 == 2) && nat_le 8 (length message) && is_membership (slice_index message 0) then Some message
    else None
