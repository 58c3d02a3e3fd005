-- Addresses: which of them name a group, and how they are printed.
use Rattle.std.specs.Prelude.{◌≡◌, ℕ, ◌/◌, ◌%◌, List, [], ◌∷◌, ◌++◌, false, codes, slice_index, take, drop}
use Rattle.std.specs.Fmt.{decimal, digit_glyph}
use Rattle.pl_frame.specs.declared.address.Mac.{Mac}
use Rattle.pl_frame.specs.declared.address.Ip4.{Ip4}

-- the address in the six bytes from a place on
abbrev pub mac_at : List ℕ → ℕ → Mac
mac_at bytes at = record { 0 = take 6 (drop at bytes) }

-- a group address has the low bit of its first byte set (IEEE 802)
abbrev pub IsGroup : Mac → Type 0
IsGroup mac = slice_index mac.0 0 % 2 ≡ 1

-- a byte as two lower-case hexadecimal digits
abbrev pub hex_pair : ℕ → List ℕ
hex_pair byte = digit_glyph false (byte / 16) ∷ digit_glyph false (byte % 16) ∷ []

-- six two-digit hexadecimal numbers joined by colons
abbrev pub mac_text : Mac → List ℕ
mac_text mac =
    hex_pair (slice_index mac.0 0) ++ codes ":" ++ hex_pair (slice_index mac.0 1) ++ codes ":" ++ hex_pair (slice_index mac.0 2)
    ++ codes ":" ++ hex_pair (slice_index mac.0 3) ++ codes ":" ++ hex_pair (slice_index mac.0 4) ++ codes ":" ++ hex_pair (slice_index mac.0 5)

-- four decimal numbers joined by points, the most significant first
abbrev pub ip4_text : Ip4 → List ℕ
ip4_text ip =
    decimal (ip.0 / 16777216) ++ codes "." ++ decimal (ip.0 / 65536 % 256) ++ codes "." ++ decimal (ip.0 / 256 % 256)
    ++ codes "." ++ decimal (ip.0 % 256)
