-- The texts of a topology file: numbers, labels, addresses and names.
use Rattle.std.specs.Prelude.{ℕ, ◌+◌, ◌*◌, ◌<◌, ◌^◌, ◌%◌, Bool, not, ◌&&◌, ◌||◌, ◌==◌, nat_lt, nat_le, if◌then◌else◌, List, [], ◌∷◌, length, drop, Option, Some, None, option_map, option_and_then, slice_index, codes, decimal}
use Rattle.std.specs.List.{list_all, before_first, after_first}
use Rattle.std.specs.Str.{bytes_eq}
use Rattle.std.specs.Str.Parse.{digits_value}
use Rattle.std.specs.Char.{digit_value}
use Rattle.std.specs.Int.{from_be_bytes, w32}
use Rattle.pl_frame.specs.declared.address.Mac.{Mac}
use Rattle.pl_frame.specs.declared.address.Ip4.{Ip4}
use Rattle.pl_wiring.specs.declared.label.Label.{Label}
use Rattle.pl_wiring.specs.declared.label.Label.TheVariants.{Edge, Aggregation, Core}

-- the number below 2 ^ 16 that is written so: a decimal number without a sign and without leading zeros
unfoldable pub number_of_text : List ℕ → Option ℕ
number_of_text text =
    let n = digits_value 10 text in if nat_lt n 65536 && bytes_eq (decimal n) text then Some n else None

abbrev pub is_point : ℕ → Bool
is_point byte = byte == 46

-- two numbers with a point between them
abbrev pub numbers_of_text : List ℕ → Option (ℕ × ℕ)
numbers_of_text text =
    option_and_then (λ first. option_map (λ second. (first, second)) (number_of_text (after_first is_point text)))
    (number_of_text (before_first is_point text))

abbrev pub byte_of_text : List ℕ → Option ℕ
byte_of_text text = option_and_then (λ n. if nat_lt n 256 then Some n else None) (number_of_text text)

-- the byte of two hexadecimal digits of either case
abbrev pub hex_at : List ℕ → ℕ → Option ℕ
hex_at text at =
    let high = digit_value (slice_index text at) in
    let low = digit_value (slice_index text (at + 1)) in
    if nat_lt high 16 && nat_lt low 16 then Some (16 * high + low) else None

abbrev pub is_colon_at : List ℕ → ℕ → Bool
is_colon_at text at = slice_index text at == 58

-- six two-digit hexadecimal numbers joined by colons
abbrev pub mac_bytes : List ℕ → Option (List ℕ)
mac_bytes text =
    if length text == 17 && is_colon_at text 2 && is_colon_at text 5 && is_colon_at text 8 && is_colon_at text 11 && is_colon_at text 14
    then option_and_then (λ b0. option_and_then (λ b1. option_and_then (λ b2.
    option_and_then (λ b3. option_and_then (λ b4. option_map (λ b5.
    b0 ∷ b1 ∷ b2 ∷ b3 ∷ b4 ∷ b5 ∷ [])
    (hex_at text 15)) (hex_at text 12)) (hex_at text 9)) (hex_at text 6)) (hex_at text 3)) (hex_at text 0)
    else None

-- the label of a kind, by its letter, with these two numbers
abbrev pub label_from : ℕ → ℕ × ℕ → Option Label
label_from letter numbers =
    if letter == 101 && nat_lt numbers.1 256 then Some (Edge numbers.0 numbers.1)
    else if letter == 97 && nat_lt numbers.1 256 then Some (Aggregation numbers.0 numbers.1)
    else if letter == 99 && nat_lt numbers.0 256 && nat_lt numbers.1 256 then Some (Core numbers.0 numbers.1)
    else None

-- e, a or c, and two numbers with a point between them
abbrev pub label_of_text : List ℕ → Option Label
label_of_text text = option_and_then (label_from (slice_index text 0)) (numbers_of_text (drop 1 text))

-- the address of one host: no group address and not all zero
abbrev pub mac_of_text : List ℕ → Option Mac
mac_of_text text =
    option_and_then (λ bytes. if slice_index bytes 0 % 2 == 1 || bytes_eq bytes (0 ∷ 0 ∷ 0 ∷ 0 ∷ 0 ∷ 0 ∷ []) then None else Some (record { 0 = bytes }))
    (mac_bytes text)

-- four decimal numbers below 256 joined by points
abbrev pub ip_number : List ℕ → Option ℕ
ip_number text =
    let after = after_first is_point text in
    let behind = after_first is_point after in
    option_and_then (λ b0. option_and_then (λ b1. option_and_then (λ b2. option_map (λ b3.
    from_be_bytes w32 (b0 ∷ b1 ∷ b2 ∷ b3 ∷ []))
    (byte_of_text (after_first is_point behind))) (byte_of_text (before_first is_point behind)))
    (byte_of_text (before_first is_point after))) (byte_of_text (before_first is_point text))

-- the address of one host: not 0.0.0.0, and its first number is below 224
abbrev pub ip_of_text : List ℕ → Option Ip4
ip_of_text text = option_and_then (λ n. if nat_lt 0 n && nat_lt n 0xe0000000 then Some (record { 0 = n }) else None) (ip_number text)

abbrev pub is_within : ℕ → ℕ → ℕ → Bool
is_within low high byte = nat_le low byte && nat_le byte high

-- a to z, 0 to 9, _ and -
abbrev pub is_name_byte : ℕ → Bool
is_name_byte byte = is_within 97 122 byte || is_within 48 57 byte || byte == 95 || byte == 45

-- words that scripts use
abbrev pub is_taken : List ℕ → Bool
is_taken text = bytes_eq text (codes "all") || bytes_eq text (codes "manager")

-- a host may be called so
abbrev pub is_name : List ℕ → Bool
is_name text = nat_le 1 (length text) && nat_le (length text) 32 && list_all is_name_byte text && not (is_taken text)

-- letters, digits, _, - and .
abbrev pub is_capture_byte : ℕ → Bool
is_capture_byte byte = is_within 97 122 byte || is_within 65 90 byte || is_within 48 57 byte || byte == 95 || byte == 45 || byte == 46

-- a capture file may be called so
abbrev pub is_capture : List ℕ → Bool
is_capture text = nat_le 1 (length text) && nat_le (length text) 64 && list_all is_capture_byte text && not (is_point (slice_index text 0))

-- a label whose numbers fit their types, as those of every tree do
abbrev pub IsWritableLabel : Label → Type 0
IsWritableLabel (Edge pod i) = (pod < 2 ^ 16) × (i < 2 ^ 8)
IsWritableLabel (Aggregation pod j) = (pod < 2 ^ 16) × (j < 2 ^ 8)
IsWritableLabel (Core group m) = (group < 2 ^ 8) × (m < 2 ^ 8)
