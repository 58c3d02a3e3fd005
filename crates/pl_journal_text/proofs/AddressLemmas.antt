-- Addresses by their one spelling.
use Rattle.std.proofs.Common.{◌≡◌, ◌≢◌, ℕ, ◌/◌, ◌%◌, ◌^◌, ◌<◌, ◌&&◌, ◌==◌, true, false, List, [], ◌∷◌, ◌++◌, length, slice_index, codes, Option, Some, None, Result, Ok, Err, refl, sym, ap, ap₂, subst, ◌∙◌, arith}
use Rattle.std.specs.Fmt.{digit_glyph}
use Rattle.std.specs.List.{list_all}
use Rattle.std.specs.Result.{result_ok}
use Rattle.std.proofs.lemmas.Bool.{and_parts, eqb-true, false≢true}
use Rattle.std.proofs.lemmas.List.FromFn.{get_or-map-range_with_len}
use Rattle.byteorder.specs.Endian.{big_bytes, big_number}
use Rattle.byteorder.specs.Numbers.{big_from-lt}
use Rattle.hex.specs.Hex.{IsBytes, decode_of, decode_sized, encode_lower, encode_with, lower_digits}
use Rattle.hex.specs.declared.error.FromHexError.{FromHexError}
use Rattle.hex.proofs.HexLemmas.{decode_of-encode_lower, decode_of-ok, decode_sized-twice, length-encode_with}
use Rattle.pl_frame.specs.declared.address.Mac.{Mac}
use Rattle.pl_frame.specs.Address.{hex_pair, mac_text}
use Rattle.pl_frame.proofs.Exports.{big_bytes-big_number}
use Rattle.pl_pmac.specs.declared.pmac.Pmac.{Pmac}
use Rattle.pl_pmac.specs.Pmac.{PmacFits, mac_of, pmac_number, pmac_of}
use Rattle.pl_pmac.proofs.Exports.{length-mac_of}
use Rattle.pl_wiring.specs.Texts.{is_colon_at}
use Rattle.pl_journal.specs.Text.{address_text}
use Rattle.pl_journal_text.specs.Hexadecimals.{is_lower_digit, is_spread, with_colons}
use Rattle.pl_journal_text.specs.Ink.{address_bytes}
use Rattle.pl_journal_text.proofs.HexadecimalLemmas.{not_upper, spelt}

-- the text of 17 characters
pub spread_digits : (text : List ℕ) → is_spread text ≡ true →
    text ≡ with_colons (slice_index text 0 ∷ slice_index text 1 ∷ slice_index text 3 ∷ slice_index text 4 ∷ slice_index text 6 ∷ slice_index text 7
    ∷ slice_index text 9 ∷ slice_index text 10 ∷ slice_index text 12 ∷ slice_index text 13 ∷ slice_index text 15 ∷ slice_index text 16 ∷ [])
unfolding with_colons
spread_digits text spread =
    let p5 = and_parts ((length text == 17) && is_colon_at text 2 && is_colon_at text 5 && is_colon_at text 8 && is_colon_at text 11) (is_colon_at text 14) spread in
    let p4 = and_parts ((length text == 17) && is_colon_at text 2 && is_colon_at text 5 && is_colon_at text 8) (is_colon_at text 11) p5.0 in
    let p3 = and_parts ((length text == 17) && is_colon_at text 2 && is_colon_at text 5) (is_colon_at text 8) p4.0 in
    let p2 = and_parts ((length text == 17) && is_colon_at text 2) (is_colon_at text 5) p3.0 in
    let p1 = and_parts (length text == 17) (is_colon_at text 2) p2.0 in
    whole text (eqb-true (length text) 17 p1.0) (eqb-true (slice_index text 2) 58 p1.1) (eqb-true (slice_index text 5) 58 p2.1)
    (eqb-true (slice_index text 8) 58 p3.1) (eqb-true (slice_index text 11) 58 p4.1) (eqb-true (slice_index text 14) 58 p5.1)
  where
    whole : (text : List ℕ) → length text ≡ 17 → slice_index text 2 ≡ 58 → slice_index text 5 ≡ 58 → slice_index text 8 ≡ 58 → slice_index text 11 ≡ 58 → slice_index text 14 ≡ 58 →
        text ≡ slice_index text 0 ∷ slice_index text 1 ∷ 58 ∷ slice_index text 3 ∷ slice_index text 4 ∷ 58 ∷ slice_index text 6 ∷ slice_index text 7 ∷ 58
        ∷ slice_index text 9 ∷ slice_index text 10 ∷ 58 ∷ slice_index text 12 ∷ slice_index text 13 ∷ 58 ∷ slice_index text 15 ∷ slice_index text 16 ∷ []
    whole (a ∷ b ∷ c ∷ d ∷ e ∷ f ∷ g ∷ h ∷ i ∷ j ∷ k ∷ l ∷ m ∷ n ∷ o ∷ p ∷ q ∷ []) long c1 c2 c3 c4 c5 = (cc)
    whole _ long c1 c2 c3 c4 c5 = absurd (omega arith)

pub digits_spread : (digits : List ℕ) → length digits ≡ 12 → is_spread (with_colons digits) ≡ true
unfolding with_colons
digits_spread (a ∷ b ∷ c ∷ d ∷ e ∷ f ∷ g ∷ h ∷ i ∷ j ∷ k ∷ l ∷ []) long = refl
digits_spread _ long = absurd (omega arith)

-- the digits can be told from the text
without_colons : List ℕ → List ℕ
without_colons text =
    slice_index text 0 ∷ slice_index text 1 ∷ slice_index text 3 ∷ slice_index text 4 ∷ slice_index text 6 ∷ slice_index text 7
    ∷ slice_index text 9 ∷ slice_index text 10 ∷ slice_index text 12 ∷ slice_index text 13 ∷ slice_index text 15 ∷ slice_index text 16 ∷ []

told : (digits : List ℕ) → length digits ≡ 12 → without_colons (with_colons digits) ≡ digits
unfolding with_colons without_colons
told (a ∷ b ∷ c ∷ d ∷ e ∷ f ∷ g ∷ h ∷ i ∷ j ∷ k ∷ l ∷ []) long = refl
told _ long = absurd (omega arith)

pub same_digits : (a b : List ℕ) → length a ≡ 12 → length b ≡ 12 → with_colons a ≡ with_colons b → a ≡ b
same_digits a b first second same = sym (told a first) ∙ ap without_colons same ∙ told b second

glyph_at : (n : ℕ) → n < 16 → slice_index lower_digits n ≡ digit_glyph false n
glyph_at n less = get_or-map-range_with_len (digit_glyph false) 0 16 n n 0 less (omega arith)

abbrev pair_of : ℕ → List ℕ
pair_of b = slice_index lower_digits (b / 16) ∷ slice_index lower_digits (b % 16) ∷ []

pair_is : (b : ℕ) → b < 256 → hex_pair b ≡ pair_of b
pair_is b small =
    let high : b / 16 < 16 = omega arith in
    let low : b % 16 < 16 = omega arith in
    ap₂ (λ x y. x ∷ y ∷ []) (sym (glyph_at (b / 16) high)) (sym (glyph_at (b % 16) low))

-- an address is the digits of its bytes with colons between
mac_digits : (bytes : List ℕ) → length bytes ≡ 6 → IsBytes bytes → mac_text (record { 0 = bytes }) ≡ with_colons (encode_lower bytes)
unfolding with_colons encode_with
mac_digits (a ∷ b ∷ c ∷ d ∷ e ∷ f ∷ []) six are =
    let pa = pair_is a (are 0) in
    let pb = pair_is b (are 1) in
    let pc = pair_is c (are 2) in
    let pd = pair_is d (are 3) in
    let pe = pair_is e (are 4) in
    let pf = pair_is f (are 5) in
    ap (λ x. x ++ codes ":" ++ hex_pair b ++ codes ":" ++ hex_pair c ++ codes ":" ++ hex_pair d ++ codes ":" ++ hex_pair e ++ codes ":" ++ hex_pair f) pa
    ∙ ap (λ x. pair_of a ++ codes ":" ++ x ++ codes ":" ++ hex_pair c ++ codes ":" ++ hex_pair d ++ codes ":" ++ hex_pair e ++ codes ":" ++ hex_pair f) pb
    ∙ ap (λ x. pair_of a ++ codes ":" ++ pair_of b ++ codes ":" ++ x ++ codes ":" ++ hex_pair d ++ codes ":" ++ hex_pair e ++ codes ":" ++ hex_pair f) pc
    ∙ ap (λ x. pair_of a ++ codes ":" ++ pair_of b ++ codes ":" ++ pair_of c ++ codes ":" ++ x ++ codes ":" ++ hex_pair e ++ codes ":" ++ hex_pair f) pd
    ∙ ap (λ x. pair_of a ++ codes ":" ++ pair_of b ++ codes ":" ++ pair_of c ++ codes ":" ++ pair_of d ++ codes ":" ++ x ++ codes ":" ++ hex_pair f) pe
    ∙ ap (λ x. pair_of a ++ codes ":" ++ pair_of b ++ codes ":" ++ pair_of c ++ codes ":" ++ pair_of d ++ codes ":" ++ pair_of e ++ codes ":" ++ x) pf
mac_digits _ six are = absurd (omega arith)

twelve : (bytes : List ℕ) → length bytes ≡ 6 → length (encode_lower bytes) ≡ 12
twelve bytes six = omega (arith, length-encode_with lower_digits bytes)

-- an address in range is written so
pub written : (pmac : Pmac) → address_text pmac ≡ with_colons (encode_lower (mac_of pmac).0)
written pmac = mac_digits (mac_of pmac).0 (length-mac_of pmac) (address_bytes pmac)

pub written_long : (pmac : Pmac) → length (encode_lower (mac_of pmac).0) ≡ 12
written_long pmac = twelve (mac_of pmac).0 (length-mac_of pmac)

pub fits_of : (bytes : List ℕ) → IsBytes bytes → PmacFits (pmac_of (record { 0 = bytes }))
fits_of bytes are =
    let n : ℕ = big_number 6 bytes in
    let below : n < 256 ^ 6 = big_from-lt 0 6 bytes are in
    record { pod = omega arith; position = omega arith; port = omega arith; vmid = omega arith }

-- the three reasons why no address is read, and the address that is
pub not_spread : (text : List ℕ) → is_spread text ≡ false → (pmac : Pmac) → PmacFits pmac → text ≢ address_text pmac
not_spread text other pmac fits same =
    false≢true (sym other ∙ ap is_spread (same ∙ written pmac) ∙ digits_spread (encode_lower (mac_of pmac).0) (written_long pmac))

digits_are : (text digits : List ℕ) (pmac : Pmac) → length digits ≡ 12 → text ≡ with_colons digits → text ≡ address_text pmac → digits ≡ encode_lower (mac_of pmac).0
digits_are text digits pmac long is same = same_digits digits (encode_lower (mac_of pmac).0) long (written_long pmac) (sym is ∙ same ∙ written pmac)

pub not_lower : (text digits : List ℕ) → length digits ≡ 12 → text ≡ with_colons digits → list_all is_lower_digit digits ≡ false →
    (pmac : Pmac) → PmacFits pmac → text ≢ address_text pmac
not_lower text digits long is other pmac fits same =
    not_upper digits other (mac_of pmac).0 (address_bytes pmac) (digits_are text digits pmac long is same)

pub not_read : (text digits : List ℕ) (read : Option (List ℕ)) → length digits ≡ 12 → text ≡ with_colons digits → read ≡ result_ok (decode_sized digits 6) → read ≡ None →
    (pmac : Pmac) → PmacFits pmac → text ≢ address_text pmac
not_read text digits read long is result none pmac fits same =
    let bytes = (mac_of pmac).0 in
    let whole = decode_sized-twice digits 6 (omega arith) ∙ ap decode_of (digits_are text digits pmac long is same) ∙ decode_of-encode_lower bytes (address_bytes pmac) in
    let e : ◌≡◌ {A = Option (List ℕ)} None (Some bytes) = sym none ∙ result ∙ ap result_ok whole in
    absurd (cc)

number_fields : (n : ℕ) → pmac_number (record { pod = n / 2 ^ 32; position = n / 2 ^ 24 % 256; port = n / 2 ^ 16 % 256; vmid = n % 2 ^ 16 }) ≡ n
number_fields n = omega arith

abbrev mac : List ℕ → Mac
mac bytes = record { 0 = bytes }

back : (bytes : List ℕ) → length bytes ≡ 6 → IsBytes bytes → mac_of (pmac_of (mac bytes)) ≡ mac bytes
back bytes six are =
    ap (λ n. mac (big_bytes 6 n)) (number_fields (big_number 6 bytes)) ∙ ap mac (big_bytes-big_number 6 bytes six are)

ok_of : (r : Result (List ℕ) FromHexError) (bytes : List ℕ) → result_ok r ≡ Some bytes → r ≡ Ok bytes
ok_of (Ok found) bytes is = let same : found ≡ bytes = (cc) in ap (λ b. Ok b) same
ok_of (Err e) bytes is = absurd (cc)

pub is_read : (text digits : List ℕ) (read : Option (List ℕ)) (bytes : List ℕ) (pmac : Pmac) → length digits ≡ 12 → text ≡ with_colons digits →
    list_all is_lower_digit digits ≡ true → read ≡ result_ok (decode_sized digits 6) → read ≡ Some bytes → pmac ≡ pmac_of (mac bytes) →
    PmacFits pmac × (text ≡ address_text pmac)
is_read text digits read bytes pmac long is lower result some unpacked =
    let whole = sym (decode_sized-twice digits 6 (omega arith)) ∙ ok_of (decode_sized digits 6) bytes (sym result ∙ some) in
    let parts = decode_of-ok digits bytes whole in
    let twice = parts.2 in
    let six : length bytes ≡ 6 = omega arith in (
      subst PmacFits (sym unpacked) (fits_of bytes parts.3),
      is ∙ ap with_colons (spelt digits bytes lower whole) ∙ sym (mac_digits bytes six parts.3) ∙ ap mac_text (sym (back bytes six parts.3)) ∙ ap address_text (sym unpacked),
    )
