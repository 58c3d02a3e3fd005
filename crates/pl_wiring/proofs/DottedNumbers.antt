-- Four numbers with points between them are read as std reads an IPv4 address.
use Rattle.std.proofs.Common.{◌≡◌, ℕ, ◌+◌, ◌^◌, ◌<◌, cond, ltb, List, [], ◌∷◌, ◌++◌, length, Option, Some, None, option_and_then, Result, Ok, Err, MatchResult, refl, sym, ap, ◌∙◌, subst, arith, append_assoc}
use Rattle.std.specs.Prelude.{codes, decimal}
use Rattle.std.specs.Int.{from_be_bytes, w32}
use Rattle.std.specs.List.{after_first, before_first}
use Rattle.std.specs.declared.net.ipv4_addr.Ipv4Addr.{Ipv4Addr}
use Rattle.std.specs.Net.Grammar.{IsDotted, IsIpv4Text, Parses}
use Rattle.std.specs.Net.Text.{dotted_text}
use Rattle.std.proofs.lemmas.Bool.{lt-ltb, ltb-true}
use Rattle.std.proofs.lemmas.Fmt.{decimal_nonempty}
use Rattle.std.proofs.lemmas.List.{length-append}
use Rattle.std.proofs.lemmas.Option.{cond_some}
use Rattle.pl_lemmas.proofs.Exports.{and_then_some, option_map_some}
use Rattle.pl_wiring.specs.Texts.{byte_of_text, ip_number, is_point, number_of_text}
use Rattle.pl_wiring.proofs.LabelTexts.{before_point, behind_point, number_of-is, parted_at_point}
use Rattle.pl_wiring.proofs.TextLemmas.{ip_number-read, number_of-decimal}

byte_of-decimal : (n : ℕ) (text : List ℕ) → n < 256 → text ≡ decimal n → byte_of_text text ≡ Some n
byte_of-decimal n text small is =
    rw (number_of-decimal n text (omega arith) (sym is), lt-ltb n 256 small) refl

byte_of-is : (text : List ℕ) (n : ℕ) → byte_of_text text ≡ Some n → (text ≡ decimal n) × (n < 256)
byte_of-is text n is =
    let (m, read, below) = and_then_some (λ n. cond (ltb n 256) (Some n) None) (number_of_text text) n is in
    let (small, same) = cond_some (ltb m 256) m n below in
    let written = number_of-is text m read in
    (written.0 ∙ ap decimal same, (rw same at (ltb-true m 256 small)))

-- four numbers, each behind a point but the first
abbrev four : ℕ → ℕ → ℕ → ℕ → List ℕ
four a b c d = decimal a ++ 46 ∷ (decimal b ++ 46 ∷ (decimal c ++ 46 ∷ decimal d))

dotted_is : (a b c d : ℕ) → dotted_text a b c d ≡ four a b c d
dotted_is a b c d = simp append_assoc

four_read : (a b c d : ℕ) → a < 256 → b < 256 → c < 256 → d < 256 → ip_number (four a b c d) ≡ Some (from_be_bytes w32 (a ∷ b ∷ c ∷ d ∷ []))
four_read a b c d la lb lc ld =
    let after_c = decimal d in
    let after_b = decimal c ++ 46 ∷ after_c in
    let after_a = decimal b ++ 46 ∷ after_b in
    let behind_a = behind_point a after_a (omega arith) in
    let behind_b = ap (after_first is_point) behind_a ∙ behind_point b after_b (omega arith) in
    let behind_c = ap (after_first is_point) behind_b ∙ behind_point c after_c (omega arith) in
    ip_number-read (four a b c d) a b c d
    (byte_of-decimal a _ la (before_point a after_a (omega arith)))
    (byte_of-decimal b _ lb (ap (before_first is_point) behind_a ∙ before_point b after_b (omega arith)))
    (byte_of-decimal c _ lc (ap (before_first is_point) behind_b ∙ before_point c after_c (omega arith)))
    (byte_of-decimal d _ ld behind_c)

joined : (x y p q : List ℕ) → x ≡ p → y ≡ q → x ++ 46 ∷ y ≡ p ++ 46 ∷ q
joined x y p q e f = rw (e, f) refl

longer : (x y : List ℕ) → x ≡ y → 0 < length y → 0 < length x
longer x y e some = subst (λ (t : List ℕ). 0 < length t) (sym e) some

-- what is read is four numbers
pub ip_number-is : (text : List ℕ) (n : ℕ) → ip_number text ≡ Some n → (octets : List ℕ) × IsDotted text octets × (n ≡ from_be_bytes w32 octets)
ip_number-is text n is =
    let rest = after_first is_point text in
    let behind = after_first is_point (after_first is_point text) in
    let (a, read_a, r1) = and_then_some _ (byte_of_text (before_first is_point text)) n is in
    let (b, read_b, r2) = and_then_some _ (byte_of_text (before_first is_point rest)) n r1 in
    let (c, read_c, r3) = and_then_some _ (byte_of_text (before_first is_point behind)) n r2 in
    let (d, read_d, made) = option_map_some _ (byte_of_text (after_first is_point behind)) n r3 in
    let is_a = byte_of-is _ a read_a in
    let is_b = byte_of-is _ b read_b in
    let is_c = byte_of-is _ c read_c in
    let is_d = byte_of-is _ d read_d in
    let some_d : 0 < length (after_first is_point behind) = longer _ _ is_d.0 (decimal_nonempty d (omega (arith, is_d.1))) in
    let third = parted_at_point behind some_d ∙ joined _ _ _ _ is_c.0 is_d.0 in
    let some_c : 0 < length (after_first is_point rest) = longer _ _ third (omega (arith, length-append (decimal c) (46 ∷ decimal d))) in
    let second = parted_at_point rest some_c ∙ joined _ _ _ _ is_b.0 third in
    let some_b : 0 < length (after_first is_point text) = longer _ _ second (omega (arith, length-append (decimal b) (46 ∷ (decimal c ++ 46 ∷ decimal d)))) in
    let first : text ≡ four a b c d = parted_at_point text some_b ∙ joined _ _ _ _ is_a.0 second in (
      a ∷ b ∷ c ∷ d ∷ [],
      record { a = a; b = b; c = c; d = d; fit = (is_a.1, is_b.1, is_c.1, is_d.1); value = refl; spelled = first ∙ sym (dotted_is a b c d) },
      sym made,
    )

pub dotted_read : (text octets : List ℕ) → IsDotted text octets → ip_number text ≡ Some (from_be_bytes w32 octets)
dotted_read text octets is =
    let text_is = is.spelled ∙ dotted_is is.a is.b is.c is.d in
    ap ip_number text_is ∙ four_read is.a is.b is.c is.d is.fit.0 is.fit.1 is.fit.2 is.fit.3 ∙ ap (λ o. Some (from_be_bytes w32 o)) (sym is.value)

-- what std takes for no IPv4 address is none here
pub not_dotted : (text : List ℕ) → ((a : Ipv4Addr) → IsIpv4Text text a → ⊥) → ip_number text ≡ None
not_dotted text none = by_number (ip_number text) refl
  where
    by_number : (o : Option ℕ) → ip_number text ≡ o → ip_number text ≡ None
    by_number None e = e
    by_number (Some n) e = let read = ip_number-is text n e in absurd (none (record { octets = read.0 }) read.1)
