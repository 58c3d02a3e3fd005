-- Ones' complement sums: with the checksum in its place the sum is 0xffff.
use Rattle.std.proofs.Common.{◌≡◌, ℕ, ◌+◌, ◌-◌, ◌*◌, ◌/◌, ◌%◌, ◌≤◌, Bool, true, false, if◌then◌else◌, List, [], ◌∷◌, ◌++◌, refl, ap, ◌∙◌, subst, arith}
use Rattle.std.specs.Prelude.{fold, sum}
use Rattle.std.proofs.lemmas.Grind.{common_steps}
use Rattle.byteorder.specs.Endian.{big_bytes}
use Rattle.pl_layouts.specs.declared.membership.Change.{Change}
use Rattle.pl_layouts.specs.Checksum.{words, ones_plus, ones_sum, checksum_of}
use Rattle.pl_layouts.specs.Reports.{header_with, header_of, message_with, message_of_change}

-- s is n by ones' complement: it differs by a multiple of 65535, and is 0 for 0 alone
pub record Stands (s n : ℕ) : Type 0 where
  pub small : s ≤ 65535
  pub turns : ℕ
  pub is : n ≡ s + 65535 * turns
  pub zero : s ≡ 0 → n ≡ 0

abbrev AreWords : List ℕ → Type 0
AreWords [] = Unit {0}
AreWords (w ∷ ws) = (w ≤ 65535) × AreWords ws

AreWords-append : (xs ys : List ℕ) → AreWords xs → AreWords ys → AreWords (xs ++ ys)
AreWords-append [] ys first last = last
AreWords-append (x ∷ xs) ys first last = (first.0, AreWords-append xs ys first.1 last)

carried : (s w : ℕ) → s ≤ 65535 → w ≤ 65535 → (s + w) / 65536 ≤ 1
carried s w small word = omega arith

plus-stands : (s n w : ℕ) → Stands s n → w ≤ 65535 → Stands (ones_plus s w) (n + w)
unfolding ones_plus
plus-stands s n w stands word =
    let small = stands.small in
    let is = stands.is in
    let nothing = stands.zero in
    record {
      small = omega arith;
      turns = stands.turns + (s + w) / 65536;
      is = omega arith;
      zero = λ h.
          let s_zero : s ≡ 0 = omega arith in
          let w_zero : w ≡ 0 = omega arith in
          let n_zero = nothing s_zero in
          omega arith;
    }

pub fold-stands : (ws : List ℕ) (s n : ℕ) → Stands s n → AreWords ws → Stands (fold ones_plus s ws) (n + sum ws)
fold-stands [] s n stands words = subst (λ m. Stands s m) (omega arith) stands
fold-stands (w ∷ ws) s n stands words =
    let more : n + w + sum ws ≡ n + sum (w ∷ ws) = grind (arith, common_steps) in
    subst (λ m. Stands (fold ones_plus s (w ∷ ws)) m) more
    (fold-stands ws (ones_plus s w) (n + w) (plus-stands s n w stands words.0) words.1)

-- words around a checksum that is the complement of the sum with 0 in its place
pub sum_with_checksum : (xs ys : List ℕ) (c : ℕ) → AreWords xs → AreWords ys → c ≡ 65535 - fold ones_plus 0 (xs ++ 0 ∷ ys) →
    fold ones_plus 0 (xs ++ c ∷ ys) ≡ 65535
sum_with_checksum xs ys c first last is =
    let start : Stands 0 0 = record { small = omega arith; turns = 0; is = omega arith; zero = λ h. h } in
    let before = fold-stands (xs ++ 0 ∷ ys) 0 0 start (AreWords-append xs (0 ∷ ys) first (omega arith, last)) in
    let small : c ≤ 65535 = omega arith in
    let after = fold-stands (xs ++ c ∷ ys) 0 0 start (AreWords-append xs (c ∷ ys) first (small, last)) in
    let total : sum (xs ++ 0 ∷ ys) ≡ sum xs + sum ys = grind (arith, common_steps) in
    let total' : sum (xs ++ c ∷ ys) ≡ sum xs + (c + sum ys) = grind (arith, common_steps) in
    let low = before.small in
    let low' = after.small in
    let e = before.is in
    let e' = after.is in
    let some = after.zero in
    grind arith

-- a number of 16 bits as a word
as_word : (c : ℕ) → c ≤ 65535 → c / 256 % 256 * 256 + c % 256 ≡ c
as_word c small = omega arith

-- the words of a header before its checksum, and after it
abbrev header_front : List ℕ
header_front = 17920 ∷ 32 ∷ 0 ∷ 0 ∷ 258 ∷ []

abbrev header_back : ℕ → ℕ → List ℕ
header_back src dst = words (big_bytes 4 src ++ (big_bytes 4 dst ++ (0x94 ∷ 4 ∷ 0 ∷ 0 ∷ [])))

-- with its checksum the sum of the header is 0xffff
pub ones_sum-header_of : (src dst : ℕ) → ones_sum (header_of src dst) ≡ 65535
unfolding header_of
ones_sum-header_of src dst =
    let c : ℕ = checksum_of (header_with src dst 0) in
    let small : c ≤ 65535 = omega arith in
    let front : AreWords header_front = (omega arith, (omega arith, (omega arith, (omega arith, (omega arith, tt))))) in
    let back : AreWords (header_back src dst) = (omega arith, (omega arith, (omega arith, (omega arith, (omega arith, (omega arith, tt)))))) in
    ap (λ w. fold ones_plus 0 (header_front ++ w ∷ header_back src dst)) (as_word c small)
    ∙ sum_with_checksum header_front (header_back src dst) c front back refl

is_word : (join : Bool) → (if join then 0x16 else 0x17) * 256 + 0 ≤ 65535
is_word true = omega arith
is_word false = omega arith

-- and so is that of the message
pub ones_sum-message_of_change : (change : Change) → ones_sum (message_of_change change) ≡ 65535
unfolding message_of_change
ones_sum-message_of_change change =
    let c : ℕ = checksum_of (message_with change.join change.group.0 0) in
    let small : c ≤ 65535 = omega arith in
    let kind : ℕ = (if change.join then 0x16 else 0x17) * 256 + 0 in
    let back : AreWords (words (big_bytes 4 change.group.0)) = (omega arith, (omega arith, tt)) in
    ap (λ w. fold ones_plus 0 (kind ∷ (w ∷ words (big_bytes 4 change.group.0)))) (as_word c small)
    ∙ sum_with_checksum (kind ∷ []) (words (big_bytes 4 change.group.0)) c (is_word change.join, tt) back refl
