-- A row of values as the first bits of words: one value changes, rows are put together, values are counted.
use Rattle.std.proofs.Common.{◌≡◌, ℕ, zero, suc, ◌+◌, ◌*◌, ◌/◌, ◌%◌, ◌^◌, ◌<◌, ◌≤◌, ◌≢◌, ◌==◌, ◌||◌, Bool, true, false, cond, List, [], map, length, min, max, replicate, slice_index, slice_index_or, slice_set, get_or, bit_or, count_ones, refl, sym, ap, ◌∙◌, inl, inr, arith}
use Rattle.std.specs.Int.{bit_at}
use Rattle.std.specs.Int.Count.{ones}
use Rattle.std.specs.List.{range_with_len, zip}
use Rattle.std.proofs.lemmas.Bool.{cases_eq}
use Rattle.std.proofs.lemmas.List.{get_or-map, get_or-replicate, get_or-set_same, get_or-set_other, length-map, length-replicate, length-set, same_lists}
use Rattle.std.proofs.lemmas.List.FromFn.{length-map-range_with_len, get_or-map-range_with_len, sum_by-map-range_with_len_more}
use Rattle.std.proofs.lemmas.List.Sums.{count_by-le-length}
use Rattle.std.proofs.Math.Nat.{min-le_left, min-le_right, mod-eq_of_lt, mod-lt, mod-one}
use Rattle.std.proofs.lemmas.Nat.{mod-pow-add, ones_cat, pow_pos}
use Rattle.std.proofs.lemmas.Nat.Bits.{bit_at-lt, bit_at_or}
use Rattle.std.proofs.lemmas.Slice.Zip.{get_or-zip, length-zip}
use Rattle.pl_bits.specs.Bits.{HasWords, bits_of, has_bit, is_set}
use Rattle.pl_bits.specs.Rows.{either_row, trues}
use Rattle.pl_bits.proofs.WordBits.{bit_set, bit_cleared, set_here, set_elsewhere, cleared_here, cleared_elsewhere, no_bit_of_zeros, has_bit_at}

-- there is a value for each of n bits
pub length-bits_of : (words : List ℕ) (n : ℕ) → length (bits_of words n) ≡ n
unfolding bits_of
length-bits_of words n = length-map-range_with_len (has_bit words) 0 n

-- a value is its bit
pub bit_is : (words : List ℕ) (n at : ℕ) (d : Bool) → at < n → slice_index_or (bits_of words n) at d ≡ has_bit words at
unfolding bits_of
bit_is words n at d h = get_or-map-range_with_len (has_bit words) 0 n at at d h (omega arith)

-- the number of a value is below n
pub index_below : (words : List ℕ) (n at : ℕ) (row : List Bool) → bits_of words n ≡ row → at < length row → at < n
index_below words n at row e h = omega (arith, ap length e, length-bits_of words n)

-- no bits are no values
pub no_bits : (words : List ℕ) (n : ℕ) → n ≡ 0 → bits_of words n ≡ []
unfolding bits_of
no_bits words n none = ap (λ m. map (has_bit words) (range_with_len 0 m)) none

-- rows of equal length and equal bits are the same
pub same_bits : (words : List ℕ) (n : ℕ) (row : List Bool) → length row ≡ n → ((at : ℕ) (d : Bool) → at < n → has_bit words at ≡ get_or row at d)
    → bits_of words n ≡ row
same_bits words n row len h =
    same_lists (bits_of words n) row (length-bits_of words n ∙ sym len)
    (λ at d within. let below : at < n = omega (arith, length-bits_of words n) in bit_is words n at d below ∙ h at d below)

-- words that are all 0
pub bits_of-zeros : (count n : ℕ) → bits_of (replicate count 0) n ≡ replicate n false
bits_of-zeros count n =
    same_bits (replicate count 0) n (replicate n false) (length-replicate n false)
    (λ at d within. no_bit_of_zeros count at ∙ sym (get_or-replicate n at false d within))

-- words that differ in one bit give rows that differ in one value
bits_changed : (old new : List ℕ) (n at : ℕ) (b : Bool) → at < n → has_bit new at ≡ b → ((k : ℕ) → k ≢ at → has_bit new k ≡ has_bit old k)
    → bits_of new n ≡ slice_set (bits_of old n) at b
bits_changed old new n at b inside here others =
    same_bits new n (slice_set (bits_of old n) at b) (length-set (bits_of old n) at b ∙ length-bits_of old n)
    (λ k d within.
    elim (cases_eq k at) [
      | inl same ↦
          ap (has_bit new) same ∙ here
          ∙ sym (get_or-set_same (bits_of old n) at b d (omega (arith, length-bits_of old n)))
          ∙ ap (λ q. slice_index_or (slice_set (bits_of old n) at b) q d) (sym same)
      | inr other ↦ others k other ∙ sym (bit_is old n k d within) ∙ sym (get_or-set_other (bits_of old n) at k b d other)
    ])

module _ (words : List ℕ) (n at : ℕ) (room : at / 64 < length words) (inside : at < n) where
  pub bits_of-bit_set : bits_of (bit_set words at) n ≡ slice_set (bits_of words n) at true
  bits_of-bit_set = bits_changed words (bit_set words at) n at true inside (set_here words at room) (set_elsewhere words at room)

  pub bits_of-bit_cleared : bits_of (bit_cleared words at) n ≡ slice_set (bits_of words n) at false
  bits_of-bit_cleared = bits_changed words (bit_cleared words at) n at false inside (cleared_here words at room) (cleared_elsewhere words at room)

-- ---- rows are put together
either_bit : (a b : ℕ) → a < 2 → b < 2 → (max a b == 1) ≡ ((a == 1) || (b == 1))
either_bit zero zero p q = refl
either_bit zero (suc zero) p q = refl
either_bit (suc zero) zero p q = refl
either_bit (suc zero) (suc zero) p q = refl
either_bit zero (suc (suc b)) p q = absurd (omega arith)
either_bit (suc zero) (suc (suc b)) p q = absurd (omega arith)
either_bit (suc (suc a)) b p q = absurd (omega arith)

is_set-or : (a b k : ℕ) → is_set (bit_or a b) k ≡ (is_set a k || is_set b k)
is_set-or a b k = ap (λ c. c == 1) (bit_at_or a b k) ∙ either_bit (bit_at a k) (bit_at b k) (bit_at-lt a k) (bit_at-lt b k)

pub bits_added : (old more new : List ℕ) (n m l : ℕ) → HasWords n old → l ≡ min n m
    → ((i : ℕ) → i < length old → slice_index new i ≡ bit_or (slice_index old i) (slice_index more i))
    → bits_of new l ≡ either_row (bits_of old n) (bits_of more m)
bits_added old more new n m l room least h =
    let len = length-zip (bits_of old n) (bits_of more m) ∙ (λ i. min (length-bits_of old n i) (length-bits_of more m i)) ∙ sym least in
    same_bits new l (either_row (bits_of old n) (bits_of more m))
    (length-map (zip (bits_of old n) (bits_of more m)) (λ (p : Bool × Bool). p.0 || p.1) ∙ len)
    (λ at d within.
    let left = min-le_left n m in
    let right = min-le_right n m in
    let low : at < n = omega arith in
    let also : at < m = omega arith in
    let in_old : at < length (bits_of old n) = omega (arith, length-bits_of old n) in
    let in_more : at < length (bits_of more m) = omega (arith, length-bits_of more m) in
    let pair : Bool × Bool = (d, d) in
    ap (λ w. is_set w (at % 64)) (h (at / 64) (omega arith))
    ∙ is_set-or (slice_index old (at / 64)) (slice_index more (at / 64)) (at % 64)
    ∙ (λ i. sym (bit_is old n at d low) i || sym (bit_is more m at d also) i)
    ∙ ap (λ (p : Bool × Bool). p.0 || p.1) (sym (get_or-zip (bits_of old n) (bits_of more m) at pair in_old in_more))
    ∙ sym (get_or-map (λ (p : Bool × Bool). p.0 || p.1) (zip (bits_of old n) (bits_of more m)) at pair d (omega (arith, len))))

-- ---- values are counted
pub none_true : (words : List ℕ) → trues (bits_of words 0) ≡ 0
none_true words = ap trues (no_bits words 0 refl)

trues_next : (words : List ℕ) (n : ℕ) → trues (bits_of words (n + 1)) ≡ trues (bits_of words n) + cond (has_bit words n) 1 0
unfolding bits_of
trues_next words n = sum_by-map-range_with_len_more (λ value. cond value 1 0) (has_bit words) 0 n n (omega arith)

ones_of_bit : (b : ℕ) → b < 2 → count_ones b ≡ cond (b == 1) 1 0
unfolding ones
ones_of_bit zero small = refl
ones_of_bit (suc zero) small = refl
ones_of_bit (suc (suc b)) small = absurd (omega arith)

-- one of the lowest bits of a word more
ones_next : (word k : ℕ) → count_ones (word % 2 ^ (k + 1)) ≡ count_ones (word % 2 ^ k) + cond (is_set word k) 1 0
ones_next word k =
    let e : k + 1 ≡ 1 + k = omega arith in
    let bit = ones_of_bit (bit_at word k) (bit_at-lt word k) in
    let both = ones_cat k (bit_at word k) (word % 2 ^ k) (mod-lt word (pow_pos k)) in
    ap (λ j. count_ones (word % 2 ^ j)) e ∙ ap count_ones (mod-pow-add word 1 k) ∙ both ∙ omega (arith, bit)

-- the values of one word, or of its lowest bits, behind those of the words before it
pub trues_of_word : (words : List ℕ) (w m : ℕ) → m ≤ 64
    → trues (bits_of words (w * 64 + m)) ≡ trues (bits_of words (w * 64)) + count_ones (slice_index words w % 2 ^ m)
trues_of_word words w zero few =
    let e : w * 64 + 0 ≡ w * 64 = omega arith in
    let none = ap count_ones (mod-one (slice_index words w)) ∙ ones_of_bit 0 (omega arith) in
    ap (λ n. trues (bits_of words n)) e ∙ omega (arith, none)
trues_of_word words w (suc m) few =
    let e : w * 64 + suc m ≡ w * 64 + m + 1 = omega arith in
    let next : suc m ≡ m + 1 = omega arith in
    let rest = trues_of_word words w m (omega arith) in
    let bit = ap {B = ℕ} (λ b. cond b 1 0) (has_bit_at words w m (omega arith)) in
    let more = ap (λ j. count_ones (slice_index words w % 2 ^ j)) next ∙ ones_next (slice_index words w) m in
    ap (λ n. trues (bits_of words n)) e ∙ trues_next words (w * 64 + m) ∙ omega (arith, rest, bit, more)

-- of a word of 64 bits
pub trues_of_whole : (words : List ℕ) (w : ℕ) → slice_index words w < 2 ^ 64
    → trues (bits_of words ((w + 1) * 64)) ≡ trues (bits_of words (w * 64)) + count_ones (slice_index words w)
trues_of_whole words w small =
    let e : (w + 1) * 64 ≡ w * 64 + 64 = omega arith in
    ap (λ n. trues (bits_of words n)) e ∙ trues_of_word words w 64 (omega arith)
    ∙ ap (λ word. trues (bits_of words (w * 64)) + count_ones word) (mod-eq_of_lt small)

-- of the last word, as far as the row goes
pub trues_of_last : (words : List ℕ) (n low : ℕ) → low ≡ slice_index words (n / 64) % 2 ^ (n % 64)
    → trues (bits_of words n) ≡ trues (bits_of words (n / 64 * 64)) + count_ones low
trues_of_last words n low is =
    let e : n ≡ n / 64 * 64 + n % 64 = omega arith in
    ap (λ m. trues (bits_of words m)) e ∙ trues_of_word words (n / 64) (n % 64) (omega arith)
    ∙ ap (λ word. trues (bits_of words (n / 64 * 64)) + count_ones word) (sym is)

pub few_true : (words : List ℕ) (n : ℕ) → trues (bits_of words n) ≤ n
few_true words n = omega (arith, count_by-le-length (λ value. value) (bits_of words n), length-bits_of words n)
