-- The next bit of a row of words that is set: in one word, and in the words behind it.
use Rattle.std.proofs.Common.{◌≡◌, ℕ, ◌+◌, ◌-◌, ◌*◌, ◌/◌, ◌%◌, ◌^◌, ◌<◌, ◌≤◌, ◌==◌, true, false, not, List, slice_index, w64, sym, refl, ap, ◌∙◌, inl, inr, arith}
use Rattle.std.specs.Int.{trailing_zeros}
use Rattle.std.proofs.lemmas.Bool.{cases_lt, not-false, eqb-true}
use Rattle.std.proofs.lemmas.Nat.{shr-shr}
use Rattle.std.proofs.lemmas.Nat.Bits.{bit_at-trailing_zeros}
use Rattle.pl_bits.specs.Bits.{is_set, has_bit}
use Rattle.pl_bits.proofs.Exports.{has_bit_at, has_bit_in, has_bit_of_zero, is_set-zero}
use Rattle.pl_queue_array.specs.Bits.{IsLeast}

-- the number of zeros below the lowest bit is its index
pub lowest_is_least : (word : ℕ) → 0 < word → word < 2 ^ 64 → IsLeast (is_set word) 0 (trailing_zeros w64 word)
lowest_is_least word some small =
    let lowest = bit_at-trailing_zeros w64 word some small in
    record {
      reached = omega arith;
      passes = ap (λ b. b == 1) lowest.1;
      least = λ k low below. ap (λ b. b == 1) (lowest.2 k below);
    }

-- a shift moves the bits down
pub is_set_shifted : (word from k : ℕ) → is_set (word / 2 ^ from) k ≡ is_set word (from + k)
is_set_shifted word from k = ap (λ q. q % 2 == 1) (shr-shr word from k)

pub none_shifted : (word from : ℕ) → word / 2 ^ from ≡ 0 → (k : ℕ) → from ≤ k → is_set word k ≡ false
none_shifted word from none k low =
    let e : k ≡ from + (k - from) = omega arith in
    ap (is_set word) e ∙ sym (is_set_shifted word from (k - from)) ∙ is_set-zero (word / 2 ^ from) (k - from) none

pub least_shifted : (word from b : ℕ) → IsLeast (is_set (word / 2 ^ from)) 0 b → IsLeast (is_set word) from (from + b)
least_shifted word from b h = record {
  reached = omega arith;
  passes = sym (is_set_shifted word from b) ∙ h.passes;
  least = λ k low below.
      let e : k ≡ from + (k - from) = omega arith in
      ap (is_set word) e ∙ sym (is_set_shifted word from (k - from)) ∙ h.least (k - from) (omega arith) (omega arith);
}

-- the next bit in the word where the search begins
pub least_in_first : (words : List ℕ) (from b : ℕ) → IsLeast (is_set (slice_index words (from / 64))) (from % 64) b → b < 64
    → IsLeast (has_bit words) from (from / 64 * 64 + b)
least_in_first words from b h small =
    let low = h.reached in
    record {
      reached = omega arith;
      passes = has_bit_at words (from / 64) b small ∙ h.passes;
      least = λ k after below.
          let e : k / 64 ≡ from / 64 = omega arith in
          has_bit_in words k (from / 64) e ∙ h.least (k % 64) (omega arith) (omega arith);
    }

-- where that word has none, no bit up to its end is set
pub none_in_first : (words : List ℕ) (from : ℕ) → ((b : ℕ) → from % 64 ≤ b → is_set (slice_index words (from / 64)) b ≡ false)
    → (k : ℕ) → from ≤ k → k / 64 < from / 64 + 1 → has_bit words k ≡ false
none_in_first words from h k after before =
    let e : k / 64 ≡ from / 64 = omega arith in
    has_bit_in words k (from / 64) e ∙ h (k % 64) (omega arith)

-- the lowest bit of a later word, where those between have none
pub least_in_later : (words : List ℕ) (from w b : ℕ) → from / 64 < w → ((k : ℕ) → from ≤ k → k / 64 < w → has_bit words k ≡ false)
    → IsLeast (is_set (slice_index words w)) 0 b → b < 64 → IsLeast (has_bit words) from (w * 64 + b)
least_in_later words from w b later none h small = record {
  reached = omega arith;
  passes = has_bit_at words w b small ∙ h.passes;
  least = λ k after below.
      elim (cases_lt (k / 64) w) [
        | inl between ↦ none k after between
        | inr not_between ↦
            let e : k / 64 ≡ w = omega arith in
            has_bit_in words k w e ∙ h.least (k % 64) (omega arith) (omega arith)
      ];
}

-- where bits are set below a number alone, the index of a set bit is below it
pub index_of_bit : (words : List ℕ) (n w b : ℕ) → ((at : ℕ) → has_bit words at ≡ true → at < n) → is_set (slice_index words w) b ≡ true → b < 64
    → w * 64 + b < n
index_of_bit words n w b within set small = within (w * 64 + b) (has_bit_at words w b small ∙ set)

-- words whose bits above are clear have no bit
pub none_between : (words filled : List ℕ) (from w : ℕ) → ((k : ℕ) → from ≤ k → k / 64 < from / 64 + 1 → has_bit words k ≡ false)
    → ((word : ℕ) → has_bit filled word ≡ not (slice_index words word == 0))
    → ((word : ℕ) → from / 64 + 1 ≤ word → word < w → has_bit filled word ≡ false) → (k : ℕ) → from ≤ k → k / 64 < w → has_bit words k ≡ false
none_between words filled from w first summary clear k after before =
    elim (cases_lt (k / 64) (from / 64 + 1)) [
      | inl in_first ↦ first k after in_first
      | inr later ↦
          let none = not-false (slice_index words (k / 64) == 0) (sym (summary (k / 64)) ∙ clear (k / 64) later before) in
          has_bit_of_zero words k (k / 64) refl (eqb-true (slice_index words (k / 64)) 0 none)
    ]
