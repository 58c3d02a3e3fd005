-- The marks of a set of indices, and what the two levels of words keep.
use Rattle.std.proofs.Common.{◌≡◌, ℕ, ◌-◌, ◌*◌, ◌/◌, ◌%◌, ◌<◌, ◌≤◌, ◌≢◌, ◌==◌, Bool, true, false, not, List, Option, None, length, replicate, slice_index, sym, ap, subst, ◌∙◌, inl, inr, arith}
use Rattle.std.specs.List.{find, range_with_len}
use Rattle.std.proofs.lemmas.Bool.{cases_lt, cases_eq, cases_Bool, true≢false, eq-eqb, ne_eqb}
use Rattle.std.proofs.lemmas.List.{get_or_past, get_or-set_same, get_or-set_other, length-replicate, length-set}
use Rattle.std.proofs.lemmas.Nat.{and_le_l}
use Rattle.pl_bits.specs.Bits.{has_bit, with_bit, without_bit, bits_of}
use Rattle.pl_bits.proofs.Exports.{bit_cleared, bit_is, bit_set, cleared_elsewhere, cleared_here, is_set-zero, length-bits_of, no_bit_of_zeros, set_elsewhere, set_here, zeros_at}
use Rattle.pl_queues.specs.Queues.{next_index}
use Rattle.pl_queue_array.specs.Bits.{is_marked, next_marked, IsNextIndex, IsTwoLevel}
use Rattle.pl_queue_array.proofs.Indices.{find_same, next_index_is}

-- the mark of an index is its bit, where no bit from n on is set
pub is_marked-bits_of : (words : List ℕ) (n : ℕ) → ((at : ℕ) → has_bit words at ≡ true → at < n) → (at : ℕ)
    → is_marked (bits_of words n) at ≡ has_bit words at
is_marked-bits_of words n within at =
    elim (cases_lt at n) [
      | inl inside ↦ bit_is words n at false inside
      | inr past ↦
          get_or_past (bits_of words n) at false (omega (arith, length-bits_of words n))
          ∙ sym (elim (cases_Bool (has_bit words at)) [
            | inl set ↦ absurd (omega (arith, within at set))
            | inr clear ↦ clear
          ])
    ]

-- the next bit is the next mark
pub next_bit_is_next_mark : (words : List ℕ) (n from : ℕ) (answer : Option ℕ) → ((at : ℕ) → has_bit words at ≡ true → at < n)
    → IsNextIndex (has_bit words) from answer → answer ≡ next_marked (bits_of words n) from
next_bit_is_next_mark words n from answer within h =
    next_index_is (has_bit words) n from answer h within
    ∙ find_same (has_bit words) (is_marked (bits_of words n)) (λ at. sym (is_marked-bits_of words n within at)) (range_with_len from (n - from))
    ∙ ap (λ m. next_index (is_marked (bits_of words n)) m from) (sym (length-bits_of words n))

-- past the last mark there is none
pub no_next_mark : (marks : List Bool) (from : ℕ) → length marks ≤ from → None ≡ next_marked marks from
no_next_mark marks from past =
    let none : length marks - from ≡ 0 = omega arith in
    sym (ap (λ n. find (is_marked marks) (range_with_len from n)) none)

module _ (words : List ℕ) (at : ℕ) (room : at / 64 < length words) where
  -- a word with a bit set is not 0
  word_of_set : (slice_index (bit_set words at) (at / 64) == 0) ≡ false
  word_of_set =
      ne_eqb (slice_index (bit_set words at) (at / 64)) 0
      (λ none. true≢false (sym (set_here words at room) ∙ is_set-zero (slice_index (bit_set words at) (at / 64)) (at % 64) none))

  -- where a bit is cleared in a word that is 0, it stays so
  word_of_cleared : slice_index words (at / 64) ≡ 0 → slice_index (bit_cleared words at) (at / 64) ≡ 0
  word_of_cleared none =
      get_or-set_same words (at / 64) (without_bit (slice_index words (at / 64)) (at % 64)) 0 room
      ∙ (let low : without_bit (slice_index words (at / 64)) (at % 64) ≤ slice_index words (at / 64) = and_le_l _ _ in
      let zero_of : without_bit (slice_index words (at / 64)) (at % 64) ≡ 0 = omega arith in zero_of)

  -- the other words stay
  other_word_of_set : (w : ℕ) → w ≢ at / 64 → slice_index (bit_set words at) w ≡ slice_index words w
  other_word_of_set w other = get_or-set_other words (at / 64) w (with_bit (slice_index words (at / 64)) (at % 64)) 0 other

  other_word_of_cleared : (w : ℕ) → w ≢ at / 64 → slice_index (bit_cleared words at) w ≡ slice_index words w
  other_word_of_cleared w other = get_or-set_other words (at / 64) w (without_bit (slice_index words (at / 64)) (at % 64)) 0 other

module _ (n : ℕ) (words filled : List ℕ) (at : ℕ) (levels : IsTwoLevel n words filled) (inside : at < n) where
  -- the words have a bit for an index, and those above one for its word
  pub room_for : at < 64 * length words
  room_for = omega (arith, levels.room)

  pub room_above_for : at / 64 < 64 * length filled
  room_above_for = omega (arith, levels.room, levels.room_above)

  pub word_there : at / 64 < length words
  word_there = omega (arith, room_for)

  word_above_there : at / 64 / 64 < length filled
  word_above_there = omega (arith, room_above_for)

  within_set : (k : ℕ) → has_bit (bit_set words at) k ≡ true → k < n
  within_set k set =
      elim (cases_eq k at) [
        | inl same ↦ omega arith
        | inr other ↦ levels.within k (sym (set_elsewhere words at word_there k other) ∙ set)
      ]

  within_cleared : (k : ℕ) → has_bit (bit_cleared words at) k ≡ true → k < n
  within_cleared k set =
      elim (cases_eq k at) [
        | inl same ↦ omega arith
        | inr other ↦ levels.within k (sym (cleared_elsewhere words at word_there k other) ∙ set)
      ]

  -- an index comes in: its bit and that of its word are set
  pub IsTwoLevel-set : IsTwoLevel n (bit_set words at) (bit_set filled (at / 64))
  IsTwoLevel-set = record {
    room = omega (arith, levels.room, length-set words (at / 64) (with_bit (slice_index words (at / 64)) (at % 64)));
    room_above = omega (
      arith,
      levels.room_above,
      length-set words (at / 64) (with_bit (slice_index words (at / 64)) (at % 64)),
      length-set filled (at / 64 / 64) (with_bit (slice_index filled (at / 64 / 64)) (at / 64 % 64)),
    );
    within = within_set;
    summary = λ w. elim (cases_eq w (at / 64)) [
      | inl same ↦
          subst (λ q. has_bit (bit_set filled (at / 64)) q ≡ not (slice_index (bit_set words at) q == 0)) (sym same)
          (set_here filled (at / 64) word_above_there ∙ sym (ap not (word_of_set words at word_there)))
      | inr other ↦
          set_elsewhere filled (at / 64) word_above_there w other ∙ levels.summary w
          ∙ ap (λ word. not (word == 0)) (sym (other_word_of_set words at word_there w other))
    ];
  }

  -- an index goes, and its word is 0 without it: both bits are cleared
  pub IsTwoLevel-cleared_both : slice_index (bit_cleared words at) (at / 64) ≡ 0 → IsTwoLevel n (bit_cleared words at) (bit_cleared filled (at / 64))
  IsTwoLevel-cleared_both none = record {
    room = omega (arith, levels.room, length-set words (at / 64) (without_bit (slice_index words (at / 64)) (at % 64)));
    room_above = omega (
      arith,
      levels.room_above,
      length-set words (at / 64) (without_bit (slice_index words (at / 64)) (at % 64)),
      length-set filled (at / 64 / 64) (without_bit (slice_index filled (at / 64 / 64)) (at / 64 % 64)),
    );
    within = within_cleared;
    summary = λ w. elim (cases_eq w (at / 64)) [
      | inl same ↦
          subst (λ q. has_bit (bit_cleared filled (at / 64)) q ≡ not (slice_index (bit_cleared words at) q == 0)) (sym same)
          (cleared_here filled (at / 64) word_above_there ∙ sym (ap not (eq-eqb _ _ none)))
      | inr other ↦
          cleared_elsewhere filled (at / 64) word_above_there w other ∙ levels.summary w
          ∙ ap (λ word. not (word == 0)) (sym (other_word_of_cleared words at word_there w other))
    ];
  }

  -- an index goes, and its word has others: the bit above stays
  pub IsTwoLevel-cleared : slice_index (bit_cleared words at) (at / 64) ≢ 0 → IsTwoLevel n (bit_cleared words at) filled
  IsTwoLevel-cleared some = record {
    room = omega (arith, levels.room, length-set words (at / 64) (without_bit (slice_index words (at / 64)) (at % 64)));
    room_above = omega (arith, levels.room_above, length-set words (at / 64) (without_bit (slice_index words (at / 64)) (at % 64)));
    within = within_cleared;
    summary = λ w. elim (cases_eq w (at / 64)) [
      | inl same ↦
          subst (λ q. has_bit filled q ≡ not (slice_index (bit_cleared words at) q == 0)) (sym same)
          (levels.summary (at / 64)
          ∙ ap not (ne_eqb _ 0 (λ none. some (word_of_cleared words at word_there none)))
          ∙ sym (ap not (ne_eqb _ 0 some)))
      | inr other ↦ levels.summary w ∙ ap (λ word. not (word == 0)) (sym (other_word_of_cleared words at word_there w other))
    ];
  }

-- a new set has no index
pub IsTwoLevel-zeros : (n count above : ℕ) → n ≤ 64 * count → count ≤ 64 * above → IsTwoLevel n (replicate count 0) (replicate above 0)
IsTwoLevel-zeros n count above room room_above = record {
  room = omega (arith, length-replicate {A = ℕ} count 0);
  room_above = omega (arith, length-replicate {A = ℕ} count 0, length-replicate {A = ℕ} above 0);
  within = λ at set. absurd (true≢false (sym set ∙ no_bit_of_zeros count at));
  summary = λ w. no_bit_of_zeros above w ∙ sym (ap not (eq-eqb _ _ (zeros_at count w)));
}
