-- The bits of a row, word by word.
use Rattle.std.proofs.Common.{◌≡◌, ℕ, zero, suc, ◌+◌, ◌-◌, ◌*◌, ◌<◌, ◌≤◌, ◌&&◌, ◌||◌, true, false, List, ◌∷◌, ◌++◌, min, refl, sym, ap, ◌∙◌, arith}
use Rattle.std.specs.Prelude.{slice_index}
use Rattle.std.specs.List.{list_any, range_with_len}
use Rattle.std.specs.Ordering.{is_eq}
use Rattle.std.proofs.lemmas.Bool.{false≢true, or_left, or_right}
use Rattle.std.proofs.lemmas.List.Folds.{list_any-append}
use Rattle.pl_lemmas.proofs.Exports.{or_false}
use Rattle.pl_bits.specs.Bits.{has_bit}
use Rattle.pl_bits.proofs.Exports.{has_bit_of_zero}
use Rattle.pl_node.specs.AvoidLists.{avoided_cmp}
use Rattle.pl_node.specs.AvoidRows.{AreListed, Gains, entry_of, stands_for}
use Rattle.pl_node.specs.declared.avoid_row.AvoidRow.{AvoidRow}
use Rattle.pl_node.proofs.AvoidRows.{Avoided, gains_more, gains_none, gains_same, within_more}

range_split : (m n a : ℕ) → range_with_len a (m + n) ≡ range_with_len a m ++ range_with_len (a + m) n
range_split zero n a =
    let none : 0 + n ≡ n = omega arith in
    let same : a ≡ a + 0 = omega arith in
    ap (range_with_len a) none ∙ ap (λ b. range_with_len b n) same
range_split (suc m) n a =
    let next : suc m + n ≡ suc (m + n) = omega arith in
    let on : a + 1 + m ≡ a + suc m = omega arith in
    ap (range_with_len a) next
    ∙ ap (λ ns. a ∷ ns) (range_split m n (a + 1) ∙ ap (λ b. range_with_len (a + 1) m ++ range_with_len b n) on)

any_bits_more : (row : AvoidRow) (x : Avoided) (a from n : ℕ) → a ≤ from →
    list_any (stands_for row x) (range_with_len a (from - a + n))
    ≡ (list_any (stands_for row x) (range_with_len a (from - a)) || list_any (stands_for row x) (range_with_len from n))
any_bits_more row x a from n low =
    let there : a + (from - a) ≡ from = omega (arith, low) in
    ap (list_any (stands_for row x)) (range_split (from - a) n a ∙ ap (λ b. range_with_len a (from - a) ++ range_with_len b n) there)
    ∙ list_any-append (stands_for row x) (range_with_len a (from - a)) (range_with_len from n)

-- a range of bits is gained, and then the one behind it
pub gains_range : (start old new other : List Avoided) (row : AvoidRow) (a from end : ℕ) → a ≤ from → from ≤ end →
    Gains start old other (λ x. list_any (stands_for row x) (range_with_len a (from - a))) →
    Gains old new other (λ x. list_any (stands_for row x) (range_with_len from (end - from))) →
    Gains start new other (λ x. list_any (stands_for row x) (range_with_len a (end - a)))
gains_range start old new other row a from end low high p q =
    gains_more start old new other (λ x. list_any (stands_for row x) (range_with_len a (from - a)))
    (λ x. list_any (stands_for row x) (range_with_len from (end - from))) (λ x. list_any (stands_for row x) (range_with_len a (end - a))) p q (λ x.
    let whole : end - a ≡ from - a + (end - from) = omega (arith, low, high) in
    ap (λ n. list_any (stands_for row x) (range_with_len a n)) whole ∙ any_bits_more row x a from (end - from) low)

no_bits : (row : AvoidRow) (x : Avoided) (n from : ℕ) → ((m : ℕ) → from ≤ m → m < from + n → has_bit row.words m ≡ false) →
    list_any (stands_for row x) (range_with_len from n) ≡ false
no_bits row x zero from none = refl
no_bits row x (suc n) from none =
    ap (λ b. (b && is_eq (avoided_cmp x (entry_of row.neighbour from))) || list_any (stands_for row x) (range_with_len (from + 1) n))
    (none from (omega arith) (omega arith))
    ∙ no_bits row x n (from + 1) (λ m low high. none m (omega (arith, low)) (omega (arith, high)))

-- a word of no bits gives nothing
pub gains_no_word : (l other : List Avoided) (row : AvoidRow) (word : ℕ) → slice_index row.words word ≡ 0 →
    Gains l l other (λ x. list_any (stands_for row x) (range_with_len (word * 64) (min (word * 64 + 64) 288 - word * 64)))
gains_no_word l other row word none =
    gains_same l l other (λ x. false) (λ x. list_any (stands_for row x) (range_with_len (word * 64) (min (word * 64 + 64) 288 - word * 64))) (gains_none l other)
    (λ x. no_bits row x (min (word * 64 + 64) 288 - word * 64) (word * 64)
    (λ m low high. has_bit_of_zero row.words m word (omega (arith, low, high)) none))

-- nothing is gained of no bits
pub gains_no_range : (l other : List Avoided) (row : AvoidRow) (from n : ℕ) → n ≡ 0 →
    Gains l l other (λ x. list_any (stands_for row x) (range_with_len from n))
gains_no_range l other row from n none =
    gains_same l l other (λ x. false) (λ x. list_any (stands_for row x) (range_with_len from n)) (gains_none l other)
    (λ x. ap (λ k. list_any (stands_for row x) (range_with_len from k)) none)

-- one bit more
pub gains_one_more : (start old new other : List Avoided) (row : AvoidRow) (from n : ℕ) → from ≤ n →
    Gains start old other (λ x. list_any (stands_for row x) (range_with_len from (n - from))) → Gains old new other (λ x. stands_for row x n) →
    Gains start new other (λ x. list_any (stands_for row x) (range_with_len from (n + 1 - from)))
gains_one_more start old new other row from n low p q =
    let one : n + 1 - n ≡ 1 = omega arith in
    gains_range start old new other row from n (n + 1) low (omega arith) p
    (gains_same old new other (λ x. stands_for row x n) (λ x. list_any (stands_for row x) (range_with_len n (n + 1 - n))) q
    (λ x. ap (λ k. list_any (stands_for row x) (range_with_len n k)) one ∙ sym (or_false (stands_for row x n))))

-- ---- the same of what is listed elsewhere
pub within_none : (row : AvoidRow) (other : List Avoided) (from n : ℕ) → n ≡ 0 → AreListed (λ x. list_any (stands_for row x) (range_with_len from n)) other
within_none row other from n none x h = absurd (false≢true (sym (ap (λ k. list_any (stands_for row x) (range_with_len from k)) none) ∙ h))

pub within_range : (row : AvoidRow) (other : List Avoided) (a from end : ℕ) → a ≤ from → from ≤ end →
    AreListed (λ x. list_any (stands_for row x) (range_with_len a (from - a))) other →
    AreListed (λ x. list_any (stands_for row x) (range_with_len from (end - from))) other →
    AreListed (λ x. list_any (stands_for row x) (range_with_len a (end - a))) other
within_range row other a from end low high p q =
    within_more (λ x. list_any (stands_for row x) (range_with_len a (from - a))) (λ x. list_any (stands_for row x) (range_with_len from (end - from)))
    (λ x. list_any (stands_for row x) (range_with_len a (end - a))) other p q (λ x.
    let whole : end - a ≡ from - a + (end - from) = omega (arith, low, high) in
    ap (λ n. list_any (stands_for row x) (range_with_len a n)) whole ∙ any_bits_more row x a from (end - from) low)

pub within_one_more : (row : AvoidRow) (other : List Avoided) (from n : ℕ) → from ≤ n →
    AreListed (λ x. list_any (stands_for row x) (range_with_len from (n - from))) other → AreListed (λ x. stands_for row x n) other →
    AreListed (λ x. list_any (stands_for row x) (range_with_len from (n + 1 - from))) other
within_one_more row other from n low p q =
    let one : n + 1 - n ≡ 1 = omega arith in
    within_range row other from n (n + 1) low (omega arith) p (λ x h.
    q x (or_false (stands_for row x n) ∙ sym (ap (λ k. list_any (stands_for row x) (range_with_len n k)) one) ∙ h))

pub within_no_word : (other : List Avoided) (row : AvoidRow) (word : ℕ) → slice_index row.words word ≡ 0 →
    AreListed (λ x. list_any (stands_for row x) (range_with_len (word * 64) (min (word * 64 + 64) 288 - word * 64))) other
within_no_word other row word none x h =
    absurd (false≢true (sym (no_bits row x (min (word * 64 + 64) 288 - word * 64) (word * 64)
    (λ m low high. has_bit_of_zero row.words m word (omega (arith, low, high)) none)) ∙ h))

-- a bit of a range is one of all
pub range_of_all : (row : AvoidRow) (x : Avoided) (from end : ℕ) → from ≤ end → end ≤ 288 →
    list_any (stands_for row x) (range_with_len from (end - from)) ≡ true → list_any (stands_for row x) (range_with_len 0 288) ≡ true
range_of_all row x from end order within h =
    let front : 0 + from ≡ from = omega arith in
    let whole : from - 0 + (288 - from) ≡ 288 = omega (arith, order, within) in
    let rest : end - from + (288 - end) ≡ 288 - from = omega (arith, order, within) in
    sym (ap (λ n. list_any (stands_for row x) (range_with_len 0 n)) whole)
    ∙ any_bits_more row x 0 from (288 - from) (omega arith)
    ∙ or_right (list_any (stands_for row x) (range_with_len 0 (from - 0))) (list_any (stands_for row x) (range_with_len from (288 - from)))
    (sym (ap (λ n. list_any (stands_for row x) (range_with_len from n)) rest)
    ∙ ap (list_any (stands_for row x)) (range_split (end - from) (288 - end) from)
    ∙ list_any-append (stands_for row x) (range_with_len from (end - from)) (range_with_len (from + (end - from)) (288 - end))
    ∙ or_left (list_any (stands_for row x) (range_with_len from (end - from))) (list_any (stands_for row x) (range_with_len (from + (end - from)) (288 - end))) h)
