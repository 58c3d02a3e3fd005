-- Where a line ends.
use Rattle.std.proofs.Common.{◌≡◌, ℕ, suc, ◌+◌, ◌≤◌, ◌<◌, List, [], ◌∷◌, ◌++◌, length, take, slice_index, sym, ap, subst, ◌∙◌, inl, inr, arith, length-take-le, get_or-take, take-suc, take_all}
use Rattle.std.proofs.lemmas.Bool.{eq-eqb, eqb-true}
use Rattle.memchr.specs.Find.{Nowhere, Passes, is_byte}
use Rattle.pl_journal_text.specs.Reading.{IsFree}
use Rattle.pl_verify.specs.Judged.{IsLine}

free_front : (text : List ℕ) (n : ℕ) → n ≤ length text → Nowhere (Passes (is_byte 10) text) 0 n → IsFree 10 (take n text)
free_front text n within none i less same =
    let long : length (take n text) ≡ n = length-take-le n text within in
    let below : i < n = omega (arith, long, less) in
    none i (omega arith) below (eq-eqb (slice_index text i) 10 (sym (get_or-take n text i 0 below) ∙ same))

-- the text has no newline
pub last_line : (rest : List ℕ) (n : ℕ) → length rest ≤ n → Nowhere (Passes (is_byte 10) rest) 0 (length rest) → IsLine rest (take n rest)
last_line rest n past none =
    inr (subst (IsFree 10) (take_all (length rest) rest (omega arith)) (free_front rest (length rest) (omega arith) none), take_all n rest past)

-- its first newline is here
pub first_line : (rest : List ℕ) (i n : ℕ) → n ≡ i + 1 → i < length rest → Nowhere (Passes (is_byte 10) rest) 0 i → Passes (is_byte 10) rest i →
    IsLine rest (take n rest)
first_line rest i n next less none at =
    inl (
      take i rest,
      free_front rest i (omega arith) none,
      ap (λ m. take m rest) (next ∙ more) ∙ take-suc rest i 0 less ∙ ap (λ byte. take i rest ++ byte ∷ []) (eqb-true (slice_index rest i) 10 at),
    )
  where
    more : i + 1 ≡ suc i
    more = omega arith
