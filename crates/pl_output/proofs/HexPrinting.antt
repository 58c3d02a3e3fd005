-- Printing bytes in hexadecimal, one chunk after the other.
use Rattle.std.proofs.Common.{◌≡◌, ℕ, List, [], ◌∷◌, ◌++◌, length, take, drop, refl, sym, ◌∙◌, ap, subst, append_assoc, arith}
use Rattle.std.proofs.lemmas.List.{append-nil, take-append-drop}
use Rattle.hex.specs.Hex.{encode_lower, encode_with, lower_digits}
use Rattle.pl_journal.proofs.Exports.{encode_append}
use Rattle.pl_shelf.specs.Held.{Held}
use Rattle.pl_output.specs.Printed.{IsPrinted, BreaksOff}
use Rattle.pl_output.proofs.PrintedLaws.{printed_none, printed_then, broken_then, broken_first}

pub encode_none : encode_lower [] ≡ []
unfolding encode_with
encode_none = refl

-- all of the bytes but the rest were printed
pub record IsPrintedUpTo (old new : List ℕ → Held) (name before after bytes rest : List ℕ) : Type 0 where
  pub done : List ℕ
  pub whole : bytes ≡ done ++ rest
  pub printed : IsPrinted old new name before after (encode_lower done)

pub up_to_none : (old : List ℕ → Held) (name piece bytes : List ℕ) → IsPrintedUpTo old old name piece piece bytes bytes
up_to_none old name piece bytes = record {
  done = [];
  whole = refl;
  printed = subst (IsPrinted old old name piece piece) (sym encode_none) (printed_none old name piece);
}

module _ (a b c : List ℕ → Held) (name p q bytes rest : List ℕ) (n : ℕ) (so_far : IsPrintedUpTo a b name p q bytes rest) where
  pub up_to_more : (r : List ℕ) → IsPrinted b c name q r (encode_lower (take n rest)) → IsPrintedUpTo a c name p r bytes (drop n rest)
  up_to_more r next = record {
    done = so_far.done ++ take n rest;
    whole = so_far.whole ∙ ap (λ t. so_far.done ++ t) (sym (take-append-drop n rest))
        ∙ sym (append_assoc so_far.done (take n rest) (drop n rest));
    printed = subst (IsPrinted a c name p r) (sym (encode_append lower_digits so_far.done (take n rest)))
        (printed_then a b c name p q r _ _ so_far.printed next);
  }

  pub up_to_broken : BreaksOff b c name q (encode_lower (take n rest)) → BreaksOff a c name p (encode_lower bytes)
  up_to_broken cut =
      let parts : encode_lower bytes ≡ (encode_lower so_far.done ++ encode_lower (take n rest)) ++ encode_lower (drop n rest) =
      ap encode_lower so_far.whole
      ∙ ap (λ t. encode_lower (so_far.done ++ t)) (sym (take-append-drop n rest))
      ∙ encode_append lower_digits so_far.done (take n rest ++ drop n rest)
      ∙ ap (λ t. encode_lower so_far.done ++ t) (encode_append lower_digits (take n rest) (drop n rest))
      ∙ sym (append_assoc (encode_lower so_far.done) (encode_lower (take n rest)) (encode_lower (drop n rest))) in
      subst (BreaksOff a c name p) (sym parts)
      (broken_first a c name p _ _ (broken_then a b c name p q _ _ so_far.printed cut))

pub up_to_all : (a b : List ℕ → Held) (name p q bytes rest : List ℕ) → IsPrintedUpTo a b name p q bytes rest → length rest ≡ 0 →
    IsPrinted a b name p q (encode_lower bytes)
up_to_all a b name p q bytes [] so_far none =
    subst (λ t. IsPrinted a b name p q (encode_lower t)) (sym (so_far.whole ∙ append-nil so_far.done)) so_far.printed
up_to_all a b name p q bytes (x ∷ rest) so_far none = absurd (omega arith)
