-- Printing one text after the other.
use Rattle.std.proofs.Common.{◌≡◌, ℕ, ◌+◌, ◌<◌, List, [], ◌∷◌, ◌++◌, length, take, drop, get_or, refl, sym, ◌∙◌, ap, subst, append_assoc, arith, length-append}
use Rattle.std.specs.List.{flat_map}
use Rattle.std.proofs.lemmas.List.{append-nil, take-append-drop, take-append-le, take_more}
use Rattle.std.proofs.lemmas.List.Concat.{flat_map-append}
use Rattle.std.proofs.Math.Seq.{take-append-add}
use Rattle.pl_shelf.specs.Held.{Held, Changes, IsCutOff, with_end}
use Rattle.pl_shelf.proofs.Exports.{Changes-appended, with_end-none}
use Rattle.pl_output.specs.Printed.{IsPrinted, BreaksOff}

-- nothing was printed
pub printed_none : (old : List ℕ → Held) (name piece : List ℕ) → IsPrinted old old name piece piece []
printed_none old name piece = record {
  sent = [];
  whole = append-nil piece;
  changes = record { named = sym (with_end-none (old name)); others = λ q other. refl };
}

-- the piece was sent, and is empty
pub printed_sent : (old new : List ℕ → Held) (name piece : List ℕ) → Changes old new name (with_end (old name) piece) →
    IsPrinted old new name piece [] []
printed_sent old new name piece changes = record { sent = piece; whole = refl; changes = changes }

-- nothing more was printed, and then a text is put behind it
pub printed_put : (old new : List ℕ → Held) (name p q r x : List ℕ) → IsPrinted old new name p q [] → r ≡ q ++ x → IsPrinted old new name p r x
printed_put old new name p q r x none put = record {
  sent = none.sent;
  whole = ap (λ t. t ++ x) (sym (append-nil p) ∙ none.whole) ∙ append_assoc none.sent q x ∙ ap (λ t. none.sent ++ t) (sym put);
  changes = none.changes;
}

-- a text that was cut off is so as the first part of a longer one
cut_front : (old new : List ℕ → Held) (name : List ℕ) (first : Held) (x y : List ℕ) → IsCutOff old new name first x →
    IsCutOff old new name first (x ++ y)
cut_front old new name first x y cut =
    let n = cut.0 in
    let within = cut.1 in
    let same : take n (x ++ y) ≡ take n x = take-append-le n x y (omega (arith, within)) in
    (n, omega (arith, within, length-append x y), subst (λ t. Changes old new name (with_end first t)) (sym same) cut.2)

-- what is cut off behind a text that was sent
cut_behind : (a b c : List ℕ → Held) (name sent text : List ℕ) → Changes a b name (with_end (a name) sent) →
    IsCutOff b c name (b name) text → IsCutOff a c name (a name) (sent ++ text)
cut_behind a b c name sent text first cut =
    let n = cut.0 in
    let short : n < length text = cut.1 in (
      length sent + n,
      omega (arith, short, length-append sent text),
      subst (λ t. Changes a c name (with_end (a name) t)) (sym (take-append-add sent text n))
          (Changes-appended a b c name (a name) sent (take n text) first cut.2),
    )

-- what is cut off behind what the name was changed to
pub cut_after : (a b c : List ℕ → Held) (name : List ℕ) (first : Held) (text : List ℕ) → Changes a b name first →
    IsCutOff b c name (b name) text → IsCutOff a c name first text
cut_after a b c name first text change cut = (
  cut.0,
  cut.1,
  record {
    named = cut.2.named ∙ ap (λ h. with_end h (take cut.0 text)) change.named;
    others = λ q other. cut.2.others q other ∙ change.others q other;
  },
)

module _ (a b c : List ℕ → Held) (name p q : List ℕ) where
  -- what the piece held and two texts, once the first was printed
  both : (x y : List ℕ) (first : IsPrinted a b name p q x) → p ++ (x ++ y) ≡ first.sent ++ (q ++ y)
  both x y first = sym (append_assoc p x y) ∙ ap (λ t. t ++ y) first.whole ∙ append_assoc first.sent q y

  pub printed_then : (r x y : List ℕ) → IsPrinted a b name p q x → IsPrinted b c name q r y → IsPrinted a c name p r (x ++ y)
  printed_then r x y first second = record {
    sent = first.sent ++ second.sent;
    whole = both x y first ∙ ap (λ t. first.sent ++ t) second.whole ∙ sym (append_assoc first.sent second.sent r);
    changes = Changes-appended a b c name (a name) first.sent second.sent first.changes second.changes;
  }

  -- the second text breaks off
  pub broken_then : (x y : List ℕ) → IsPrinted a b name p q x → BreaksOff b c name q y → BreaksOff a c name p (x ++ y)
  broken_then x y first cut =
      subst (IsCutOff a c name (a name)) (sym (both x y first)) (cut_behind a b c name first.sent (q ++ y) first.changes cut)

-- the first text breaks off
pub broken_first : (a c : List ℕ → Held) (name p x y : List ℕ) → BreaksOff a c name p x → BreaksOff a c name p (x ++ y)
broken_first a c name p x y cut = subst (IsCutOff a c name (a name)) (append_assoc p x y) (cut_front a c name (a name) (p ++ x) y cut)

-- the piece is sent with a front of the rest
module _ (a b c : List ℕ → Held) (name p q rest text : List ℕ) (n : ℕ) (so_far : IsPrinted a b name p (q ++ rest) text) where
  parted : p ++ text ≡ so_far.sent ++ ((q ++ take n rest) ++ drop n rest)
  parted = so_far.whole ∙ ap (λ t. so_far.sent ++ (q ++ t)) (sym (take-append-drop n rest))
      ∙ ap (λ t. so_far.sent ++ t) (sym (append_assoc q (take n rest) (drop n rest)))

  pub printed_rest : Changes b c name (with_end (b name) (q ++ take n rest)) → IsPrinted a c name p (drop n rest) text
  printed_rest sent = record {
    sent = so_far.sent ++ (q ++ take n rest);
    whole = parted ∙ sym (append_assoc so_far.sent (q ++ take n rest) (drop n rest));
    changes = Changes-appended a b c name (a name) so_far.sent (q ++ take n rest) so_far.changes sent;
  }

  pub broken_rest : IsCutOff b c name (b name) (q ++ take n rest) → BreaksOff a c name p text
  broken_rest cut =
      subst (IsCutOff a c name (a name)) (sym parted)
      (cut_behind a b c name so_far.sent _ so_far.changes (cut_front b c name (b name) (q ++ take n rest) (drop n rest) cut))

-- the piece was empty at first, and the last of it is sent
module _ (a b c : List ℕ → Held) (name q text : List ℕ) (printed : IsPrinted a b name [] q text) where
  pub printed_all : Changes b c name (with_end (b name) q) → Changes a c name (with_end (a name) text)
  printed_all sent =
      subst (λ t. Changes a c name (with_end (a name) t)) (sym printed.whole)
      (Changes-appended a b c name (a name) printed.sent q printed.changes sent)

  pub broken_last : IsCutOff b c name (b name) q → IsCutOff a c name (a name) text
  broken_last cut = subst (IsCutOff a c name (a name)) (sym printed.whole) (cut_behind a b c name printed.sent q printed.changes cut)

-- the texts of a list's elements behind a first text, in a loop
module _ {X : Type 0} (f : X → List ℕ) (first : List ℕ) (xs : List X) (i : ℕ) (x : X) (within : i < length xs) where
  one_more : first ++ flat_map f (take (i + 1) xs) ≡ (first ++ flat_map f (take i xs)) ++ f (get_or xs i x)
  one_more =
      ap (λ ys. first ++ flat_map f ys) (take_more xs i x within)
      ∙ ap (λ t. first ++ t) (flat_map-append f (take i xs) (get_or xs i x ∷ []) ∙ ap (λ t. flat_map f (take i xs) ++ t) (append-nil _))
      ∙ sym (append_assoc first _ _)

  pub text_more : (text new : List ℕ) → text ≡ first ++ flat_map f (take i xs) → new ≡ text ++ f (get_or xs i x) →
      new ≡ first ++ flat_map f (take (i + 1) xs)
  text_more text new so_far step = step ∙ ap (λ t. t ++ f (get_or xs i x)) so_far ∙ sym one_more

  all_of_them : first ++ flat_map f xs ≡ ((first ++ flat_map f (take i xs)) ++ f (get_or xs i x)) ++ flat_map f (drop (i + 1) xs)
  all_of_them =
      ap (λ ys. first ++ flat_map f ys) (sym (take-append-drop (i + 1) xs))
      ∙ ap (λ t. first ++ t) (flat_map-append f (take (i + 1) xs) (drop (i + 1) xs))
      ∙ sym (append_assoc first _ _)
      ∙ ap (λ t. t ++ flat_map f (drop (i + 1) xs)) one_more

  module _ (a b c : List ℕ → Held) (name p q : List ℕ) (so_far : IsPrinted a b name p q (first ++ flat_map f (take i xs))) where
    pub printed_more : (r : List ℕ) → IsPrinted b c name q r (f (get_or xs i x)) →
        IsPrinted a c name p r (first ++ flat_map f (take (i + 1) xs))
    printed_more r next = subst (IsPrinted a c name p r) (sym one_more) (printed_then a b c name p q r _ _ so_far next)

    pub broken_more : BreaksOff b c name q (f (get_or xs i x)) → BreaksOff a c name p (first ++ flat_map f xs)
    broken_more cut =
        subst (BreaksOff a c name p) (sym all_of_them)
        (broken_first a c name p _ _ (broken_then a b c name p q _ _ so_far cut))
