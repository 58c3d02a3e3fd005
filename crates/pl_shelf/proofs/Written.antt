-- How far `append` has come.
use Rattle.std.proofs.Common.{◌≡◌, ℕ, ◌<◌, List, [], ◌∷◌, ◌++◌, length, take, drop, refl, sym, ◌∙◌, ap, subst, append_assoc, arith, length-append}
use Rattle.std.proofs.lemmas.List.{append-nil, take-append-drop, take_at}
use Rattle.pl_shelf.specs.Held.{Held, Same, Changes, IsCutOff, with_end}
use Rattle.pl_shelf.proofs.Changed.{Changes-appended, Changes-then-Same, with_end-none}

-- all of the bytes but the rest stand at the name's end
pub record Written (old new : List ℕ → Held) (name bytes rest : List ℕ) : Type 0 where
  pub front : List ℕ
  pub whole : bytes ≡ front ++ rest
  pub changes : Changes old new name (with_end (old name) front)

pub written_none : (old : List ℕ → Held) (name bytes : List ℕ) → Written old old name bytes bytes
written_none old name bytes = record {
  front = [];
  whole = refl;
  changes = record { named = sym (with_end-none (old name)); others = λ q other. refl };
}

pub written_more : (old mid new : List ℕ → Held) (name bytes rest : List ℕ) (n : ℕ) →
    Written old mid name bytes rest → Changes mid new name (with_end (mid name) (take n rest)) →
    Written old new name bytes (drop n rest)
written_more old mid new name bytes rest n far step = record {
  front = far.front ++ take n rest;
  whole = far.whole ∙ ap (λ r. far.front ++ r) (sym (take-append-drop n rest))
      ∙ sym (append_assoc far.front (take n rest) (drop n rest));
  changes = Changes-appended old mid new name (old name) far.front (take n rest) far.changes step;
}

pub written_all : (old new : List ℕ → Held) (name bytes rest : List ℕ) → Written old new name bytes rest →
    length rest ≡ 0 → Changes old new name (with_end (old name) bytes)
written_all old new name bytes [] far none =
    subst (λ b. Changes old new name (with_end (old name) b)) (sym (far.whole ∙ append-nil far.front)) far.changes
written_all old new name bytes (x ∷ rest) far none = absurd (omega arith)

pub cut_off : (old mid new : List ℕ → Held) (name bytes rest : List ℕ) → Written old mid name bytes rest →
    0 < length rest → Same mid new → IsCutOff old new name (old name) bytes
cut_off old mid new name bytes rest far some same =
    let changes = Changes-then-Same old mid new name _ far.changes same in
    let is : take (length far.front) bytes ≡ far.front = ap (take (length far.front)) far.whole ∙ take_at far.front rest (length far.front) refl in (
      length far.front,
      omega (arith, ap length far.whole, length-append far.front rest),
      subst (λ b. Changes old new name (with_end (old name) b)) (sym is) changes,
    )
