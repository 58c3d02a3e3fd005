-- Laws of what is held: one change after another.
use Rattle.std.proofs.Common.{◌≡◌, ◌≢◌, ◌⊎◌, inl, inr, ℕ, Bool, true, false, List, [], ◌∷◌, ◌++◌, refl, sym, ◌∙◌, ap, append_assoc, if◌then◌else◌}
use Rattle.std.specs.Str.{bytes_eq}
use Rattle.std.proofs.lemmas.Bool.{false≢true, false_from_ne_true}
use Rattle.std.proofs.lemmas.List.{append-nil}
use Rattle.std.proofs.lemmas.Slice.Eq.{bytes_eq-Decides}
use Rattle.pl_shelf.specs.Held.{Held, unknown, absent, holds, Same, Changes, with_end, created, emptied, standard_output}

-- two ends, one after the other
pub with_end-with_end : (held : Held) (a b : List ℕ) → with_end (with_end held a) b ≡ with_end held (a ++ b)
with_end-with_end unknown a b = refl
with_end-with_end absent [] b = refl
with_end-with_end absent (x ∷ a) b = refl
with_end-with_end (holds bs) a b = ap (λ c. holds c) (append_assoc bs a b)

-- no bytes at the end change nothing
pub with_end-none : (held : Held) → with_end held [] ≡ held
with_end-none unknown = refl
with_end-none absent = refl
with_end-none (holds bs) = ap (λ c. holds c) (append-nil bs)

pub Same-trans : (a b c : List ℕ → Held) → Same a b → Same b c → Same a c
Same-trans a b c first second q = second q ∙ first q

-- of two changes of one name the second counts
pub Changes-again : (a b c : List ℕ → Held) (name : List ℕ) (x y : Held) →
    Changes a b name x → Changes b c name y → Changes a c name y
Changes-again a b c name x y first second = record {
  named = second.named;
  others = λ q other. second.others q other ∙ first.others q other;
}

-- bytes that were added one part after the other were added as a whole
pub Changes-appended : (a b c : List ℕ → Held) (name : List ℕ) (held : Held) (x y : List ℕ) →
    Changes a b name (with_end held x) → Changes b c name (with_end (b name) y) →
    Changes a c name (with_end held (x ++ y))
Changes-appended a b c name held x y first second = record {
  named = second.named ∙ ap (λ h. with_end h y) first.named ∙ with_end-with_end held x y;
  others = λ q other. second.others q other ∙ first.others q other;
}

-- what stays the same is changed to what it holds
pub Changes-same : (a b : List ℕ → Held) (name : List ℕ) → Same a b → Changes a b name (a name)
Changes-same a b name same = record { named = same name; others = λ q other. same q }

pub Changes-then-Same : (a b c : List ℕ → Held) (name : List ℕ) (x : Held) →
    Changes a b name x → Same b c → Changes a c name x
Changes-then-Same a b c name x change same = record {
  named = same name ∙ change.named;
  others = λ q other. same q ∙ change.others q other;
}

pub Same-then-Changes : (a b c : List ℕ → Held) (name : List ℕ) (x : Held) →
    Same a b → Changes b c name x → Changes a c name x
Same-then-Changes a b c name x same change = record {
  named = change.named;
  others = λ q other. change.others q other ∙ same q;
}

name_cases : (q name : List ℕ) (b : Bool) → bytes_eq q name ≡ b → (q ≡ name) ⊎ (q ≢ name)
name_cases q name true is = inl ((bytes_eq-Decides q name).0 is)
name_cases q name false is = inr (λ same. false≢true (sym is ∙ (bytes_eq-Decides q name).1 same))

-- changes of two names come to the same in either order
pub Changes-commute : (a b c d e : List ℕ → Held) (m n : List ℕ) (x y : Held) → m ≢ n →
    Changes a b m x → Changes b c n y → Changes a d n y → Changes d e m x → Same c e
Changes-commute a b c d e m n x y apart first second third fourth = λ q.
    elim (name_cases q m _ refl) [
      | inl here ↦
          let at_m : q ≢ n = λ there. apart (sym here ∙ there) in
          ap e here ∙ fourth.named ∙ sym first.named ∙ sym (ap b here) ∙ sym (second.others q at_m)
      | inr not_m ↦
          elim (name_cases q n _ refl) [
            | inl here ↦ fourth.others q not_m ∙ ap d here ∙ third.named ∙ sym second.named ∙ sym (ap c here)
            | inr not_n ↦
                fourth.others q not_m ∙ third.others q not_n ∙ sym (first.others q not_m) ∙ sym (second.others q not_n)
          ]
    ]

emptied-told : (held : Held) → held ≢ unknown → emptied held ≡ holds []
emptied-told unknown told = absurd (told refl)
emptied-told absent told = refl
emptied-told (holds bs) told = refl

-- what was created is empty, where the shelf tells it and it is not standard output
pub created-told : (name : List ℕ) (held : Held) → name ≢ standard_output → held ≢ unknown → created name held ≡ holds []
created-told name held file told =
    ap (λ b. if b then held else emptied held) (false_from_ne_true _ (λ same. file ((bytes_eq-Decides name standard_output).0 same)))
    ∙ emptied-told held told

-- what was saved is all that a file holds then, where the shelf tells it
pub saved-told : (name : List ℕ) (held : Held) (bytes : List ℕ) → name ≢ standard_output → held ≢ unknown →
    with_end (created name held) bytes ≡ holds bytes
saved-told name held bytes file told = ap (λ h. with_end h bytes) (created-told name held file told)

-- standard output keeps what it had
pub created-output : (held : Held) → created standard_output held ≡ held
created-output held = refl
