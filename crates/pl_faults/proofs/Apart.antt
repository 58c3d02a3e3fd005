-- Edge switches whose bits were not seen before are at places of their own.
use Rattle.std.proofs.Common.{◌≡◌, ◌⊎◌, ◌∙◌, ◌+◌, ◌<◌, ◌==◌, ◌||◌, ℕ, true, false, List, [], ◌∷◌, ◌++◌, length, take, get_or, Some, refl, sym, ap, ap₂, subst, inl, inr}
use Rattle.std.proofs.lemmas.Bool.{and_parts, eq-eqb, eqb-true, false≢true, or_left, or_right}
use Rattle.std.proofs.lemmas.List.{take_more}
use Rattle.pl_bits.specs.Bits.{has_bit}
use Rattle.pl_node.specs.AvoidRows.{number_of}
use Rattle.pl_node.proofs.Exports.{IsAmong, among_append, among_of_Contains}
use Rattle.pl_faults.specs.declared.edges.Edge.{Edge}
use Rattle.pl_faults.specs.Missed.{AreApart, is_there}

-- the bit of each is set, and they are apart
pub record AreSeen (words : List ℕ) (es : List Edge) : Type 0 where
  pub seen : (e : Edge) → IsAmong e es → (n : ℕ) × (number_of e.pod e.position ≡ Some n) × (has_bit words n ≡ true)
  pub each : (e f : Edge) → IsAmong e es → IsAmong f es → is_there e f ≡ true → e ≡ f

pub none_seen : (words : List ℕ) → AreSeen words []
none_seen words = record { seen = λ e h. absurd h; each = λ e f h k there. absurd h }

pub seen_apart : (words : List ℕ) (es : List Edge) → AreSeen words es → AreApart es
seen_apart words es h = record { each = λ e f p q there. h.each e f (among_of_Contains e es p) (among_of_Contains f es q) there }

same_number : (e f : Edge) → is_there e f ≡ true → number_of e.pod e.position ≡ number_of f.pod f.position
same_number e f there =
    let two = and_parts (e.pod == f.pod) (e.position == f.position) there in
    ap₂ number_of (eqb-true e.pod f.pod two.0) (eqb-true e.position f.position two.1)

module _ (es : List Edge) (e : Edge) (old new : List ℕ) (n : ℕ) (before : AreSeen old es) (is : number_of e.pod e.position ≡ Some n)
    (unseen : has_bit old n ≡ false) (put : (m : ℕ) → has_bit new m ≡ ((m == n) || has_bit old m)) where
  -- none that was seen is at the place of the new one
  another : (f : Edge) → IsAmong f es → number_of f.pod f.position ≡ number_of e.pod e.position → ⊥
  another f h same =
      let of = before.seen f h in
      let both : Some of.0 ≡ Some n = sym of.1 ∙ same ∙ is in
      let number : of.0 ≡ n = (cc) in
      false≢true (sym unseen ∙ ap (has_bit old) (sym number) ∙ of.2)

  all_seen : (f : Edge) → IsAmong f es ⊎ IsAmong f (e ∷ []) → (m : ℕ) × (number_of f.pod f.position ≡ Some m) × (has_bit new m ≡ true)
  all_seen f (inl h) = let of = before.seen f h in (of.0, of.1, put of.0 ∙ or_right (of.0 == n) (has_bit old of.0) of.2)
  all_seen f (inr (inl same)) =
      (n, ap (λ (x : Edge). number_of x.pod x.position) (sym same) ∙ is, put n ∙ or_left (n == n) (has_bit old n) (eq-eqb n n refl))
  all_seen f (inr (inr none)) = absurd none

  all_apart : (f g : Edge) → IsAmong f es ⊎ IsAmong f (e ∷ []) → IsAmong g es ⊎ IsAmong g (e ∷ []) → is_there f g ≡ true → f ≡ g
  all_apart f g (inl h) (inl k) there = before.each f g h k there
  all_apart f g (inl h) (inr (inl same)) there =
      absurd (another f h (same_number f g there ∙ ap (λ (x : Edge). number_of x.pod x.position) (sym same)))
  all_apart f g (inl h) (inr (inr none)) there = absurd none
  all_apart f g (inr (inl same)) (inl k) there =
      absurd (another g k (sym (same_number f g there) ∙ ap (λ (x : Edge). number_of x.pod x.position) (sym same)))
  all_apart f g (inr (inr none)) (inl k) there = absurd none
  all_apart f g (inr (inl same)) (inr (inl also)) there = sym same ∙ also
  all_apart f g (inr (inl same)) (inr (inr none)) there = absurd none
  all_apart f g (inr (inr none)) (inr k) there = absurd none

  one_seen : AreSeen new (es ++ e ∷ [])
  one_seen = record {
    seen = λ f h. all_seen f (among_append f es (e ∷ []) h);
    each = λ f g h k there. all_apart f g (among_append f es (e ∷ []) h) (among_append g es (e ∷ []) k) there;
  }

pub one_more_seen : (es : List Edge) (i : ℕ) (d : Edge) (old new : List ℕ) (n : ℕ) → i < length es → AreSeen old (take i es) →
    number_of (get_or es i d).pod (get_or es i d).position ≡ Some n → has_bit old n ≡ false → ((m : ℕ) → has_bit new m ≡ ((m == n) || has_bit old m)) →
    AreSeen new (take (i + 1) es)
one_more_seen es i d old new n within before is unseen put =
    subst (AreSeen new) (sym (take_more es i d within)) (one_seen (take i es) (get_or es i d) old new n before is unseen put)
