-- Where no report is missing in a later epoch, each switch of the wiring has ended its own.
use Rattle.std.proofs.Common.{◌≡◌, ◌==◌, ◌||◌, Bool, true, false, List, [], ◌∷◌, length, nat_le, refl, sym, ap, ◌∙◌, inl, inr, arith, eq-eqb, eqb-true}
use Rattle.std.specs.List.{AllByRecursion, IsDistinct}
use Rattle.std.specs.Cmp.{IsEquivalence}
use Rattle.std.proofs.lemmas.Bool.{cases_Bool, false≢true, leb-true, or_cases, or_parts}
use Rattle.std.proofs.lemmas.Cmp.{nat_eq_equiv}
use Rattle.std.proofs.lemmas.Map.Made.{length-le_from_is_member}
use Rattle.pl_frame.specs.declared.address.SwitchId.{SwitchId}
use Rattle.pl_layouts.specs.Equality.{same_switch}
use Rattle.pl_gathering.specs.Gathering.{Gathered, is_among, is_whole}
use Rattle.pl_gathering.specs.Orderly.{IsOrderly, has}

same_is_same : IsEquivalence same_switch
same_is_same = record {
  refl = λ a. nat_eq_equiv.refl a.0;
  symm = λ a b. nat_eq_equiv.symm a.0 b.0;
  congr = λ a b c. nat_eq_equiv.congr a.0 b.0 c.0;
}

either_way : (s t : SwitchId) → same_switch t s ≡ same_switch s t
either_way s t = by (t.0 == s.0) (s.0 == t.0) refl refl
  where
    by : (a b : Bool) → (t.0 == s.0) ≡ a → (s.0 == t.0) ≡ b → a ≡ b
    by true true x y = refl
    by false false x y = refl
    by true false x y = absurd (false≢true (sym y ∙ eq-eqb s.0 t.0 (sym (eqb-true t.0 s.0 x))))
    by false true x y = absurd (false≢true (sym x ∙ eq-eqb t.0 s.0 (sym (eqb-true s.0 t.0 y))))

among_has : (s : SwitchId) (ids : List SwitchId) → is_among s ids ≡ has ids s
among_has s [] = refl
among_has s (t ∷ ids) = ap (λ b. b || is_among s ids) (either_way s t) ∙ ap (λ b. same_switch s t || b) (among_has s ids)

new_among : (s : SwitchId) (ids : List SwitchId) → has ids s ≡ false → AllByRecursion (λ t. same_switch s t ≡ false) ids
new_among s [] none = tt
new_among s (t ∷ ids) none = let two = or_parts (same_switch s t) (has ids s) none in (two.0, new_among s ids two.1)

-- a switch whose report had not ended would be one more than there are
module _ {K T : Type 0} (ids : List SwitchId) (n : Gathered K T) (orderly : IsOrderly ids n) where
  ended_within : (q : SwitchId) → has n.ended q ≡ true → has ids q ≡ true
  ended_within q ended = orderly.within q (orderly.begun q (among_has q n.ended ∙ ended))

  pub whole_ended : is_whole n ≡ true → (n.epoch == 0) ≡ false → (t : SwitchId) → has ids t ≡ true → is_among t n.ended ≡ true
  unfolding IsDistinct
  whole_ended whole later t there = elim (cases_Bool (has n.ended t)) [
    | inl ended ↦ among_has t n.ended ∙ ended
    | inr missing ↦
        let enough = leb-true n.many (length n.ended) (sym (ap (λ b. b || nat_le n.many (length n.ended)) later) ∙ whole) in
        let many = orderly.many in
        let more = length-le_from_is_member same_is_same (t ∷ n.ended) ids (new_among t n.ended missing, orderly.once)
        (λ q any. elim (or_cases (same_switch q t) (has n.ended q) any) [
          | inl same ↦ ap (λ i. has ids (record { 0 = i })) (eqb-true q.0 t.0 same) ∙ there
          | inr before ↦ ended_within q before
        ]) in
        absurd (omega (arith, more, many, enough))
  ]
