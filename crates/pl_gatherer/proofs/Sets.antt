-- The keys of a set stand in the order in which they came; a gathering sees the newest first.
use Rattle.std.proofs.Common.{◌≡◌, ◌∙◌, ◌==◌, ◌||◌, ◌&&◌, not, ℕ, Bool, true, false, cond, List, [], ◌∷◌, ◌++◌, ap, refl, reverse, sym}
use Rattle.std.specs.List.{list_any}
use Rattle.std.proofs.lemmas.Bool.{and_parts, eq-eqb}
use Rattle.std.proofs.lemmas.Cmp.{nat_eq_equiv}
use Rattle.std.proofs.lemmas.List.{reverse-append}
use Rattle.std.proofs.lemmas.List.Folds.{list_any-append}
use Rattle.indexmap.specs.IndexSet.{insert_key}
use Rattle.pl_frame.specs.declared.address.SwitchId.{SwitchId}
use Rattle.pl_layouts.specs.Equality.{same_switch}
use Rattle.pl_gathering.specs.Gathering.{hears_begin, is_among, is_whole}
use Rattle.pl_gatherer.specs.Gatherers.{Gathering, ends_now}

in_front : (a b : Bool) → (b || a) ≡ (a || (b || false))
in_front true true = refl
in_front true false = refl
in_front false true = refl
in_front false false = refl

pub has_key : (s : SwitchId) (keys : List SwitchId) → list_any (same_switch s) keys ≡ is_among s (reverse keys)
has_key s [] = refl
has_key s (k ∷ keys) =
    in_front (list_any (same_switch s) keys) (same_switch s k)
    ∙ (λ i. has_key s keys i || (nat_eq_equiv.symm s.0 k.0 i || false))
    ∙ sym (ap (λ (ids : List SwitchId). is_among s ids) (reverse-append (k ∷ []) keys) ∙ list_any-append (λ t. same_switch t s) (reverse keys) (k ∷ []))

-- a key that is new comes last, so first
pub key_first : (s : SwitchId) (keys : List SwitchId) → is_among s (reverse keys) ≡ false → reverse (insert_key same_switch keys s) ≡ s ∷ reverse keys
key_first s keys none =
    ap (λ b. reverse (cond b keys (keys ++ s ∷ []))) (has_key s keys ∙ none) ∙ reverse-append keys (s ∷ [])

pub begins : (g : Gathering) (s : SwitchId) (n : ℕ) → is_whole g ≡ false → n ≡ g.epoch → is_among s g.begun ≡ false →
    hears_begin g s n ≡ record g { begun = s ∷ g.begun }
begins g s n part now none = ap (λ b. cond b g (record g { begun = s ∷ g.begun })) (λ i. part i || (not (eq-eqb n g.epoch now i) || none i))

pub ended_none : (g : Gathering) (s : SwitchId) (n : ℕ) → ends_now g s n ≡ true → is_among s g.ended ≡ false
ended_none g s n ends = by (is_among s g.ended) (and_parts (not (is_whole g) && (n == g.epoch) && is_among s g.begun) (not (is_among s g.ended)) ends).1
  where
    by : (b : Bool) → not b ≡ true → b ≡ false
    by true h = sym h
    by false h = refl
