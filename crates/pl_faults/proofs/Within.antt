-- Outside which switches a word on a link or on a place leaves what rows and lists read.
use Rattle.std.proofs.Common.{◌≡◌, Bool, true, false, List, [], ◌∷◌, refl, sym, ap, ◌∙◌, subst, inl, inr}
use Rattle.std.specs.Prelude.{fold}
use Rattle.std.specs.BTreeMap.{is_at}
use Rattle.std.specs.BTreeSet.{insert_key}
use Rattle.std.proofs.lemmas.Bool.{false_from_ne_true, false≢true, or_cases}
use Rattle.pl_frame.specs.declared.address.SwitchId.{SwitchId}
use Rattle.pl_node.specs.ManagerViews.{Told, alive_neighbours, id_cmp, neighbours}
use Rattle.pl_manager_rule.proofs.Exports.{id_among, id_is}
use Rattle.pl_reports.specs.Kept.{has_told, near_of}
use Rattle.pl_faults.specs.Kept.{IsLinkWord, IsPlaceWord, IsWordOf, IsWordWithin}
use Rattle.pl_faults.specs.Listed.{AreHeard, Hearers, is_in, with_beside, with_told}
use Rattle.pl_faults.proofs.Anew.{no_neighbours}
use Rattle.pl_faults.proofs.Gathered.{in_all_before, in_all_new, in_itself, in_more, in_told, in_told_before, told_from}
use Rattle.pl_faults.proofs.Nearby.{beside_turned}

-- one that is not in a list is another than one that is
pub apart : (list : List SwitchId) (s t : SwitchId) → is_in list s ≡ true → is_in list t ≡ false → is_at (id_cmp s) t ≡ false
apart list s t own out =
    false_from_ne_true (is_at (id_cmp s) t) (λ at. false≢true (sym out ∙ subst (λ z. is_in list z ≡ true) (id_is s t at) own))

-- the switch that told something is alone
pub alone_told : (s : SwitchId) (told after : Told) → IsWordOf s told after → (t : SwitchId) → is_in (s ∷ []) t ≡ true → has_told after t ≡ true
alone_told s told after w t h = elim (or_cases (is_at (id_cmp t) s) false h) [
  | inl at ↦ subst (λ z. has_told after z ≡ true) (sym (id_is t s at)) w.itself
  | inr none ↦ absurd (false≢true none)
]

pub alone : (s : SwitchId) → is_in (s ∷ []) s ≡ true
alone s = in_itself s []

-- ---- a word on a link
module _ (s u : SwitchId) (told after : Told) (w : IsLinkWord s u told after) where
  pub link_rows : IsWordWithin (insert_key id_cmp (s ∷ []) u) alive_neighbours told after
  link_rows = record {
    place = λ t out. w.place t;
    near = λ t out.
        w.beside t (apart (insert_key id_cmp (s ∷ []) u) s t (in_more u s (s ∷ []) (alone s)) out)
        (apart (insert_key id_cmp (s ∷ []) u) u t (in_itself u (s ∷ [])) out);
    beside = λ t x out near. w.place x;
  }

  pub link_lists : IsWordWithin (s ∷ []) neighbours told after
  link_lists = record {
    place = λ t out. w.place t;
    near = λ t out. w.word.near t (apart (s ∷ []) s t (alone s) out);
    beside = λ t x out near. w.place x;
  }

-- ---- a word on a place
module _ (s : SwitchId) (told after : Told) (w : IsPlaceWord s told after) where
  pub place_rows : IsWordWithin (with_beside after (s ∷ []) s) alive_neighbours told after
  place_rows = record {
    place = λ t out.
        w.word.place t (apart (with_beside after (s ∷ []) s) s t (in_all_before s (s ∷ []) (alive_neighbours after s) (alone s)) out);
    near = λ t out. w.beside t;
    beside = λ t x out near.
        w.word.place x
        (false_from_ne_true (is_at (id_cmp s) x)
        (λ at.
        let here : is_in (alive_neighbours after t) s ≡ true = subst (λ z. is_in (alive_neighbours after t) z ≡ true) (sym (id_is s x at)) near in
        false≢true (sym out ∙ in_all_new t (s ∷ []) (alive_neighbours after s)
        (beside_turned after t s (id_among s (alive_neighbours after t) here)))));
  }

  module _ (hearers : Hearers) (heard : AreHeard after hearers) where
    abbrev pub first : List SwitchId
    first = fold (with_told after) (s ∷ []) (near_of hearers s)

    pub itself_first : is_in first s ≡ true
    itself_first = in_told_before after s (near_of hearers s) (s ∷ []) (alone s)

    pub first_told : (t : SwitchId) → is_in first t ≡ true → has_told after t ≡ true
    first_told t h = elim (told_from after t (near_of hearers s) (s ∷ []) h) [
      | inl own ↦ alone_told s told after w.word t own
      | inr so ↦ so
    ]

    near_told : (t x : SwitchId) → is_in (neighbours after t) x ≡ true → has_told after t ≡ true
    near_told t x near = by (has_told after t) refl
      where
        by : (b : Bool) → has_told after t ≡ b → b ≡ true
        by true e = refl
        by false e = ap (λ us. is_in us x) (sym (no_neighbours after t e)) ∙ near

    pub place_lists : IsWordWithin first neighbours told after
    place_lists = record {
      place = λ t out. w.word.place t (apart first s t itself_first out);
      near = λ t out. w.near t;
      beside = λ t x out near.
          w.word.place x
          (false_from_ne_true (is_at (id_cmp s) x)
          (λ at.
          let here : is_in (neighbours after t) s ≡ true = subst (λ z. is_in (neighbours after t) z ≡ true) (sym (id_is s x at)) near in
          false≢true (sym out ∙ in_told after t (near_of hearers s) (s ∷ []) (heard t s here) (near_told t s here))));
    }
