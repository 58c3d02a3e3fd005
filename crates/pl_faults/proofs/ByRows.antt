-- What a neighbour misses is put in by a row of bits, and one by one where it has no bit.
use Rattle.std.proofs.Common.{◌≡◌, ◌⊎◌, ◌&&◌, ◌||◌, ℕ, not, Bool, true, false, cond, List, [], ◌∷◌, ◌++◌, map, Option, Some, None, arith, refl, sym, ap, ap₂, ◌∙◌, subst, inl, inr}
use Rattle.std.specs.Prelude.{fold, is_some}
use Rattle.std.specs.List.{filter, list_all, list_any, range_with_len}
use Rattle.std.specs.List.Sorted.{IsStrictlySortedBy}
use Rattle.std.specs.BTreeSet.{insert_key}
use Rattle.std.proofs.lemmas.Bool.{and_from, and_parts, eq-eqb, eqb-true, false≢true}
use Rattle.std.proofs.lemmas.List.Folds.{list_all-append, list_any-append}
use Rattle.pl_lemmas.proofs.Exports.{and_true}
use Rattle.pl_bits.specs.Bits.{has_bit}
use Rattle.pl_frame.specs.declared.address.SwitchId.{SwitchId}
use Rattle.pl_node.specs.AvoidLists.{avoided_cmp}
use Rattle.pl_node.specs.AvoidRows.{entries_of, entry_of, number_of}
use Rattle.pl_node.specs.declared.avoid_row.AvoidRow.{AvoidRow}
use Rattle.pl_node.proofs.Exports.{among_filter, among_filtered, among_map, among_mapped, among_range, any_among, avoided_exact, avoided_total, IsAmong, member_passes, of_number}
use Rattle.pl_reports.proofs.Exports.{same_rising}
use Rattle.pl_faults.specs.declared.edges.Edge.{Edge}
use Rattle.pl_faults.specs.Making.{Avoided, entry_at}
use Rattle.pl_faults.specs.Missed.{with_unnumbered}
use Rattle.pl_faults.specs.Numbered.{AreNumbered, has_bit_at, has_number, is_number}
use Rattle.pl_faults.proofs.Filling.{among_fold, fold_among, fold_rises}
use Rattle.pl_faults.proofs.Made.{put_where}

pub or_swap : (a b : Bool) → (a || b) ≡ (b || a)
or_swap true true = refl
or_swap true false = refl
or_swap false true = refl
or_swap false false = refl

number_is : (n : ℕ) (o : Option ℕ) → is_number n o ≡ true → o ≡ Some n
number_is n None h = absurd (false≢true h)
number_is n (Some m) h = ap Some (sym (eqb-true n m h))

module _ (test : Edge → Bool) (u : SwitchId) (es : List Edge) (row : AvoidRow) (of : row.neighbour ≡ u)
    (bits : (n : ℕ) → has_bit row.words n ≡ list_any (λ e. test e && has_bit_at n e) es) where
  abbrev passing : List Avoided
  passing = map (entry_at u) (filter test es)

  abbrev is_bare : Edge → Bool
  is_bare e = not (has_number e) && test e

  abbrev bare : List Avoided
  bare = map (entry_at u) (filter is_bare es)

  -- one that passes stands for its bit, or has none
  from_edge : (e : Edge) → IsAmong e es → test e ≡ true → IsAmong (entry_at u e) (entries_of row) ⊎ IsAmong (entry_at u e) bare
  from_edge e there passes = by (number_of e.pod e.position) refl
    where
      by : (o : Option ℕ) → number_of e.pod e.position ≡ o → IsAmong (entry_at u e) (entries_of row) ⊎ IsAmong (entry_at u e) bare
      by None is =
          inr (among_mapped (entry_at u) e (filter is_bare es)
          (among_filtered is_bare e es there (and_from (not (has_number e)) (test e) (ap (λ (o : Option ℕ). not (is_some o)) is) passes)))
      by (Some n) is =
          let parts = of_number e.pod e.position n is in
          let set : has_bit row.words n ≡ true =
          bits n ∙ any_among (λ (x : Edge). test x && has_bit_at n x) e es there
          (and_from (test e) (has_bit_at n e) passes (ap (is_number n) is ∙ eq-eqb n n refl)) in
          let same : entry_of row.neighbour n ≡ entry_at u e = (λ i. (of i, sym parts.0 i, sym parts.1 i)) in
          inl (subst (λ x. IsAmong x (entries_of row)) same
          (among_mapped (entry_of row.neighbour) n (filter (has_bit row.words) (range_with_len 0 288))
          (among_filtered (has_bit row.words) n (range_with_len 0 288) (among_range n 0 288 n (omega (arith)) parts.2) set)))

  passing_from : (x : Avoided) → IsAmong x passing → IsAmong x (entries_of row) ⊎ IsAmong x bare
  passing_from x h =
      let at = among_map (entry_at u) x (filter test es) h in
      let there = among_filter test at.0 es at.1 in
      subst (λ z. IsAmong z (entries_of row) ⊎ IsAmong z bare) at.2 (from_edge at.0 there.0 there.1)

  passes_put : (e : Edge) → IsAmong e es → test e ≡ true → IsAmong (entry_at u e) passing
  passes_put e there passes = among_mapped (entry_at u) e (filter test es) (among_filtered test e es there passes)

  row_passing : (x : Avoided) → IsAmong x (entries_of row) → IsAmong x passing
  row_passing x h =
      let at = among_map (entry_of row.neighbour) x (filter (has_bit row.words) (range_with_len 0 288)) h in
      let n = at.0 in
      let set = among_filter (has_bit row.words) n (range_with_len 0 288) at.1 in
      let some = member_passes (λ (e : Edge). test e && has_bit_at n e) es (sym (bits n) ∙ set.1) in
      let e = some.0 in
      let two = and_parts (test e) (has_bit_at n e) some.2 in
      let parts = of_number e.pod e.position n (number_is n (number_of e.pod e.position) two.1) in
      let same : entry_at u e ≡ entry_of row.neighbour n = (λ i. (sym of i, parts.0 i, parts.1 i)) in
      subst (λ z. IsAmong z passing) (same ∙ at.2) (passes_put e some.1 two.0)

  bare_passing : (x : Avoided) → IsAmong x bare → IsAmong x passing
  bare_passing x h =
      let at = among_map (entry_at u) x (filter is_bare es) h in
      let there = among_filter is_bare at.0 es at.1 in
      let two = and_parts (not (has_number at.0)) (test at.0) there.1 in
      subst (λ z. IsAmong z passing) at.2 (passes_put at.0 there.0 two.1)

  abbrev by_row : List Avoided → List Avoided
  by_row list = fold (insert_key avoided_cmp) list (entries_of row)

  abbrev all_put : List Avoided → List Avoided
  all_put list = fold (insert_key avoided_cmp) list passing

  one_way : (list : List Avoided) (x : Avoided) → IsAmong x (fold (insert_key avoided_cmp) (by_row list) bare) → IsAmong x (all_put list)
  one_way list x h = among_fold avoided_cmp avoided_total avoided_exact x passing list
      (elim (fold_among avoided_cmp avoided_total avoided_exact x bare (by_row list) h) [
        | inl before ↦ elim (fold_among avoided_cmp avoided_total avoided_exact x (entries_of row) list before) [ inl was ↦ inl was | inr of_row ↦ inr (row_passing x of_row) ]
        | inr other ↦ inr (bare_passing x other)
      ])

  other_way : (list : List Avoided) (x : Avoided) → IsAmong x (all_put list) → IsAmong x (fold (insert_key avoided_cmp) (by_row list) bare)
  other_way list x h = among_fold avoided_cmp avoided_total avoided_exact x bare (by_row list)
      (elim (fold_among avoided_cmp avoided_total avoided_exact x passing list h) [
        | inl was ↦ inl (among_fold avoided_cmp avoided_total avoided_exact x (entries_of row) list (inl was))
        | inr passes ↦ elim (passing_from x passes) [
          | inl of_row ↦ inl (among_fold avoided_cmp avoided_total avoided_exact x (entries_of row) list (inr of_row))
          | inr other ↦ inr other
        ]
      ])

  pub row_put : (list : List Avoided) → IsStrictlySortedBy avoided_cmp list →
      fold (λ (l : List Avoided) (e : Edge). cond (is_bare e) (insert_key avoided_cmp l (entry_at u e)) l) (by_row list) es ≡ all_put list
  row_put list rises =
      put_where is_bare u es (by_row list)
      ∙ same_rising avoided_cmp avoided_total avoided_exact (fold (insert_key avoided_cmp) (by_row list) bare) (all_put list)
      (fold_rises avoided_cmp avoided_total avoided_exact bare (by_row list) (fold_rises avoided_cmp avoided_total avoided_exact (entries_of row) list rises))
      (fold_rises avoided_cmp avoided_total avoided_exact passing list rises)
      (one_way list) (other_way list)

-- ---- all of them
all_kept : (es : List Edge) → filter (λ e. true) es ≡ es
all_kept [] = refl
all_kept (e ∷ es) = ap (λ l. e ∷ l) (all_kept es)

-- where each has a bit none is left
pub none_unnumbered : (u : SwitchId) (es : List Edge) (list : List Avoided) → list_all has_number es ≡ true → fold (with_unnumbered u) list es ≡ list
none_unnumbered u [] list h = refl
none_unnumbered u (e ∷ es) list h =
    let two = and_parts (has_number e) (list_all has_number es) h in
    ap (λ b. fold (with_unnumbered u) (cond (not b) (insert_key avoided_cmp list (entry_at u e)) list) es) two.0 ∙ none_unnumbered u es list two.1

pub all_put_in : (u : SwitchId) (es : List Edge) (row : AvoidRow) (list : List Avoided) → row.neighbour ≡ u →
    ((n : ℕ) → has_bit row.words n ≡ list_any (has_bit_at n) es) → IsStrictlySortedBy avoided_cmp list →
    fold (with_unnumbered u) (fold (insert_key avoided_cmp) list (entries_of row)) es ≡ fold (insert_key avoided_cmp) list (map (entry_at u) es)
all_put_in u es row list of bits rises =
    (λ i. fold (λ (l : List Avoided) (e : Edge). cond (sym (and_true (not (has_number e))) i) (insert_key avoided_cmp l (entry_at u e)) l)
    (fold (insert_key avoided_cmp) list (entries_of row)) es)
    ∙ row_put (λ e. true) u es row of bits list rises
    ∙ ap (λ xs. fold (insert_key avoided_cmp) list (map (entry_at u) xs)) (all_kept es)

-- ---- the bits of edge switches, one by one
pub no_edge_numbered : (words : List ℕ) → ((n : ℕ) → has_bit words n ≡ false) → AreNumbered [] words true
no_edge_numbered words none = record { bits = none; all = refl }

pub one_edge_more : (es : List Edge) (e : Edge) (old new : List ℕ) (was now : Bool) → AreNumbered es old was →
    ((n : ℕ) → has_bit new n ≡ (has_bit_at n e || has_bit old n)) → now ≡ (was && has_number e) → AreNumbered (es ++ e ∷ []) new now
one_edge_more es e old new was now h put is = record {
  bits = λ n. put n ∙ ap (λ b. has_bit_at n e || b) (h.bits n) ∙ or_turned (has_bit_at n e) (list_any (has_bit_at n) es)
      ∙ sym (list_any-append (has_bit_at n) es (e ∷ []));
  all = is ∙ ap₂ (λ a b. a && b) h.all (sym (and_true (has_number e))) ∙ sym (list_all-append has_number es (e ∷ []));
}
  where
    or_turned : (a b : Bool) → (a || b) ≡ (b || (a || false))
    or_turned true true = refl
    or_turned true false = refl
    or_turned false true = refl
    or_turned false false = refl
