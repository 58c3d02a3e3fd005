-- The switches whose list is another than was handed out.
use Rattle.std.proofs.Common.{◌≡◌, ◌⊎◌, Bool, true, false, cond, not, List, [], ◌∷◌, Option, Some, None, Less, refl, sym, ap, ◌∙◌, subst, inl, inr}
use Rattle.std.specs.Prelude.{fold, is_some, unwrap_or}
use Rattle.std.specs.List.{AllByRecursion}
use Rattle.std.specs.List.Sorted.{IsStrictlySortedBy}
use Rattle.std.specs.Ordering.{is_eq, ordering_reverse}
use Rattle.std.specs.Map.{keys_of}
use Rattle.std.specs.BTreeMap.{is_at}
use Rattle.std.specs.BTreeSet.{insert_key}
use Rattle.std.proofs.lemmas.Bool.{not-true, not_from_false}
use Rattle.std.proofs.lemmas.List.Kept.{IsStrictlySortedBy-filter}
use Rattle.pl_frame.specs.declared.address.SwitchId.{SwitchId}
use Rattle.pl_node.specs.AvoidLists.{avoid_list}
use Rattle.pl_node.specs.ManagerViews.{Told, id_cmp, switches, value_at}
use Rattle.pl_node.proofs.Exports.{among_filter, among_filtered, among_insert, id_total, IsAmong, rising_inserted}
use Rattle.pl_manager_rule.specs.ManagerRule.{same_avoid_list}
use Rattle.pl_manager_rule.proofs.Exports.{avoid_lists_alike, id_among, id_exact, id_is, id_itself, switches_rise}
use Rattle.pl_reports.proofs.Exports.{same_rising}
use Rattle.pl_faults.specs.Kept.{AreListsOf, ListsBySwitch, MatrixView, changed_lists, is_changed, with_differing}
use Rattle.pl_faults.specs.Making.{Avoided}
use Rattle.pl_faults.proofs.Filling.{among_put_in, none_rise}
use Rattle.pl_faults.proofs.Anew.{avoid_of}

abbrev Entry : Type 0
Entry = SwitchId × List Avoided

key_of_all : (P : SwitchId → Type 0) (e : Entry) (es : ListsBySwitch) → AllByRecursion P (keys_of es) → IsAmong e es → P e.0
key_of_all P e [] all h = absurd h
key_of_all P e (f ∷ es) all (inl is) = subst (λ (x : Entry). P x.0) is all.0
key_of_all P e (f ∷ es) all (inr h) = key_of_all P e es all.1 h

-- an entry of a table that rises is what the table has at its key
found_at : (e : Entry) (es : ListsBySwitch) → IsStrictlySortedBy id_cmp (keys_of es) → IsAmong e es → value_at id_cmp es e.0 ≡ Some e.1
unfolding IsStrictlySortedBy
found_at e [] s h = absurd h
found_at e (f ∷ es) s (inl is) =
    subst (λ (x : Entry). cond (is_at (id_cmp x.0) f.0) (Some f.1) (value_at id_cmp es x.0) ≡ Some x.1) is
    (ap (λ b. cond b (Some f.1) (value_at id_cmp es f.0)) (id_itself f.0))
found_at e (f ∷ es) s (inr h) =
    let less : id_cmp f.0 e.0 ≡ Less = key_of_all (λ k. id_cmp f.0 k ≡ Less) e es s.0 h in
    let apart : is_at (id_cmp e.0) f.0 ≡ false = ap is_eq (id_total.antisymm e.0 f.0 ∙ ap ordering_reverse less) in
    ap (λ b. cond b (Some f.1) (value_at id_cmp es e.0)) apart ∙ found_at e es s.1 h

-- and what it has at a key is an entry
entry_at : (k : SwitchId) (v : List Avoided) (es : ListsBySwitch) → value_at id_cmp es k ≡ Some v → (e : Entry) × IsAmong e es × (e.0 ≡ k) × (e.1 ≡ v)
entry_at k v [] h = let none : None ≡ Some v = h in absurd (cc)
entry_at k v (f ∷ es) h = by (λ j. entry_at k v es j) (is_at (id_cmp k) f.0) refl h
  where
    by : (value_at id_cmp es k ≡ Some v → (e : Entry) × IsAmong e es × (e.0 ≡ k) × (e.1 ≡ v)) → (b : Bool) → is_at (id_cmp k) f.0 ≡ b →
        cond b (Some f.1) (value_at id_cmp es k) ≡ Some v → (e : Entry) × IsAmong e (f ∷ es) × (e.0 ≡ k) × (e.1 ≡ v)
    by rest true e j = let same : f.1 ≡ v = cc in (f, inl refl, sym (id_is k f.0 e), same)
    by rest false e j = let r = rest j in (r.0, inr r.1, r.2, r.3)

module _ (lists : ListsBySwitch) where
  abbrev is_same_now : Entry → Bool
  is_same_now e = same_avoid_list e.1 (unwrap_or (value_at id_cmp lists e.0) [])

  found_rise : (es : ListsBySwitch) (acc : List SwitchId) → IsStrictlySortedBy id_cmp acc → IsStrictlySortedBy id_cmp (fold (with_differing lists) acc es)
  found_rise [] acc s = s
  found_rise (e ∷ es) acc s = by (λ a r. found_rise es a r) (is_same_now e)
    where
      by : ((a : List SwitchId) → IsStrictlySortedBy id_cmp a → IsStrictlySortedBy id_cmp (fold (with_differing lists) a es)) → (b : Bool) →
          IsStrictlySortedBy id_cmp (fold (with_differing lists) (cond b acc (insert_key id_cmp acc e.0)) es)
      by rest true = rest acc s
      by rest false = rest (insert_key id_cmp acc e.0) (rising_inserted id_cmp id_total e.0 acc s)

  abbrev Differs : SwitchId → ListsBySwitch → Type 0
  Differs k es = (e : Entry) × IsAmong e es × (e.0 ≡ k) × (is_same_now e ≡ false)

  later : (k : SwitchId) (e : Entry) (es : ListsBySwitch) → Differs k es → Differs k (e ∷ es)
  later k e es d = (d.0, inr d.1, d.2, d.3)

  found_from : (k : SwitchId) (es : ListsBySwitch) (acc : List SwitchId) → IsAmong k (fold (with_differing lists) acc es) → IsAmong k acc ⊎ Differs k es
  found_from k [] acc h = inl h
  found_from k (e ∷ es) acc h = by (λ a j. found_from k es a j) (is_same_now e) refl h
    where
      by : ((a : List SwitchId) → IsAmong k (fold (with_differing lists) a es) → IsAmong k a ⊎ Differs k es) → (b : Bool) → is_same_now e ≡ b →
          IsAmong k (fold (with_differing lists) (cond b acc (insert_key id_cmp acc e.0)) es) → IsAmong k acc ⊎ Differs k (e ∷ es)
      by rest true f j = elim (rest acc j) [ inl was ↦ inl was | inr d ↦ inr (later k e es d) ]
      by rest false f j = elim (rest (insert_key id_cmp acc e.0) j) [
        | inl was ↦ elim (among_insert id_cmp e.0 k acc was) [ inl is ↦ inr (e, inl refl, is, f) | inr old ↦ inl old ]
        | inr d ↦ inr (later k e es d)
      ]

  to_found : (k : SwitchId) (es : ListsBySwitch) (acc : List SwitchId) → IsAmong k acc ⊎ Differs k es → IsAmong k (fold (with_differing lists) acc es)
  to_found k [] acc (inl h) = h
  to_found k [] acc (inr d) = absurd d.1
  to_found k (e ∷ es) acc h = by (λ a j. to_found k es a j) (is_same_now e) refl h
    where
      step : (b : Bool) → is_same_now e ≡ b → Differs k (e ∷ es) → IsAmong k (cond b acc (insert_key id_cmp acc e.0)) ⊎ Differs k es
      step b f (d, inr j, is, no_more) = inr (d, j, is, no_more)
      step true f (d, inl same, is, no_more) = let so : is_same_now d ≡ true = subst (λ (x : Entry). is_same_now x ≡ true) same f in absurd (cc)
      step false f (d, inl same, is, no_more) = inl (among_put_in id_cmp id_total id_exact k e.0 acc (inl (ap (λ (x : Entry). x.0) same ∙ is)))

      keep : (b : Bool) → IsAmong k acc → IsAmong k (cond b acc (insert_key id_cmp acc e.0))
      keep true j = j
      keep false j = among_put_in id_cmp id_total id_exact k e.0 acc (inr j)

      by : ((a : List SwitchId) → IsAmong k a ⊎ Differs k es → IsAmong k (fold (with_differing lists) a es)) → (b : Bool) → is_same_now e ≡ b →
          IsAmong k acc ⊎ Differs k (e ∷ es) → IsAmong k (fold (with_differing lists) (cond b acc (insert_key id_cmp acc e.0)) es)
      by rest b f (inl j) = rest (cond b acc (insert_key id_cmp acc e.0)) (inl (keep b j))
      by rest b f (inr d) = rest (cond b acc (insert_key id_cmp acc e.0)) (step b f d)

module _ (told : Told) (lists before : ListsBySwitch) (h : AreListsOf told lists before) (rises : IsStrictlySortedBy id_cmp (keys_of before)) where
  abbrev view : MatrixView
  view = record { told = told; before = before }

  now_at : (s : SwitchId) → unwrap_or (value_at id_cmp lists s) [] ≡ avoid_list told s
  now_at s = ap (λ (o : Option (List Avoided)). unwrap_or o []) (h.current s) ∙ avoid_of told s

  differs_is_changed : (k : SwitchId) → Differs lists k before → IsAmong k (changed_lists view)
  differs_is_changed k (e, among, is, other) =
      let at : value_at id_cmp before k ≡ Some e.1 = ap (value_at id_cmp before) (sym is) ∙ found_at e before rises among in
      let test : same_avoid_list e.1 (avoid_list told k) ≡ false =
      ap (same_avoid_list e.1) (sym (ap (λ z. unwrap_or (value_at id_cmp lists z) []) is ∙ now_at k)) ∙ other in
      among_filtered (is_changed view) k (switches told) (id_among k (switches told) (h.heard k (ap is_some at)))
      (ap (λ (o : Option (List Avoided)). not (same_avoid_list (unwrap_or o (avoid_list told k)) (avoid_list told k))) at
      ∙ not_from_false (same_avoid_list e.1 (avoid_list told k)) test)

  changed_differs : (k : SwitchId) → IsAmong k (changed_lists view) → Differs lists k before
  changed_differs k among = by (value_at id_cmp before k) refl (among_filter (is_changed view) k (switches told) among).1
    where
      by : (o : Option (List Avoided)) → value_at id_cmp before k ≡ o →
          not (same_avoid_list (unwrap_or o (avoid_list told k)) (avoid_list told k)) ≡ true → Differs lists k before
      by None at test =
          let same : same_avoid_list (avoid_list told k) (avoid_list told k) ≡ true = (avoid_lists_alike (avoid_list told k) (avoid_list told k)).1 refl in
          let other : same_avoid_list (avoid_list told k) (avoid_list told k) ≡ false = not-true (same_avoid_list (avoid_list told k) (avoid_list told k)) test in
          absurd (cc)
      by (Some v) at test =
          let e = entry_at k v before at in
          let other : same_avoid_list v (avoid_list told k) ≡ false = not-true (same_avoid_list v (avoid_list told k)) test in (
            e.0,
            e.1,
            e.2,
            ap (λ x. same_avoid_list x (unwrap_or (value_at id_cmp lists e.0.0) [])) e.3
                ∙ ap (same_avoid_list v) (ap (λ z. unwrap_or (value_at id_cmp lists z) []) e.2 ∙ now_at k) ∙ other,
          )

  pub found_are_changed : fold (with_differing lists) [] before ≡ changed_lists view
  found_are_changed =
      same_rising id_cmp id_total id_exact (fold (with_differing lists) [] before) (changed_lists view)
      (found_rise lists before [] (none_rise id_cmp id_total id_exact))
      (IsStrictlySortedBy-filter id_cmp (is_changed view) (switches told) (switches_rise told))
      (λ k j. elim (found_from lists k before [] j) [ inl was ↦ absurd was | inr d ↦ differs_is_changed k d ])
      (λ k j. to_found lists k before [] (inr (changed_differs k j)))
