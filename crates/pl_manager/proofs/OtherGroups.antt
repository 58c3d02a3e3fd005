-- A group of which nothing was told has no tree, and a word on members changes no other group's.
use Rattle.std.proofs.Common.{◌≡◌, ℕ, ◌==◌, ◌&&◌, Bool, true, false, cond, List, [], ◌∷◌, map, None, Ordering, Less, Equal, Greater, nat_cmp, filter, refl, sym, ap, ◌∙◌, subst, inl, inr}
use Rattle.std.specs.List.{list_any}
use Rattle.std.specs.Option.{option_and_then}
use Rattle.std.specs.BTreeMap.{insert_entry}
use Rattle.std.specs.Ordering.{match_ordering}
use Rattle.std.proofs.lemmas.Bool.{eqb-true, false≢true}
use Rattle.std.proofs.lemmas.Map.Lookups.{exact_unsigned}
use Rattle.pl_frame.specs.declared.address.SwitchId.{SwitchId}
use Rattle.pl_layouts.specs.Memberships.{flood}
use Rattle.pl_node.specs.ManagerFacts.{groups}
use Rattle.pl_node.specs.ManagerViews.{Members, Told, id_cmp, in_order, members_cmp, placed_edges, with_members}
use Rattle.pl_node.specs.Trees.{core_for, core_of, needed_edges, part_under, tree_part}
use Rattle.pl_node.proofs.Exports.{among_in_order, among_mapped, IsAmong}
use Rattle.pl_manager_rule.proofs.Exports.{members_exact}
use Rattle.pl_groups.proofs.Exports.{no_core_no_part}
use Rattle.pl_manager.proofs.OneGroup.{listed_itself}

abbrev Member : Type 0
Member = (SwitchId × ℕ) × Bool

-- whether a word says that there are members of the group
abbrev is_of : ℕ → Member → Bool
is_of group m = m.0.1 == group && m.1

-- ---- a group of which nothing was told
none_pass : (group : ℕ) (ms : Members) → ((m : Member) → IsAmong m ms → (m.0.1 == group) ≡ false) → filter (is_of group) ms ≡ []
none_pass group [] none = refl
none_pass group (m ∷ ms) none =
    ap (λ b. cond (b && m.1) (m ∷ filter (is_of group) ms) (filter (is_of group) ms)) (none m (inl refl))
    ∙ none_pass group ms (λ w h. none w (inr h))

module _ (told : Told) (members : Members) (group : ℕ) (unlisted : list_any (λ h. h == group) (groups members) ≡ false) where
  not_among : IsAmong group (flood ∷ map (λ m. m.0.1) members) → ⊥
  not_among h =
      false≢true (sym unlisted ∙ listed_itself group (groups members)
      (among_in_order nat_cmp exact_unsigned group (flood ∷ map (λ m. m.0.1) members) h))

  not_flood : (group == flood) ≡ false
  not_flood = by (group == flood) refl
    where
      by : (b : Bool) → (group == flood) ≡ b → b ≡ false
      by false e = refl
      by true e = absurd (not_among (inl (sym (eqb-true group flood e))))

  not_told : (m : Member) → IsAmong m members → (m.0.1 == group) ≡ false
  not_told m h = by (m.0.1 == group) refl
    where
      by : (b : Bool) → (m.0.1 == group) ≡ b → b ≡ false
      by false e = refl
      by true e =
          let there : IsAmong m.0.1 (map (λ (w : Member). w.0.1) members) = among_mapped (λ (w : Member). w.0.1) m members h in
          absurd (not_among (inr (ap_among (eqb-true m.0.1 group e) there)))
        where
          ap_among : {n : ℕ} → n ≡ group → IsAmong n (map (λ (w : Member). w.0.1) members) → IsAmong group (map (λ (w : Member). w.0.1) members)
          ap_among is there = subst (λ k. IsAmong k (map (λ (w : Member). w.0.1) members)) is there

  none_needed : needed_edges told members group ≡ []
  none_needed =
      ap (λ b. cond b (map (λ e. e.switch) (placed_edges told)) (with_members members group)) not_flood
      ∙ ap (λ ms. in_order id_cmp (map (λ (m : Member). m.0.0) ms)) (none_pass group members not_told)

  no_core : core_of told members group ≡ None
  unfolding core_of
  no_core = ap (core_for told group) none_needed

  pub no_tree : (s : SwitchId) → tree_part told members group s ≡ None
  no_tree s = sym (no_core_no_part told members group s no_core)

-- ---- a word on the members of one group
module _ (s : SwitchId) (group : ℕ) (any : Bool) (other : ℕ) (differ : (group == other) ≡ false) where
  dropped : (m : Member) (ms : List Member) → m.0.1 ≡ group → filter (is_of other) (m ∷ ms) ≡ filter (is_of other) ms
  dropped m ms is = ap (λ b. cond (b && m.1) (m ∷ filter (is_of other) ms) (filter (is_of other) ms)) (ap (λ n. n == other) is ∙ differ)

  same_members : (ms : Members) → filter (is_of other) (insert_entry members_cmp ms (s, group) any) ≡ filter (is_of other) ms
  same_members [] = dropped ((s, group), any) [] refl
  same_members (m ∷ ms) = by (same_members ms) (members_cmp (s, group) m.0) refl
    where
      by : filter (is_of other) (insert_entry members_cmp ms (s, group) any) ≡ filter (is_of other) ms → (r : Ordering) → members_cmp (s, group) m.0 ≡ r →
          filter (is_of other) (match_ordering r (((s, group), any) ∷ m ∷ ms) ((m.0, any) ∷ ms) (m ∷ insert_entry members_cmp ms (s, group) any))
          ≡ filter (is_of other) (m ∷ ms)
      by rest Less e = dropped ((s, group), any) (m ∷ ms) refl
      by rest Equal e =
          let same : m.0.1 ≡ group = sym (ap (λ (key : SwitchId × ℕ). key.1) (members_exact (s, group) m.0 e)) in
          dropped (m.0, any) ms same ∙ sym (dropped m ms same)
      by rest Greater e = ap (λ rest. cond (is_of other m) (m ∷ rest) rest) rest

  same_needed : (told : Told) (members : Members) → needed_edges told (insert_entry members_cmp members (s, group) any) other ≡ needed_edges told members other
  same_needed told members =
      ap (λ ms. cond (other == flood) (map (λ e. e.switch) (placed_edges told)) (in_order id_cmp (map (λ (m : Member). m.0.0) ms))) (same_members members)

  pub same_tree : (told : Told) (members : Members) (t : SwitchId) →
      tree_part told (insert_entry members_cmp members (s, group) any) other t ≡ tree_part told members other t
  unfolding tree_part core_of
  same_tree told members t =
      ap (λ needed. option_and_then (part_under told needed t) (core_for told other needed)) (same_needed told members)
