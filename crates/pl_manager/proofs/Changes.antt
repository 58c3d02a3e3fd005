-- What is told once a word was heard is what the manager's rule tells.
use Rattle.std.proofs.Common.{◌≡◌, ℕ, ◌==◌, ◌||◌, not, Bool, true, false, cond, List, [], ◌∷◌, ◌++◌, map, None, nat_cmp, filter, flat_map, refl, sym, ap, ◌∙◌, subst, inl, append-nil, append_assoc}
use Rattle.std.specs.List.{list_any}
use Rattle.std.specs.BTreeMap.{insert_entry}
use Rattle.std.proofs.lemmas.Cmp.{nat_cmp_total}
use Rattle.std.proofs.lemmas.Map.Lookups.{exact_unsigned}
use Rattle.pl_frame.specs.declared.address.SwitchId.{SwitchId}
use Rattle.pl_layouts.specs.Memberships.{flood}
use Rattle.pl_node.specs.declared.acts.ManagerAct.{ManagerAct}
use Rattle.pl_node.specs.declared.acts.ManagerAct.TheVariants.{Say}
use Rattle.pl_node.specs.declared.messages.ToSwitch.TheVariants as say
use Rattle.pl_node.specs.AvoidLists.{avoid_list}
use Rattle.pl_node.specs.ManagerFacts.{groups}
use Rattle.pl_node.specs.ManagerViews.{Told, members_cmp, switches}
use Rattle.pl_node.specs.Trees.{core_for, core_of, needed_edges, tree_part}
use Rattle.pl_node.proofs.Exports.{IsAmong}
use Rattle.pl_manager_rule.specs.ManagerRule.{avoid_acts, same_avoid_list, same_part}
use Rattle.pl_manager_rule.proofs.Exports.{groups_rise, none_differ, parts_alike}
use Rattle.pl_reports.specs.Kept.{nothing_told}
use Rattle.pl_faults.specs.Kept.{MatrixView, changed_lists, empty_matrix, handed}
use Rattle.pl_groups.proofs.Exports.{groups_more, no_core_no_part}
use Rattle.pl_faults.proofs.Exports.{among_put_in}
use Rattle.pl_groups.specs.Kept.{members_in, part_kept}
use Rattle.pl_groups.specs.declared.groups.Groups.{Groups}
use Rattle.pl_manager.specs.Routing.{AreOf, routed, tree_told_anew, trees_told_anew}
use Rattle.pl_manager.specs.Telling.{AreTreesRenewed, lists_told, listed_groups, tree_told}
use Rattle.pl_manager.proofs.OneGroup.{only_one}
use Rattle.pl_manager.proofs.OtherGroups.{no_tree, same_tree}

-- ---- a word on a place or a link
-- the lists that are another one now
pub lists_changed : (told : Told) (m : MatrixView) → ((s : SwitchId) → handed m s ≡ avoid_list told s) →
    lists_told m.told (changed_lists m) ≡ avoid_acts told m.told
lists_changed told m same =
    λ i. map (λ s. Say s (say.Avoid (avoid_list m.told s))) (filter (λ s. not (same_avoid_list (same s i) (avoid_list m.told s))) (switches m.told))

-- as they are told
pub lists_said : (told : Told) (m1 m2 : MatrixView) (o1 o2 : List ManagerAct) (changed : List SwitchId) → m2.told ≡ m1.told → changed ≡ changed_lists m1 →
    o2 ≡ o1 ++ lists_told m2.told changed → ((s : SwitchId) → handed m1 s ≡ avoid_list told s) → o2 ≡ o1 ++ avoid_acts told m1.told
lists_said told m1 m2 o1 o2 changed still is said was =
    said ∙ ap (λ zs. o1 ++ zs) ((λ j. lists_told (still j) (is j)) ∙ lists_changed told m1 was)

-- the parts of trees that are another one now
pub trees_changed : (told after : Told) (kept : Groups) → ((g : ℕ) (s : SwitchId) → part_kept kept g s ≡ tree_part told (members_in kept) g s) →
    flat_map (tree_told after kept) (listed_groups kept) ≡ trees_told_anew (routed told kept) (routed after kept)
trees_changed told after kept same =
    λ i. flat_map (λ g. map (λ s. Say s (say.Tree g (tree_part after (members_in kept) g s)))
    (filter (λ s. not (same_part (same g s i) (tree_part after (members_in kept) g s))) (switches after))) (groups (members_in kept))

module _ (told : Told) (m1 m2 : MatrixView) (g1 g2 : Groups) (o1 o2 o3 : List ManagerAct) (was : AreOf told m1 g1) (still : m2.told ≡ m1.told)
    (handed_now : (s : SwitchId) → handed m2 s ≡ avoid_list m1.told s) (said : o2 ≡ o1 ++ avoid_acts told m1.told) (renewed : AreTreesRenewed m2.told (listed_groups g1) g1 g2 o2 o3) where
  part_now : (g : ℕ) (s : SwitchId) (b : Bool) → list_any (λ h. h == g) (listed_groups g1) ≡ b → part_kept g2 g s ≡ tree_part m2.told (members_in g1) g s
  part_now g s true e = renewed.renewed g s e
  part_now g s false e =
      renewed.others g s e ∙ was.parts g s ∙ no_tree told (members_in g1) g e s ∙ sym (no_tree m2.told (members_in g1) g e s)

  pub changes_kept : AreOf m2.told m2 g2
  changes_kept = record {
    lists = λ s. handed_now s ∙ ap (λ t. avoid_list t s) (sym still);
    parts = λ g s.
        part_now g s (list_any (λ h. h == g) (listed_groups g1)) refl ∙ ap (λ members. tree_part m2.told members g s) (sym renewed.members);
  }

  pub changes_said : o3 ≡ o1 ++ (avoid_acts told m1.told ++ trees_told_anew (routed told g1) (routed m1.told g1))
  changes_said =
      renewed.acts
      ∙ (λ i. said i ++ flat_map (tree_told (still i) g1) (listed_groups g1))
      ∙ (append_assoc o1 (avoid_acts told m1.told) (flat_map (tree_told m1.told g1) (listed_groups g1)))
      ∙ ap (λ zs. o1 ++ (avoid_acts told m1.told ++ zs)) (trees_changed told m1.told g1 was.parts)

-- ---- a word that changes no tree
module _ (told after : Told) (kept : Groups)
    (same : (g : ℕ) (s : SwitchId) → tree_part after (members_in kept) g s ≡ tree_part told (members_in kept) g s) where
  tree_silent : (g : ℕ) → tree_told_anew (routed told kept) (routed after kept) g ≡ []
  tree_silent g =
      ap (map (λ s. Say s (say.Tree g (tree_part after (members_in kept) g s))))
      (none_differ (λ s. same_part (tree_part told (members_in kept) g s) (tree_part after (members_in kept) g s))
      (λ s. (parts_alike (tree_part told (members_in kept) g s) (tree_part after (members_in kept) g s)).1 (sym (same g s))) (switches after))

  all_silent : (gs : List ℕ) → flat_map (tree_told_anew (routed told kept) (routed after kept)) gs ≡ []
  all_silent [] = refl
  all_silent (g ∷ gs) = λ i. tree_silent g i ++ all_silent gs i

  -- nothing is told of trees, and those that are kept stay right
  pub trees_silent : (o1 o2 : List ManagerAct) → o2 ≡ o1 ++ avoid_acts told after →
      o2 ≡ o1 ++ (avoid_acts told after ++ trees_told_anew (routed told kept) (routed after kept))
  trees_silent o1 o2 said =
      said ∙ ap (λ zs. o1 ++ zs) (sym (append-nil (avoid_acts told after)) ∙ ap (λ zs. avoid_acts told after ++ zs) (sym (all_silent (groups (members_in kept)))))

  pub trees_still : (m : MatrixView) → m.told ≡ after → ((s : SwitchId) → handed m s ≡ avoid_list after s) →
      ((g : ℕ) (s : SwitchId) → part_kept kept g s ≡ tree_part told (members_in kept) g s) → AreOf m.told m kept
  trees_still m is lists parts = record {
    lists = λ s. lists s ∙ ap (λ t. avoid_list t s) (sym is);
    parts = λ g s. parts g s ∙ sym (same g s) ∙ ap (λ t. tree_part t (members_in kept) g s) (sym is);
  }

-- ---- a word on the members of a group
module _ (told : Told) (m : MatrixView) (edge : SwitchId) (group : ℕ) (any : Bool) (g0 g1 g2 : Groups) (o1 o2 : List ManagerAct) (was : AreOf told m g0)
    (set : members_in g1 ≡ insert_entry members_cmp (members_in g0) (edge, group) any)
    (stay : (g : ℕ) (s : SwitchId) → part_kept g1 g s ≡ part_kept g0 g s) (renewed : AreTreesRenewed told (group ∷ []) g1 g2 o1 o2) where
  pub members_now : members_in g2 ≡ insert_entry members_cmp (members_in g0) (edge, group) any
  members_now = renewed.members ∙ set

  other_tree : (g : ℕ) (s : SwitchId) → (group == g) ≡ false → tree_part told (members_in g2) g s ≡ tree_part told (members_in g0) g s
  other_tree g s e = ap (λ members. tree_part told members g s) members_now ∙ same_tree edge group any g e told (members_in g0) s

  member_part : (g : ℕ) (s : SwitchId) (b : Bool) → (group == g) ≡ b → part_kept g2 g s ≡ tree_part told (members_in g2) g s
  member_part g s true e =
      renewed.renewed g s (ap (λ b. b || false) e) ∙ ap (λ members. tree_part told members g s) (sym renewed.members)
  member_part g s false e =
      renewed.others g s (ap (λ b. b || false) e) ∙ stay g s ∙ was.parts g s ∙ sym (other_tree g s e)

  pub members_kept : AreOf told m g2
  members_kept = record { lists = was.lists; parts = λ g s. member_part g s (group == g) refl }

  -- no other group has anything to tell
  others_silent : (g : ℕ) → (group == g) ≡ false → tree_told_anew (routed told g0) (routed told g2) g ≡ []
  others_silent g e =
      ap (map (λ s. Say s (say.Tree g (tree_part told (members_in g2) g s))))
      (none_differ (λ s. same_part (tree_part told (members_in g0) g s) (tree_part told (members_in g2) g s))
      (λ s. (parts_alike (tree_part told (members_in g0) g s) (tree_part told (members_in g2) g s)).1 (sym (other_tree g s e))) (switches told))

  is_listed : IsAmong group (groups (members_in g2))
  is_listed =
      subst (IsAmong group) (sym (ap groups members_now ∙ groups_more (members_in g0) edge group any))
      (among_put_in nat_cmp nat_cmp_total exact_unsigned group group (groups (members_in g0)) (inl refl))

  own_tree : tree_told told g1 group ≡ tree_told_anew (routed told g0) (routed told g2) group
  own_tree =
      λ i. map (λ s. Say s (say.Tree group (tree_part told (sym renewed.members i) group s)))
      (filter (λ s. not (same_part ((stay group s ∙ was.parts group s) i) (tree_part told (sym renewed.members i) group s))) (switches told))

  pub members_said : o2 ≡ o1 ++ trees_told_anew (routed told g0) (routed told g2)
  members_said =
      renewed.acts
      ∙ ap (λ zs. o1 ++ zs)
      (append-nil (tree_told told g1 group) ∙ own_tree
      ∙ sym (only_one (tree_told_anew (routed told g0) (routed told g2)) group others_silent (groups (members_in g2)) (groups_rise (members_in g2)) is_listed))

-- ---- nothing was told
nothing_needed : (g : ℕ) → needed_edges nothing_told [] g ≡ []
nothing_needed g = by (g == flood)
  where
    by : (b : Bool) → cond {A = List SwitchId} b [] [] ≡ []
    by true = refl
    by false = refl

nothing_core : (g : ℕ) → core_of nothing_told [] g ≡ None
unfolding core_of
nothing_core g = ap (core_for nothing_told g) (nothing_needed g)

pub forgotten : (m : MatrixView) (kept : Groups) → m ≡ empty_matrix → members_in kept ≡ [] →
    ((g : ℕ) (s : SwitchId) → part_kept kept g s ≡ None) → AreOf m.told m kept
forgotten m kept is members parts = record {
  lists = λ s. subst (λ (v : MatrixView). handed v s ≡ avoid_list v.told s) (sym is) refl;
  parts = λ g s. parts g s ∙ no_core_no_part nothing_told [] g s (nothing_core g) ∙ (λ i. tree_part ((sym is i).told) (sym members i) g s);
}
