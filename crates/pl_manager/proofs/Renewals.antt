-- Trees that are made anew one after the other.
use Rattle.std.proofs.Common.{◌≡◌, ◌≢◌, ℕ, ◌+◌, ◌==◌, ◌||◌, not, Bool, true, false, List, [], ◌∷◌, ◌++◌, map, Some, nat_cmp, None, get_or, length, ◌<◌, take, filter, flat_map, refl, sym, ap, ◌∙◌, subst, append-nil, append_assoc, eq-eqb}
use Rattle.std.specs.List.{list_any, slice_get}
use Rattle.std.specs.List.Sorted.{IsStrictlySortedBy}
use Rattle.std.proofs.lemmas.Bool.{eqb-true, false≢true, or_left, or_parts}
use Rattle.std.proofs.lemmas.Grind.{flat_map-append}
use Rattle.std.proofs.lemmas.Option.{slice_get-get_or}
use Rattle.pl_frame.specs.declared.address.SwitchId.{SwitchId}
use Rattle.pl_node.specs.declared.acts.ManagerAct.{ManagerAct}
use Rattle.pl_node.specs.declared.acts.ManagerAct.TheVariants.{Say}
use Rattle.pl_node.specs.declared.messages.ToSwitch.TheVariants as say
use Rattle.pl_node.specs.ManagerViews.{Members, Told, switches}
use Rattle.pl_node.specs.Trees.{tree_part}
use Rattle.pl_manager_rule.specs.ManagerRule.{same_part}
use Rattle.pl_groups.specs.Kept.{members_in, part_kept}
use Rattle.pl_groups.specs.declared.groups.Groups.{Groups}
use Rattle.pl_groups.proofs.Exports.{any_more}
use Rattle.pl_manager.specs.Telling.{AreTreesRenewed, listed_groups, parts_told, tree_told}
use Rattle.pl_manager.proofs.OneGroup.{first_taken, one_more_taken}

-- no tree was made anew yet
pub none_renewed : (told : Told) (a : Groups) (out : List ManagerAct) → AreTreesRenewed told [] a a out out
none_renewed told a out = record {
  acts = sym (append-nil out);
  renewed = λ g s e. absurd (false≢true e);
  others = λ g s e. refl;
  members = refl;
}

-- the tree of one group
pub one_renewed : (told : Told) (g : ℕ) (a b : Groups) (out out_after : List ManagerAct) (changed : List SwitchId) →
    changed ≡ filter (λ s. not (same_part (part_kept a g s) (tree_part told (members_in a) g s))) (switches told) →
    ((s : SwitchId) → part_kept b g s ≡ tree_part told (members_in a) g s) →
    ((q : ℕ) (s : SwitchId) → q ≢ g → part_kept b q s ≡ part_kept a q s) → members_in b ≡ members_in a →
    out_after ≡ out ++ parts_told b g changed → AreTreesRenewed told (g ∷ []) a b out out_after
one_renewed told g a b out out_after changed is parts others members acts = record {
  acts = acts ∙ ap (λ zs. out ++ zs) ((λ i. map (λ s. Say s (say.Tree g (parts s i))) (is i)) ∙ sym (append-nil (tree_told told a g)));
  renewed = λ q s e. subst (λ h. part_kept b h s ≡ tree_part told (members_in a) h s) (eqb-true g q (only (g == q) e)) (parts s);
  others = λ q s e. others q s (λ same. false≢true (sym (or_parts (g == q) false e).0 ∙ eq-eqb g q (sym same)));
  members = members;
}
  where
    only : (x : Bool) → (x || false) ≡ true → x ≡ true
    only true e = refl
    only false e = e

-- and then that of another one
module _ (told : Told) (some : List ℕ) (g : ℕ) (a b c : Groups) (o1 o2 o3 : List ManagerAct) (first : list_any (λ h. h == g) some ≡ false)
    (h : AreTreesRenewed told some a b o1 o2) (k : AreTreesRenewed told (g ∷ []) b c o2 o3) where
  abbrev renewed_by : Groups → Members → List ManagerAct
  renewed_by z members =
      map (λ s. Say s (say.Tree g (tree_part told members g s)))
      (filter (λ s. not (same_part (part_kept z g s) (tree_part told members g s))) (switches told))

  as_before : tree_told told b g ≡ tree_told told a g
  as_before =
      ap (renewed_by b) h.members
      ∙ (λ i. map (λ s. Say s (say.Tree g (tree_part told (members_in a) g s)))
      (filter (λ s. not (same_part (h.others g s first i) (tree_part told (members_in a) g s))) (switches told)))

  more_acts : o3 ≡ o1 ++ flat_map (tree_told told a) (some ++ g ∷ [])
  more_acts =
      k.acts ∙ (λ i. h.acts i ++ (as_before i ++ []))
      ∙ (append_assoc o1 (flat_map (tree_told told a) some) (tree_told told a g ++ []))
      ∙ ap (λ zs. o1 ++ zs) (sym (flat_map-append (tree_told told a) some (g ∷ [])))

  more_renewed : (q : ℕ) (s : SwitchId) (x : Bool) → (g == q) ≡ x → (list_any (λ z. z == q) some || x) ≡ true →
      part_kept c q s ≡ tree_part told (members_in a) q s
  more_renewed q s true e all =
      k.renewed q s (or_left (g == q) false e) ∙ ap (λ members. tree_part told members q s) h.members
  more_renewed q s false e all =
      k.others q s (ap (λ x. x || false) e) ∙ h.renewed q s (before (list_any (λ z. z == q) some) all)
    where
      before : (x : Bool) → (x || false) ≡ true → x ≡ true
      before true f = refl
      before false f = f

  pub renewed_next : AreTreesRenewed told (some ++ g ∷ []) a c o1 o3
  renewed_next = record {
    acts = more_acts;
    renewed = λ q s e. more_renewed q s (g == q) refl (sym (any_more (λ z. z == q) some g) ∙ e);
    others = λ q s e.
        let two = or_parts (list_any (λ z. z == q) some) (g == q) (sym (any_more (λ z. z == q) some g) ∙ e) in
        k.others q s (ap (λ x. x || false) two.1) ∙ h.others q s two.0;
    members = k.members ∙ h.members;
  }

-- so it goes on through the list of the groups
pub renewed_at : (told : Told) (gs : List ℕ) (n g : ℕ) (a b c : Groups) (o1 o2 o3 : List ManagerAct) → IsStrictlySortedBy nat_cmp gs →
    slice_get gs n ≡ Some g → AreTreesRenewed told (take n gs) a b o1 o2 → AreTreesRenewed told (g ∷ []) b c o2 o3 → AreTreesRenewed told (take (n + 1) gs) a c o1 o3
renewed_at told gs n g a b c o1 o2 o3 rises at h k =
    subst (λ some. AreTreesRenewed told some a c o1 o3) (sym (one_more_taken gs n g at))
    (renewed_next told (take n gs) g a b c o1 o2 o3 (first_taken gs n g rises at) h k)

-- a list of groups by their number
pub group_listed : (told : Told) (gs : List ℕ) (n : ℕ) (a b c : Groups) (o1 o2 o3 : List ManagerAct) → IsStrictlySortedBy nat_cmp gs → n < length gs →
    listed_groups b ≡ gs → ((g : ℕ) → slice_get (listed_groups b) n ≡ Some g → AreTreesRenewed told (g ∷ []) b c o2 o3) →
    AreTreesRenewed told (take n gs) a b o1 o2 → AreTreesRenewed told (take (n + 1) gs) a c o1 o3
group_listed told gs n a b c o1 o2 o3 rises below same more h =
    let at = slice_get-get_or gs n 0 below in
    renewed_at told gs n (get_or gs n 0) a b c o1 o2 o3 rises at h (more (get_or gs n 0) (ap (λ xs. slice_get xs n) same ∙ at))

-- only the group at a place is made anew there
pub group_at_place : (told : Told) (b c : Groups) (n : ℕ) (group : ℕ) (o2 o3 : List ManagerAct) → Some group ≡ slice_get (listed_groups b) n →
    AreTreesRenewed told (group ∷ []) b c o2 o3 → (g : ℕ) → slice_get (listed_groups b) n ≡ Some g → AreTreesRenewed told (g ∷ []) b c o2 o3
group_at_place told b c n group o2 o3 at h g also =
    let both : Some group ≡ Some g = at ∙ also in
    let same : group ≡ g = cc in
    subst (λ k. AreTreesRenewed told (k ∷ []) b c o2 o3) same h

pub no_group_there : {X : Type 0} (b : Groups) (n : ℕ) → None ≡ slice_get (listed_groups b) n → (g : ℕ) → slice_get (listed_groups b) n ≡ Some g → X
no_group_there b n at g also = let both : None ≡ Some g = at ∙ also in absurd (cc)
