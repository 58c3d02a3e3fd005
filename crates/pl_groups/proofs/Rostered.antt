-- Which edge switches a group needs, and which groups were told of.
use Rattle.std.proofs.Common.{◌≡◌, ℕ, ◌==◌, ◌&&◌, Bool, true, false, cond, List, [], ◌∷◌, map, nat_cmp, refl, ap, ◌∙◌, subst, inl, inr}
use Rattle.std.specs.List.{filter, fold}
use Rattle.std.specs.Map.{keys_of}
use Rattle.std.specs.BTreeMap.{insert_entry}
use Rattle.std.specs.BTreeSet.{insert_key}
use Rattle.std.proofs.lemmas.Cmp.{nat_cmp_total}
use Rattle.std.proofs.lemmas.Map.Lookups.{exact_unsigned}
use Rattle.pl_frame.specs.declared.address.SwitchId.{SwitchId}
use Rattle.pl_layouts.specs.Memberships.{flood}
use Rattle.pl_node.specs.ManagerFacts.{groups}
use Rattle.pl_node.specs.ManagerViews.{Members, members_cmp, with_members}
use Rattle.pl_node.proofs.Exports.{among_map, among_mapped, IsAmong}
use Rattle.pl_manager_rule.proofs.Exports.{among_put, members_exact, members_total}
use Rattle.pl_reports.proofs.Exports.{all_in_order, among_put_any, put_all, put_in, same_order}
use Rattle.pl_groups.specs.Rostering.{with_member}

-- ---- the edge switches with members
fold_members : (group : ℕ) (acc : List SwitchId) (ms : Members) →
    fold (with_member group) acc ms ≡ put_all acc (map (λ m. m.0.0) (filter (λ m. m.0.1 == group && m.1) ms))
fold_members group acc [] = refl
fold_members group acc (m ∷ ms) = by (λ xs. fold_members group xs ms) (m.0.1 == group && m.1)
  where
    by : ((xs : List SwitchId) → fold (with_member group) xs ms ≡ put_all xs (map (λ m. m.0.0) (filter (λ m. m.0.1 == group && m.1) ms))) → (b : Bool) →
        fold (with_member group) (cond b (put_in acc m.0.0) acc) ms
        ≡ put_all acc (map (λ m. m.0.0) (cond b (m ∷ filter (λ m. m.0.1 == group && m.1) ms) (filter (λ m. m.0.1 == group && m.1) ms)))
    by rest true = rest (put_in acc m.0.0)
    by rest false = rest acc

pub members_are : (members : Members) (group : ℕ) → fold (with_member group) [] members ≡ with_members members group
members_are members group =
    fold_members group [] members ∙ all_in_order (map (λ m. m.0.0) (filter (λ m. m.0.1 == group && m.1) members))

-- ---- the groups
pub groups_more : (members : Members) (s : SwitchId) (group : ℕ) (any : Bool) →
    groups (insert_entry members_cmp members (s, group) any) ≡ insert_key nat_cmp (groups members) group
groups_more members s group any =
    let after = insert_entry members_cmp members (s, group) any in
    same_order nat_cmp nat_cmp_total exact_unsigned (flood ∷ map (λ m. m.0.1) after) (group ∷ flood ∷ map (λ m. m.0.1) members)
    (λ k h. elim h [
      | inl is ↦ inr (inl is)
      | inr there ↦ let at = among_map (λ (m : (SwitchId × ℕ) × Bool). m.0.1) k after there in
          elim (among_put members_cmp members (s, group) at.0.0 any (among_mapped (λ (m : (SwitchId × ℕ) × Bool). m.0) at.0 after at.1)) [
            | inl is ↦ inl (ap (λ (q : SwitchId × ℕ). q.1) is ∙ at.2)
            | inr before ↦ let was = among_map (λ (m : (SwitchId × ℕ) × Bool). m.0) at.0.0 members before in
                inr (inr (subst (λ n. IsAmong n (map (λ (m : (SwitchId × ℕ) × Bool). m.0.1) members)) (ap (λ (q : SwitchId × ℕ). q.1) was.2 ∙ at.2)
                (among_mapped (λ (m : (SwitchId × ℕ) × Bool). m.0.1) was.0 members was.1)))
          ]
    ])
    (λ k h. elim h [
      | inl is ↦ inr (group_told k (s, group) (among_put_any members_cmp members_total members_exact members (s, group) (s, group) any (inl refl)) is)
      | inr there ↦ elim there [
        | inl is ↦ inl is
        | inr before ↦ let at = among_map (λ (m : (SwitchId × ℕ) × Bool). m.0.1) k members before in
            inr (group_told k at.0.0 (among_put_any members_cmp members_total members_exact members (s, group) at.0.0 any
            (inr (among_mapped (λ (m : (SwitchId × ℕ) × Bool). m.0) at.0 members at.1))) at.2)
      ]
    ])
  where
    group_told : (k : ℕ) (key : SwitchId × ℕ) → IsAmong key (keys_of (insert_entry members_cmp members (s, group) any)) → key.1 ≡ k →
        IsAmong k (map (λ m. m.0.1) (insert_entry members_cmp members (s, group) any))
    group_told k key h is =
        let after = insert_entry members_cmp members (s, group) any in
        let at = among_map (λ (m : (SwitchId × ℕ) × Bool). m.0) key after h in
        subst (λ n. IsAmong n (map (λ (m : (SwitchId × ℕ) × Bool). m.0.1) after)) (ap (λ (q : SwitchId × ℕ). q.1) at.2 ∙ is)
        (among_mapped (λ (m : (SwitchId × ℕ) × Bool). m.0.1) at.0 after at.1)
