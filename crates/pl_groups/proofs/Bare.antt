-- Trees in which no switch has a part, and groups that need no edge switch.
use Rattle.std.proofs.Common.{◌≡◌, ℕ, ◌==◌, not, true, cond, List, [], ◌∷◌, length, Option, None, refl, sym, ap, ◌∙◌}
use Rattle.std.specs.List.{filter}
use Rattle.std.proofs.Math.Dec.{eqb-suc-zero}
use Rattle.std.proofs.lemmas.Bool.{false≢true}
use Rattle.pl_frame.specs.declared.address.SwitchId.{SwitchId}
use Rattle.pl_node.specs.declared.messages.TreePart.{TreePart}
use Rattle.pl_node.specs.ManagerViews.{Members, Told}
use Rattle.pl_node.specs.Trees.{core_for, core_of, needed_edges, tree_part}
use Rattle.pl_manager_rule.specs.ManagerRule.{same_part}
use Rattle.pl_groups.proofs.Branches.{no_core_no_part}

pub none_differs : (before after : SwitchId → Option TreePart) → ((s : SwitchId) → before s ≡ None) → ((s : SwitchId) → after s ≡ None) →
    (xs : List SwitchId) → [] ≡ filter (λ s. not (same_part (before s) (after s))) xs
none_differs before after was is [] = refl
none_differs before after was is (x ∷ xs) =
    let rest = filter (λ s. not (same_part (before s) (after s))) xs in
    none_differs before after was is xs ∙ sym (λ i. cond (not (same_part (was x i) (is x i))) (x ∷ rest) rest)

pub nothing_in : (xs : List SwitchId) → (length xs == 0) ≡ true → xs ≡ []
nothing_in [] h = refl
nothing_in (x ∷ xs) h = absurd (false≢true (sym (eqb-suc-zero (length xs)) ∙ h))

module _ (told : Told) (members : Members) (group : ℕ) (needed : List SwitchId) (is : needed ≡ needed_edges told members group)
    (none : (length needed == 0) ≡ true) where
  pub no_core : None ≡ core_of told members group
  unfolding core_of
  no_core = ap (core_for told group) (sym (nothing_in needed none) ∙ is)

  pub no_parts : (s : SwitchId) → tree_part told members group s ≡ None
  no_parts s = sym (no_core_no_part told members group s (sym no_core))
