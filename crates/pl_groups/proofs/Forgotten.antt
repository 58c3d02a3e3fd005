-- Of the groups only floods stay.
use Rattle.std.proofs.Common.{◌≡◌, ◌==◌, [], ◌∷◌, map, nat_cmp, sym, inl, inr}
use Rattle.std.specs.List.{filter}
use Rattle.std.specs.List.Sorted.{IsStrictlySortedBy}
use Rattle.std.proofs.lemmas.Bool.{eq-eqb, eqb-true}
use Rattle.std.proofs.lemmas.Cmp.{nat_cmp_total}
use Rattle.std.proofs.lemmas.List.Kept.{IsStrictlySortedBy-filter}
use Rattle.std.proofs.lemmas.Map.Lookups.{exact_unsigned}
use Rattle.pl_layouts.specs.Memberships.{flood}
use Rattle.pl_node.specs.ManagerFacts.{groups}
use Rattle.pl_node.specs.ManagerViews.{Members}
use Rattle.pl_node.proofs.Exports.{among_filter, among_filtered, among_in_order}
use Rattle.pl_manager_rule.proofs.Exports.{groups_rise}
use Rattle.pl_reports.proofs.Exports.{same_rising}

pub only_floods : (members : Members) → filter (λ g. g == flood) (groups members) ≡ groups []
unfolding IsStrictlySortedBy
only_floods members =
    same_rising nat_cmp nat_cmp_total exact_unsigned (filter (λ g. g == flood) (groups members)) (groups [])
    (IsStrictlySortedBy-filter nat_cmp (λ g. g == flood) (groups members) (groups_rise members)) (tt, tt)
    (λ k h. inl (sym (eqb-true k flood (among_filter (λ g. g == flood) k (groups members) h).1)))
    (λ k h. elim h [
      | inl is ↦ among_filtered (λ g. g == flood) k (groups members)
          (among_in_order nat_cmp exact_unsigned k (flood ∷ map (λ m. m.0.1) members) (inl is)) (eq-eqb k flood (sym is))
      | inr none ↦ absurd none
    ])
