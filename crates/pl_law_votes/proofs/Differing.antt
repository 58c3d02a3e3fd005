-- Where votes are in order, fixed positions are held by more than half of a pod, and those of a pod differ.
use Rattle.std.proofs.Common.{◌≡◌, ℕ, ◌+◌, ◌/◌, ◌<◌, true, List, Some, sym, ◌∙◌, ap, subst, arith, inl, inr}
use Rattle.std.proofs.lemmas.Bool.{cases_eq, cases_lt}
use Rattle.pl_frame.specs.declared.address.SwitchId.{SwitchId}
use Rattle.pl_layouts.specs.declared.control.Control.{Control}
use Rattle.pl_wiring.specs.declared.label.Label.{Label}
use Rattle.pl_wiring.specs.declared.label.Label.TheVariants.{Edge}
use Rattle.pl_wiring.specs.Labels.{IsLabel, edge_count, label_of, number_of}
use Rattle.pl_wiring.specs.Plan.{IsPlan, Plan}
use Rattle.pl_wiring.proofs.Exports.{half_at_least, label_of-aggregation, label_of-core, label_of-IsLabel, number_of-label_of}
use Rattle.pl_node.specs.SwitchFacts.{hold_at}
use Rattle.pl_node.specs.SwitchViews.{SwitchView}
use Rattle.pl_switch_rule.specs.Positions.{is_held_for}
use Rattle.pl_law_votes.specs.Voting.{FixedAreApart, FixedAreHeld, IsVoting, aggregation_no, edge_no}
use Rattle.pl_law_votes.proofs.Majority.{held_by_most_once, most_hold}
use Rattle.pl_law_votes.proofs.Wired.{ids_differ, number_there}

pub fixed_are_held : (plan : Plan) (view : ℕ → SwitchView) (says : ℕ → ℕ → List Control) → IsPlan plan → IsVoting plan view says → FixedAreHeld plan view
fixed_are_held plan view says is v pod i q edge fixed =
    let e = edge_no plan.k pod i in
    most_hold plan pod e q view is (v.counting pod i edge) fixed (λ p lead granted.
    let pair = v.pairs pod i lead.0 p lead.2 edge (edge.0, lead.1) lead.3 in
    subst (λ x. is_held_for (view e).id (hold_at (view (aggregation_no plan.k pod lead.0)) x) ≡ true) (sym (pair.fixed q fixed)) (pair.counted granted).held)

-- a switch with an edge label is an edge switch of the tree
edge_label : (k s pod i : ℕ) → 0 < k / 2 → label_of k s ≡ Edge pod i → IsLabel k (Edge pod i) × (s ≡ edge_no k pod i)
edge_label k s pod i half is = elim (cases_lt s (edge_count k)) [
  | inl low ↦
      (subst (λ (x : Label). IsLabel k x) is (label_of-IsLabel k s half (omega (arith, low))), sym (number_of-label_of k s) ∙ ap (number_of k) is)
  | inr high ↦ elim (cases_lt s (edge_count k + edge_count k)) [
    | inl low ↦ let other = label_of-aggregation k s high low in absurd (cc (is, other))
    | inr higher ↦ let other = label_of-core k s higher in absurd (cc (is, other))
  ]
]

pub fixed_are_apart : (plan : Plan) (view : ℕ → SwitchView) (says : ℕ → ℕ → List Control) → IsPlan plan → IsVoting plan view says → FixedAreApart plan view
fixed_are_apart plan view says is v pod i j q s t is_s is_t fixed also =
    let two = half_at_least plan.k is.arity in
    let one = edge_label plan.k s pod i (omega (arith, two)) is_s in
    let other = edge_label plan.k t pod j (omega (arith, two)) is_t in
    let e = edge_no plan.k pod i in let d = edge_no plan.k pod j in
    let held = fixed_are_held plan view says is v pod i q one.0 (subst (λ x. (view x).place.position ≡ Some q) one.1 fixed) in
    let held_too = fixed_are_held plan view says is v pod j q other.0 (subst (λ x. (view x).place.position ≡ Some q) other.1 also) in
    let ids = held_by_most_once plan.k pod q view (view e).id (view d).id held held_too in
    elim (cases_eq e d) [
      | inl same ↦ one.1 ∙ same ∙ sym other.1
      | inr differ ↦ absurd (ids_differ plan is e d (number_there plan is (Edge pod i) one.0) (number_there plan is (Edge pod j) other.0) differ
          (ap (λ (x : SwitchId). x.0) (sym (v.ids e)) ∙ ids ∙ ap (λ (x : SwitchId). x.0) (v.ids d)))
    ]
