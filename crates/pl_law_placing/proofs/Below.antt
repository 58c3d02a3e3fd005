-- The switches below an aggregation switch, and what is known of them.
use Rattle.std.proofs.Common.{◌≡◌, ℕ, ◌<◌, Some, refl, sym, ◌∙◌, ap, subst, arith}
use Rattle.pl_wiring.specs.declared.label.Label.{Label}
use Rattle.pl_wiring.specs.declared.label.Label.TheVariants.{Aggregation, Core, Edge}
use Rattle.pl_wiring.specs.Labels.{IsLabel, label_of, number_of}
use Rattle.pl_wiring.specs.Plan.{IsPlan, Plan}
use Rattle.pl_wiring.proofs.Exports.{half_at_least, label_of-IsLabel, label_of-number_of, number_of-label_of}
use Rattle.pl_law_control_plane.specs.ControlPlanes.{AreAdjacent}
use Rattle.pl_law_control_plane.proofs.Exports.{adjacent_labels, adjacent_there}
use Rattle.pl_law_places.specs.Known.{pod_of}
use Rattle.pl_law_places.proofs.Exports.{near_edge, turned_below}
use Rattle.pl_law_votes.specs.Voting.{aggregation_no, edge_no}
use Rattle.pl_journal.specs.Flights.{label_level}

-- an edge switch of this pod
pub record IsEdgeAt (k pod s : ℕ) : Type 0 where
  pub i : ℕ
  pub edge : IsLabel k (Edge pod i)
  pub at : s ≡ edge_no k pod i

edge_of : (k pod s : ℕ) (label : Label) → label_of k s ≡ label → IsLabel k label → label_level label ≡ 0 → pod_of label ≡ Some pod → IsEdgeAt k pod s
edge_of k pod s (Edge other i) is within level of =
    let same : other ≡ pod = cc of in
    record {
      i = i;
      edge = (subst (λ x. x < k) same within.0, within.1);
      at = sym (number_of-label_of k s) ∙ ap (λ l. number_of k l) is ∙ ap (λ x. number_of k (Edge x i)) same;
    }
edge_of k pod s (Aggregation other j) is within level of = absurd (omega (arith, level))
edge_of k pod s (Core group m) is within level of = absurd (omega (arith, level))

-- a switch of level 0 that is joined to an aggregation switch is an edge switch of its pod
pub edge_adjacent : (plan : Plan) (t q pod j port : ℕ) → IsPlan plan → IsLabel plan.k (Aggregation pod j) → AreAdjacent plan t q (aggregation_no plan.k pod j) port →
    0 ≡ label_level (label_of plan.k t) → IsEdgeAt plan.k pod t
edge_adjacent plan t q pod j port is label adjacent level =
    let a = aggregation_no plan.k pod j in
    let two = half_at_least plan.k is.arity in
    let there = adjacent_there plan t q a port is adjacent in
    let near = near_edge (label_of plan.k a) (label_of plan.k t) (turned_below (label_of plan.k t) (label_of plan.k a) (adjacent_labels plan t q a port is adjacent)) (sym level) in
    edge_of plan.k pod t (label_of plan.k t) refl (label_of-IsLabel plan.k t (omega (arith, two)) there.0) (sym level)
    (sym near.1 ∙ ap pod_of (label_of-number_of plan.k (Aggregation pod j) label))
