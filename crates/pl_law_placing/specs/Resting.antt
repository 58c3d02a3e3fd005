-- When a pod is at rest: over its links each switch knows what the other one is, and no proposal that is sent again changes anything.
use Rattle.std.specs.Prelude.{◌≡◌, ◌<◌, ℕ, true, false, Some, None}
use Rattle.pl_wiring.specs.declared.label.Label.TheVariants.{Aggregation, Edge}
use Rattle.pl_wiring.specs.Labels.{IsLabel}
use Rattle.pl_node.specs.declared.switch_records.Hold.{Hold}
use Rattle.pl_node.specs.PortRecords.{place_at}
use Rattle.pl_node.specs.SwitchFacts.{has_granted, hold_at}
use Rattle.pl_node.specs.SwitchViews.{SwitchView}
use Rattle.pl_law_control_plane.specs.ControlPlanes.{AreAdjacent, ControlPlane}
use Rattle.pl_law_votes.specs.Voting.{aggregation_no, edge_no}

-- How an aggregation switch answered the proposal of an edge switch: the grant is counted, or the position is held, and not marked as fixed, for
-- another switch, whose id is not smaller.
pub data ProposalIsAnswered (v : SwitchView) (p : ℕ) (u : SwitchView) : Type 0 where
  Counted : has_granted v p ≡ true → ProposalIsAnswered v p u
  Refused : (hold : Hold) → hold_at u v.proposed ≡ Some hold → hold.fixed ≡ false → (hold.edge.0 < v.id.0 → ⊥) → (hold.edge.0 ≡ v.id.0 → ⊥) → ProposalIsAnswered v p u

-- A link at rest, from port p of an edge switch to port q of an aggregation switch.
pub record IsRestingLink (v : SwitchView) (p : ℕ) (u : SwitchView) (q : ℕ) : Type 0 where
  pub told_up : place_at u q ≡ v.place
  pub told_down : place_at v p ≡ u.place
  pub answered : v.place.level ≡ Some 0 → v.place.position ≡ None → ProposalIsAnswered v p u

abbrev pub IsRestingPod : ControlPlane → ℕ → Type 0
IsRestingPod f pod = (i j p q : ℕ) → IsLabel f.plan.k (Edge pod i) → IsLabel f.plan.k (Aggregation pod j) →
    AreAdjacent f.plan (edge_no f.plan.k pod i) p (aggregation_no f.plan.k pod j) q →
    IsRestingLink (f.view (edge_no f.plan.k pod i)) p (f.view (aggregation_no f.plan.k pod j)) q

-- each edge switch of the pod that knows its level has a position
abbrev pub HavePositions : ControlPlane → ℕ → Type 0
HavePositions f pod = (i : ℕ) → IsLabel f.plan.k (Edge pod i) → (f.view (edge_no f.plan.k pod i)).place.level ≡ Some 0 →
    (x : ℕ) × ((f.view (edge_no f.plan.k pod i)).place.position ≡ Some x)

-- an edge switch of the pod has position 0
abbrev pub HasFirst : ControlPlane → ℕ → Type 0
HasFirst f pod = (i : ℕ) × IsLabel f.plan.k (Edge pod i) × ((f.view (edge_no f.plan.k pod i)).place.position ≡ Some 0)

-- each edge switch of the pod that knows its level knows the pod
abbrev pub KnowPod : ControlPlane → ℕ → Type 0
KnowPod f pod = (i : ℕ) → IsLabel f.plan.k (Edge pod i) → (f.view (edge_no f.plan.k pod i)).place.level ≡ Some 0 →
    (n : ℕ) × ((f.view (edge_no f.plan.k pod i)).place.pod ≡ Some n)

-- as far as it has position 0
abbrev pub FirstKnowsPod : ControlPlane → ℕ → Type 0
FirstKnowsPod f pod = (i : ℕ) → IsLabel f.plan.k (Edge pod i) → (f.view (edge_no f.plan.k pod i)).place.position ≡ Some 0 →
    (n : ℕ) × ((f.view (edge_no f.plan.k pod i)).place.pod ≡ Some n)
