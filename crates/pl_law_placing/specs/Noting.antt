-- What aggregation switches note of edge switches that told them a position.
use Rattle.std.specs.Prelude.{◌≡◌, ℕ, true, List, Some}
use Rattle.std.specs.List.{AllByRecursion}
use Rattle.pl_layouts.specs.declared.control.Control.{Control}
use Rattle.pl_wiring.specs.declared.label.Label.TheVariants.{Aggregation, Edge}
use Rattle.pl_wiring.specs.Labels.{IsLabel}
use Rattle.pl_wiring.specs.Plan.{Plan}
use Rattle.pl_node.specs.declared.switch_records.Hold.{Hold}
use Rattle.pl_node.specs.PortRecords.{place_at}
use Rattle.pl_node.specs.SwitchFacts.{hold_at}
use Rattle.pl_node.specs.SwitchViews.{SwitchView}
use Rattle.pl_law_control_plane.specs.ControlPlanes.{AreAdjacent, ControlPlane}
use Rattle.pl_law_votes.specs.Pairs.{IsNoProposal}
use Rattle.pl_law_votes.specs.Voting.{aggregation_no, edge_no}

-- An edge switch, an aggregation switch, its port to it, and the messages that are on their way up. Once a position was told, whatever is held for
-- the edge switch is marked as fixed, and no proposal is on its way.
pub record IsNoted (e a : SwitchView) (q : ℕ) (up : List Control) : Type 0 where
  pub marked : (x y : ℕ) (hold : Hold) → (place_at a q).position ≡ Some x → hold_at a y ≡ Some hold → hold.edge.0 ≡ e.id.0 → hold.fixed ≡ true
  pub silent : (x : ℕ) → (place_at a q).position ≡ Some x → AllByRecursion IsNoProposal up

abbrev pub AreNotedBy : Plan → (ℕ → SwitchView) → (ℕ → ℕ → List Control) → Type 0
AreNotedBy plan view says = (pod i j p q : ℕ) → IsLabel plan.k (Edge pod i) → IsLabel plan.k (Aggregation pod j) →
    AreAdjacent plan (edge_no plan.k pod i) p (aggregation_no plan.k pod j) q →
    IsNoted (view (edge_no plan.k pod i)) (view (aggregation_no plan.k pod j)) q (says (edge_no plan.k pod i) p)

abbrev pub AreNoted : ControlPlane → Type 0
AreNoted f = AreNotedBy f.plan f.view f.says
