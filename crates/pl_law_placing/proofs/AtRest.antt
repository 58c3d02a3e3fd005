-- What follows for worlds at rest.
use Rattle.std.proofs.Common.{◌≡◌, ℕ, ◌/◌, ◌≤◌, Some, ap, arith}
use Rattle.pl_lemmas.proofs.Exports.{all_at}
use Rattle.pl_wiring.specs.declared.label.Label.TheVariants.{Edge}
use Rattle.pl_wiring.specs.Labels.{IsLabel}
use Rattle.pl_node.specs.SwitchViews.{SwitchView}
use Rattle.pl_world.specs.Worlds.{WorldView}
use Rattle.pl_law_control_plane.specs.ControlPlanes.{control_plane, no_switch}
use Rattle.pl_law_invariant.specs.ControlInvariant.{ControlInvariant}
use Rattle.pl_law_votes.specs.Voting.{edge_no}
use Rattle.pl_law_votes.proofs.Exports.{number_there}
use Rattle.pl_law_placing.specs.Placing.{ArePlacing}
use Rattle.pl_law_placing.specs.Resting.{FirstKnowsPod, HasFirst, HavePositions, IsRestingPod, KnowPod}
use Rattle.pl_law_placing.proofs.Resting.{has_first, have_positions, know_pod}

sizes : (w : WorldView) → ControlInvariant w → (pod i : ℕ) → IsLabel w.plan.k (Edge pod i) → ((control_plane w).view (edge_no w.plan.k pod i)).k / 2 ≡ w.plan.k / 2
sizes w kept pod i edge =
    let there = number_there w.plan kept.counted.formed.plan (Edge pod i) edge in
    let many = kept.counted.formed.switches in
    ap (λ k. k / 2) (all_at (λ (v : SwitchView). v.k ≡ w.plan.k) w.switches (edge_no w.plan.k pod i) no_switch (omega (arith, there, many)) kept.counted.formed.ports)

module _ (w : WorldView) (kept : ControlInvariant w) (placing : ArePlacing w) (pod : ℕ) (rests : IsRestingPod (control_plane w) pod) where
  pub world_positions : HavePositions (control_plane w) pod
  world_positions = have_positions (control_plane w) kept.counted.formed.plan kept.placed placing.trying placing.noted pod rests (sizes w kept pod)

  pub world_first : (i : ℕ) → IsLabel w.plan.k (Edge pod i) → ((control_plane w).view (edge_no w.plan.k pod i)).place.level ≡ Some 0 → HasFirst (control_plane w) pod
  world_first = has_first (control_plane w) kept.counted.formed.plan kept.placed placing.trying placing.noted pod rests (sizes w kept pod) kept.voting

  pub world_pods : FirstKnowsPod (control_plane w) pod → KnowPod (control_plane w) pod
  world_pods = know_pod (control_plane w) kept.counted.formed.plan kept.placed placing.trying placing.noted pod rests (sizes w kept pod) kept.voting

-- As many attempts as there are positions are enough, at rest or not.
pub few_attempts : (w : WorldView) → ControlInvariant w → ArePlacing w → (pod i : ℕ) → IsLabel w.plan.k (Edge pod i) →
    ((control_plane w).view (edge_no w.plan.k pod i)).attempt ≤ w.plan.k / 2
few_attempts w kept placing pod i edge =
    let e = edge_no w.plan.k pod i in
    let turn = (placing.parked.turns e).attempt in
    let low = (kept.placed.sound e (number_there w.plan kept.counted.formed.plan (Edge pod i) edge)).able.position in
    let size = sizes w kept pod i edge in
    omega (arith, turn, low, size)
