-- A pod that lacks no link.
use Rattle.std.specs.Prelude.{◌≡◌, ℕ, true}
use Rattle.pl_wiring.specs.declared.label.Label.TheVariants.{Aggregation, Edge}
use Rattle.pl_wiring.specs.Labels.{IsLabel}
use Rattle.pl_wiring.specs.LiveLinks.{is_live_at}
use Rattle.pl_law_control_plane.specs.ControlPlanes.{AreAdjacent}
use Rattle.pl_law_votes.specs.Voting.{aggregation_no, edge_no}
use Rattle.pl_world.specs.Worlds.{WorldView}

-- Each link between an edge switch and an aggregation switch of the pod is live.
abbrev pub IsWholePod : WorldView → ℕ → Type 0
IsWholePod w pod = (i j p q : ℕ) → IsLabel w.plan.k (Edge pod i) → IsLabel w.plan.k (Aggregation pod j) →
    AreAdjacent w.plan (edge_no w.plan.k pod i) p (aggregation_no w.plan.k pod j) q → is_live_at w.links (edge_no w.plan.k pod i) p ≡ true
