-- Edge switches at their places.
use Rattle.std.specs.Prelude.{◌≡◌, ℕ, true, reverse, Some}
use Rattle.pl_layouts.specs.declared.place.Place.{Place}
use Rattle.pl_wiring.specs.declared.label.Label.TheVariants.{Edge}
use Rattle.pl_wiring.specs.Labels.{IsLabel}
use Rattle.pl_law_control_plane.specs.ControlPlanes.{control_plane}
use Rattle.pl_law_votes.specs.Voting.{edge_no}
use Rattle.pl_world.specs.Worlds.{WorldView}
use Rattle.pl_law_placing.specs.Receiving.{has_received}

-- level 0, a position and a pod
pub record IsWholePlace (place : Place) : Type 0 where
  pub position : ℕ
  pub pod : ℕ
  pub known : place ≡ record { level = Some 0; position = Some position; pod = Some pod }

-- each edge switch of a pod that received a frame of a host knows all of its place
abbrev pub ReceiversArePlaced : WorldView → ℕ → Type 0
ReceiversArePlaced w pod = (i : ℕ) → IsLabel w.plan.k (Edge pod i) → has_received (reverse w.journal) (edge_no w.plan.k pod i) ≡ true →
    IsWholePlace ((control_plane w).view (edge_no w.plan.k pod i)).place
