-- What more holds in every run of how edge switches come to their places.
use Rattle.std.specs.Prelude.{ℕ, reverse}
use Rattle.pl_law_control_plane.specs.ControlPlanes.{control_plane}
use Rattle.pl_world.specs.Worlds.{WorldView}
use Rattle.pl_law_placing.specs.Bounding.{IsBounded}
use Rattle.pl_law_placing.specs.Noting.{AreNoted}
use Rattle.pl_law_placing.specs.Parking.{AreParked}
use Rattle.pl_law_placing.specs.Receiving.{HaveCrossed, HaveLevels}
use Rattle.pl_law_placing.specs.Trying.{AreTrying}

pub record ArePlacing (w : WorldView) : Type 0 where
  -- positions are refused and left for a reason
  pub trying : AreTrying (control_plane w)
  -- none goes on from a position that nobody else has or tries
  pub parked : AreParked (control_plane w)
  -- told positions are noted
  pub noted : AreNoted (control_plane w)
  -- there are no more attempts than steps
  pub bounded : (s : ℕ) → IsBounded w.steps ((control_plane w).view s)
  -- what waits behind ports crossed a switch, and switches that received a frame of a host have level 0
  pub crossed : HaveCrossed (reverse w.journal) w.out w.begun
  pub levels : HaveLevels w
