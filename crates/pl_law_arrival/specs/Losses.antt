-- When a lose event takes a frame from its queue.
use Rattle.std.specs.Prelude.{ℕ}
use Rattle.pl_world.specs.declared.event.Event.{Event}
use Rattle.pl_world.specs.declared.event.Event.TheVariants as event
use Rattle.pl_world.specs.Drops.{IsTakenAway}
use Rattle.pl_world.specs.Runs.{Moment}
use Rattle.pl_world.specs.Runs.Moment.{Mark, Step}
use Rattle.pl_world.specs.Worlds.{WorldView}

abbrev pub IsLostBy : WorldView → Event → ℕ → Type 0
IsLostBy w (event.Lose s port) id = IsTakenAway w s.0 port id
IsLostBy w happens id = ⊥

-- at a moment of a run
abbrev pub IsLostAt : WorldView → Moment → ℕ → Type 0
IsLostAt w (Step happens) id = IsLostBy w happens id
IsLostAt w (Mark entry) id = ⊥
