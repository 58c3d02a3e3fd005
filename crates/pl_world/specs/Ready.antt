-- What a step of a world asks of it, and keeps.
use Rattle.pl_world.specs.Flying.{IsCounted}
use Rattle.pl_world.specs.Hearing.{IsWithinHearing}
use Rattle.pl_world.specs.Worlds.{WorldView}

-- each frame that began has ended once, or is in one place of one queue, and the manager has heard no more than it can
pub record CanStep (w : WorldView) : Type 0 where
  pub counted : IsCounted w
  pub hearing : IsWithinHearing w
