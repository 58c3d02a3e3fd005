-- Worlds to which a run of the fabric has led from its beginning.
use Rattle.std.specs.Prelude.{List}
use Rattle.pl_wiring.specs.Plan.{Plan}
use Rattle.pl_node.specs.HostInputs.{HostRule}
use Rattle.pl_node.specs.ManagerDuties.{ManagerRule}
use Rattle.pl_node.specs.SwitchInputs.{SwitchRule}
use Rattle.pl_world.specs.declared.limits.Limits.{Limits}
use Rattle.pl_world.specs.Booting.{CanBegin, booted}
use Rattle.pl_world.specs.Runs.{Moment, WorldRun}
use Rattle.pl_world.specs.Worlds.{WorldView}

-- Steps and marks have led to this world from a beginning.
pub record IsOfRun (switch : SwitchRule) (manager : ManagerRule) (host : HostRule) (w : WorldView) : Type 0 where
  pub plan : Plan
  pub limits : Limits
  pub begins : CanBegin plan
  pub moments : List Moment
  pub run : WorldRun switch manager host (booted plan limits) moments w
