-- A run in which a frame is sure.
use Rattle.std.specs.Prelude.{◌≡◌, Contains, List}
use Rattle.pl_journal.specs.declared.entry.Entry.TheVariants.{Arrived}
use Rattle.pl_journal.specs.Flights.{ends}
use Rattle.pl_host_rule.specs.HostRule.{host_rule}
use Rattle.pl_manager_rule.specs.WholeRule.{whole_rule}
use Rattle.pl_switch_rule.specs.SwitchRule.{Exact}
use Rattle.pl_world.specs.Runs.{Moment, WorldRun}
use Rattle.pl_world.specs.Worlds.{WorldView}
use Rattle.pl_law_arrival.specs.SureFrames.{IsSure}
use Rattle.pl_examples.specs.ExampleFrames.{a_to_b_arrived}
use Rattle.pl_examples.specs.FirstPath.{b}
use Rattle.pl_sure_example.specs.Scene.{start}

-- From the beginning of the fabric a run leads to a world from which on frame 3 of the first host to the second one is sure, until it has ended. It
-- has arrived there.
pub record IsWorked : Type 0 where
  pub before : List Moment
  pub moments : List Moment
  pub old : WorldView
  pub ended : WorldView
  pub run : WorldRun Exact whole_rule host_rule start before old
  pub sure : IsSure Exact whole_rule host_rule old moments ended 3 0 1
  pub once : ends ended.journal 3 ≡ 1
  pub arrived : Contains ended.journal (Arrived 3 b a_to_b_arrived)
