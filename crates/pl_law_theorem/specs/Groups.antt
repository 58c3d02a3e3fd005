-- What frames of groups give.
use Rattle.std.specs.Prelude.{List}
use Rattle.pl_wiring.specs.Plan.{Plan}
use Rattle.pl_node.specs.HostInputs.{HostRule}
use Rattle.pl_manager_rule.specs.WholeRule.{whole_rule}
use Rattle.pl_switch_rule.specs.SwitchRule.{Loose}
use Rattle.pl_world.specs.declared.limits.Limits.{Limits}
use Rattle.pl_world.specs.Booting.{booted}
use Rattle.pl_world.specs.Runs.{Moment, WorldRun}
use Rattle.pl_world.specs.Worlds.{WorldView}
use Rattle.pl_law_copies.specs.Standing.{KnowTrees}
use Rattle.pl_law_flights.specs.Given.{AreMembersByThePast, GroupsComeFirst}

-- A frame of a group comes out of a port for hosts as the first of its root, and a host that keeps one is a member; switches know the trees of groups.
pub record GroupsArriveWell (host : HostRule) (w : WorldView) : Type 0 where
  pub first : GroupsComeFirst w
  pub members : AreMembersByThePast host w
  pub trees : KnowTrees w

-- so it is in every run
abbrev pub GroupsAreWell : HostRule → Plan → Limits → Type 0
GroupsAreWell host plan limits = (moments : List Moment) (w : WorldView) → WorldRun Loose whole_rule host (booted plan limits) moments w → GroupsArriveWell host w
