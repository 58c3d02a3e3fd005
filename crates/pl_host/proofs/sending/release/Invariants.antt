use Rattle.std.proofs.Common.{◌≡◌, ◌++◌, Some, length, map}
use Rattle.std.specs.List.{fold}
use Rattle.pl_node.specs.declared.acts.HostAct.TheVariants.{Send}
use Rattle.pl_node.specs.HostViews.{groups_after}
use Rattle.pl_host_rule.specs.HostRule.{released}
use Rattle.pl_host.proofs.sending.release.Given as goal

abbrev pub invariant-loop-frame : goal.invariant-loop-frame
invariant-loop-frame l = record {
  groups : fold groups_after l.joined (released l.frames (Some l.to)) ≡ fold groups_after l.initial.joined (released l.initial.frames (Some l.to));
  sent : l.out ++ map Send (released l.frames (Some l.to)) ≡ l.initial.out ++ map Send (released l.initial.frames (Some l.to));
}

abbrev pub decreases-loop-frame : goal.decreases-loop-frame
decreases-loop-frame l = length l.frames
