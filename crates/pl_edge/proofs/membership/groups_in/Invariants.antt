use Rattle.std.proofs.Common.{◌≡◌, ◌-◌, length, take}
use Rattle.pl_switch_rule.specs.Intake.{groups_of}
use Rattle.pl_edge.proofs.membership.groups_in.Given as goal

abbrev pub invariant-loop-group : goal.invariant-loop-group
invariant-loop-group l = l.groups.items ≡ take (length l.groups.items) (groups_of l.members)

abbrev pub decreases-loop-group : goal.decreases-loop-group
decreases-loop-group l = length (groups_of l.members) - length l.groups.items
