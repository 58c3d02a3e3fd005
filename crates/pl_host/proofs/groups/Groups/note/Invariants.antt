use Rattle.std.proofs.Common.{◌≡◌}
use Rattle.std.specs.List.{fold}
use Rattle.pl_node.specs.HostViews.{groups_after_change}
use Rattle.pl_multicast.specs.Changes.{changes_left}
use Rattle.pl_host.proofs.groups.Groups.note.Given as goal

abbrev pub invariant-loop-change : goal.invariant-loop-change
invariant-loop-change l =
    fold groups_after_change l.self (changes_left l.change-iterator)
    ≡ fold groups_after_change l.initial.self (changes_left l.initial.change-iterator)
