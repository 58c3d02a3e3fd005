use Rattle.std.proofs.Common.{◌≡◌, ◌++◌, take}
use Rattle.std.specs.List.{flat_map}
use Rattle.pl_edge.specs.Told.{told_if_none}
use Rattle.pl_edge.proofs.membership.tell_emptied.Given as goal

abbrev pub invariant-loop-group : goal.invariant-loop-group
invariant-loop-group l = l.out ≡ l.initial.out ++ flat_map (told_if_none l.members) (take l.group-index l.groups)
