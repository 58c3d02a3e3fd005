use Rattle.std.proofs.Common.{◌≡◌, ◌++◌}
use Rattle.std.specs.List.{flat_map}
use Rattle.pl_edge.specs.Told.{told_since}
use Rattle.pl_edge.proofs.groups_before.GroupsBefore.tell.Given as goal

-- what was told, and what is to be told of the groups that are left
abbrev pub invariant-loop-group : goal.invariant-loop-group
invariant-loop-group l =
    l.out ++ flat_map (told_since l.members) l.group-iterator ≡ l.initial.out ++ flat_map (told_since l.members) l.initial.group-iterator
