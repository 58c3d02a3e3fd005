use Rattle.std.proofs.Common.{◌≡◌, None}
use Rattle.std.specs.List.{slice_get}
use Rattle.pl_members.proofs.Grouping.{groups_behind}
use Rattle.pl_members.proofs.members.Members.nth_group.Given as goal

-- the groups that are left to count
abbrev pub invariant-loop-member : goal.invariant-loop-member
invariant-loop-member l =
    slice_get (groups_behind l.last l.member-iterator) l.left ≡ slice_get (groups_behind None l.initial.member-iterator) l.n
