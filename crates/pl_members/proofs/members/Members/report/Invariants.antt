use Rattle.std.proofs.Common.{◌≡◌, ◌++◌, None}
use Rattle.pl_members.proofs.Reported.{told_behind}
use Rattle.pl_members.proofs.members.Members.report.Given as goal

-- what was told so far, and what is left to tell
abbrev pub invariant-loop-member : goal.invariant-loop-member
invariant-loop-member l = l.out ++ told_behind l.last l.member-iterator ≡ l.initial.out ++ told_behind None l.initial.member-iterator
