use Rattle.std.proofs.Common.{◌≡◌, fold}
use Rattle.pl_groups.specs.Rostering.{with_member}
use Rattle.pl_groups.proofs.roster.Roster.with_members.Given as goal

abbrev pub invariant-loop-key : goal.invariant-loop-key
invariant-loop-key l =
    fold (with_member l.group) l.edges l.key-iterator ≡ fold (with_member l.group) l.initial.edges l.initial.key-iterator
