use Rattle.std.proofs.Common.{◌≡◌}
use Rattle.pl_multicast.specs.Changes.{changes_left}
use Rattle.pl_past_tables.specs.declared.keys.Member.{Member}
use Rattle.pl_past_tables.specs.Groups.{joined_in, says}
use Rattle.pl_past_tables.proofs.groups.hear.Given as goal

-- what is said by now, and what is still to be said, is all that the frame says
abbrev pub invariant-loop-change : goal.invariant-loop-change
invariant-loop-change l = (k : Member) →
    says l.host (changes_left l.change-iterator) k (joined_in l.members.said.entries k)
    ≡ says l.host (changes_left l.initial.change-iterator) k (joined_in l.initial.members.said.entries k)
