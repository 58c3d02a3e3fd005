use Rattle.std.proofs.Common.{◌≡◌}
use Rattle.std.specs.List.{fold}
use Rattle.pl_frame.specs.Ethernet.{source_of}
use Rattle.pl_multicast.specs.Changes.{changes_left}
use Rattle.pl_switch_rule.specs.Intake.{changes_member}
use Rattle.pl_edge.specs.Told.{AreChangesNoted}
use Rattle.pl_edge.proofs.membership.change_all.Given as goal

-- the changes so far, and those that are left
abbrev pub invariant-loop-change : goal.invariant-loop-change
invariant-loop-change l = record {
  changed : fold (changes_member l.port (source_of l.frame)) l.members (changes_left l.change-iterator)
      ≡ fold (changes_member l.port (source_of l.frame)) l.initial.members (changes_left l.initial.change-iterator);
  noted : AreChangesNoted l.initial.members l.members l.before;
}
