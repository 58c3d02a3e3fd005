use Rattle.std.proofs.Common.{◌≡◌, [], Some, filter, not, take}
use Rattle.std.specs.Option.{option_copied}
use Rattle.pl_frame.specs.declared.address.SwitchId.{SwitchId}
use Rattle.pl_manager_rule.specs.ManagerRule.{same_part}
use Rattle.pl_groups.specs.Kept.{part_in_tree}
use Rattle.pl_reports.proofs.Exports.{put_all}
use Rattle.pl_groups.proofs.groups.changed.Given as goal

abbrev pub invariant-loop-i : goal.invariant-loop-i
invariant-loop-i l =
    l.changed ≡ put_all [] (filter (λ (s : SwitchId). not (same_part (part_in_tree (option_copied l.before) s) (part_in_tree (Some l.after) s))) (take l.i l.switches))
