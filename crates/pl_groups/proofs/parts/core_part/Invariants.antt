use Rattle.std.proofs.Common.{◌≡◌, ◌==◌, ◌&&◌, [], filter, not, take}
use Rattle.pl_frame.specs.declared.address.SwitchId.{SwitchId}
use Rattle.pl_groups.specs.Serving.{many_served, served_at}
use Rattle.pl_groups.proofs.Reached.{is_adjacent}
use Rattle.pl_reports.proofs.Exports.{put_all}
use Rattle.pl_groups.proofs.parts.core_part.Given as goal

abbrev pub invariant-loop-switch : goal.invariant-loop-switch
invariant-loop-switch l =
    l.down ≡ put_all [] (filter (λ (a : SwitchId). is_adjacent l.reports l.core a && not (many_served (served_at l.reports l.needed a) == 0)) (take l.switch-index l.switch-items))
