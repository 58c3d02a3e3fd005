use Rattle.std.proofs.Common.{◌≡◌, [], filter, not, take}
use Rattle.pl_frame.specs.declared.address.SwitchId.{SwitchId}
use Rattle.pl_layouts.specs.Equality.{same_switch}
use Rattle.pl_reports.proofs.Sorting.{put_all}
use Rattle.pl_reports.proofs.edges.without.Given as goal

abbrev pub invariant-loop-other : goal.invariant-loop-other
invariant-loop-other l =
    l.list ≡ put_all [] (filter (λ (t : SwitchId). not (same_switch t l.switch)) (take l.other-index l.switches))
