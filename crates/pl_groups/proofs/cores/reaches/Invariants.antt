use Rattle.std.proofs.Common.{◌≡◌, filter, map, take}
use Rattle.pl_frame.specs.declared.address.SwitchId.{SwitchId}
use Rattle.pl_node.specs.ManagerViews.{has_level, switches}
use Rattle.pl_groups.specs.Reaching.{IsReachOf, reach_at}
use Rattle.pl_groups.proofs.cores.reaches.Given as goal

abbrev pub invariant-loop-i : goal.invariant-loop-i
invariant-loop-i l =
    (l.reaches.items ≡ map (reach_at l.reports l.needed) (filter (λ (c : SwitchId). has_level l.reports c 2) (take l.i (switches l.reports))))
    × IsReachOf l.reports l.needed l.last
