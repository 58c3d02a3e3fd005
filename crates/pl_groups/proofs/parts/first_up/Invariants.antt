use Rattle.std.proofs.Common.{◌≡◌, ◌&&◌, None, take}
use Rattle.std.specs.List.{find}
use Rattle.pl_frame.specs.declared.address.SwitchId.{SwitchId}
use Rattle.pl_node.specs.ManagerViews.{has_level, has_pod, is_alive}
use Rattle.pl_groups.proofs.parts.first_up.Given as goal

abbrev pub invariant-loop-neighbour : goal.invariant-loop-neighbour
invariant-loop-neighbour l =
    find (λ (a : SwitchId). has_level l.reports a 1 && (has_pod l.reports a l.pod && is_alive l.reports a l.root.core)) (take l.neighbour-index l.alive) ≡ None
