use Rattle.std.proofs.Common.{◌≡◌, map, take}
use Rattle.pl_frame.specs.declared.address.SwitchId.{SwitchId}
use Rattle.pl_node.specs.ManagerViews.{switches}
use Rattle.pl_node.specs.Trees.{part_under}
use Rattle.pl_groups.proofs.tree.parts_under.Given as goal

abbrev pub invariant-loop-i : goal.invariant-loop-i
invariant-loop-i l = l.parts.items ≡ map (λ (s : SwitchId). part_under l.reports l.needed s l.fn.core) (take l.i (switches l.reports))
