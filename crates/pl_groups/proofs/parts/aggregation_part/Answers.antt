use Rattle.std.proofs.Common.{List, Some, ap}
use Rattle.pl_frame.specs.declared.address.SwitchId.{SwitchId}
use Rattle.pl_node.specs.declared.messages.TreePart.{TreePart}
use Rattle.pl_groups.proofs.parts.aggregation_part.Goals as goal

pub returns : goal.returns
returns c = ap (λ (xs : List SwitchId). let part : TreePart = record { up = Some c.args.core; down = xs } in part) c.in_ok-down.ensures
