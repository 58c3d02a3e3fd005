use Rattle.std.proofs.Common.{Some, ap}
use Rattle.pl_node.specs.Hidden.{shown}
use Rattle.pl_node.proofs.avoid_list.AvoidList.hiding.Goals as goal

pub returns : goal.returns
returns c = ap (shown (Some c.args.hidden)) c.in_ok-rows.ensures
