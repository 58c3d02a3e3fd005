use Rattle.std.proofs.Common.{◌∙◌, ap}
use Rattle.pl_node.specs.Hidden.{shown}
use Rattle.pl_node.proofs.avoid_list.AvoidList.copied.Goals as goal

pub returns : goal.returns
returns c = ap (shown c.self.inside.hidden) c.in_ok-rows.ensures ∙ c.self.view_is
