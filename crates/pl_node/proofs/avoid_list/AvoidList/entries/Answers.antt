use Rattle.std.proofs.Common.{◌∙◌, ap}
use Rattle.pl_node.specs.Hidden.{shown}
use Rattle.pl_node.proofs.avoid_list.AvoidList.entries.Goals as goal

pub returns : goal.returns
returns c =
    c.in_ok-left.ensures.whole ∙ ap (shown c.self.inside.hidden) (c.in_ok-list.ensures ∙ c.rows_or.ensures) ∙ c.self.view_is
