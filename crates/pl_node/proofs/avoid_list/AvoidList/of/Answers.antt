use Rattle.std.proofs.Common.{◌∙◌}
use Rattle.pl_node.proofs.Shown.{all_shown}
use Rattle.pl_node.proofs.avoid_list.AvoidList.of.Goals as goal

pub returns : goal.returns
returns c = all_shown _ ∙ c.in_ok-rows.ensures.ok
