use Rattle.std.proofs.Common.{◌∙◌, ap, sym}
use Rattle.pl_node.specs.Hidden.{shown}
use Rattle.pl_node.proofs.Shown.{none_shown}
use Rattle.pl_node.proofs.avoid_list.AvoidList.is_empty.Goals as goal

pub returns : goal.returns
returns c =
    let hidden = c.self.inside.hidden in
    let l = ap (shown hidden) c.rows_or.ensures ∙ c.self.view_is in
    let r = ap (shown hidden) c.new-none.ensures ∙ none_shown hidden in
    (λ u. sym l ∙ c.is_but.ensures.0 u ∙ r, λ e. c.is_but.ensures.1 (l ∙ e ∙ sym r))
