use Rattle.std.proofs.Common.{◌∙◌, ap}
use Rattle.std.proofs.lemmas.Iterator.Consumers.{nth_from_yields_List, YieldsList-from_rest}
use Rattle.std.proofs.lemmas.Option.{slice_get-map}
use Rattle.pl_node.specs.SwitchFacts.{group_of_part}
use Rattle.pl_node.specs.SwitchViews.{SwitchView}
use Rattle.pl_switch_state.proofs.facts.SwitchStateSwitchFacts.group.Goals as goal

pub returns : goal.returns
returns c =
    let entries = c.self.inside.parts.entries in
    c.copied.ensures
    ∙ nth_from_yields_List c.nth.result c.nth.new.self c.args.n c.nth.ensures.ran (YieldsList-from_rest _ c.keys.ensures.rest)
    ∙ slice_get-map (λ e. e.0) entries c.args.n
    ∙ ap (λ (v : SwitchView). group_of_part v c.args.n) c.self.view_is
