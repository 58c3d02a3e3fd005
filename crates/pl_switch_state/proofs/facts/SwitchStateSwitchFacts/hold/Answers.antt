use Rattle.std.proofs.Common.{◌∙◌, ap}
use Rattle.pl_node.specs.SwitchFacts.{holder_of}
use Rattle.pl_node.specs.SwitchViews.{SwitchView}
use Rattle.pl_switch_state.specs.StateViews.{state_view}
use Rattle.pl_switch_state.proofs.facts.SwitchStateSwitchFacts.hold.Goals as goal

pub returns : goal.returns
returns c =
    let s = c.self.inside in
    c.hold.ensures (state_view s.ports s.proposer s.holder s.edge s.avoid s.parts.entries s.epoch)
    ∙ ap (λ (v : SwitchView). holder_of v c.args.position) c.self.view_is
