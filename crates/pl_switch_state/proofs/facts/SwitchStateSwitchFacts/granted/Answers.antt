use Rattle.std.proofs.Common.{◌∙◌, ap}
use Rattle.pl_node.specs.SwitchFacts.{has_granted}
use Rattle.pl_node.specs.SwitchViews.{SwitchView}
use Rattle.pl_switch_state.specs.StateViews.{state_view}
use Rattle.pl_switch_state.proofs.facts.SwitchStateSwitchFacts.granted.Goals as goal

pub returns : goal.returns
returns c =
    let s = c.self.inside in
    c.granted.ensures (state_view s.ports s.proposer s.holder s.edge s.avoid s.parts.entries s.epoch)
    ∙ ap (λ (v : SwitchView). has_granted v c.args.port) c.self.view_is
