use Rattle.std.proofs.Common.{subst}
use Rattle.std.specs.Prelude.{◌↔◌, IsTrue}
use Rattle.pl_node.specs.SwitchFacts.{IsAnnounced}
use Rattle.pl_node.specs.SwitchViews.{SwitchView}
use Rattle.pl_switch_state.specs.StateViews.{state_view}
use Rattle.pl_switch_state.proofs.facts.SwitchStateSwitchFacts.announces.Goals as goal

pub returns : goal.returns
returns c =
    let s = c.self.inside in
    subst (λ (v : SwitchView). IsTrue c.announces.result ↔ IsAnnounced v c.args.port c.args.frame.now) c.self.view_is
    (c.announces.ensures (state_view s.ports s.proposer s.holder s.edge s.avoid s.parts.entries s.epoch))
