use Rattle.std.proofs.Common.{◌∙◌, ap, refl}
use Rattle.pl_node.specs.SwitchViews.{SwitchView}
use Rattle.pl_switch_rule.specs.Granting.{is_granted}
use Rattle.pl_switch_state.specs.StateViews.{state_view}
use Rattle.pl_switch_state.proofs.Tables.{granted_by}
use Rattle.pl_switch_state.proofs.switch_state.SwitchState.is_granted.Goals as goal

pub returns : goal.returns
returns c =
    let inside = c.self.inside in
    let v : SwitchView = state_view inside.ports inside.proposer inside.holder inside.edge inside.avoid inside.parts.entries inside.epoch in
    c.is_granted.ensures
    ∙ granted_by inside.edge.address_table inside.edge.k v c.args.address c.self.invariant.address_table refl
    ∙ ap (λ w. is_granted w c.args.address) c.self.view_is
