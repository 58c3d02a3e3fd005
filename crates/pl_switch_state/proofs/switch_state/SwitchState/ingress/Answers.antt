use Rattle.std.proofs.Common.{◌∙◌, ap}
use Rattle.pl_node.specs.SwitchViews.{SwitchView}
use Rattle.pl_layouts.specs.Placement.{is_known}
use Rattle.pl_switch_state.proofs.Agreeing.{may_be}
use Rattle.pl_switch_state.proofs.Tables.{begun_by_table, same_address_table_at, same_parts, stands}
use Rattle.pl_switch_state.proofs.switch_state.SwitchState.ingress.Goals as goal

pub invariant_of-self : goal.invariant_of-self
invariant_of-self c =
    let inside = c.self.inside in
    same_parts inside.ports inside.proposer inside.holder inside.edge c.ingress.new.self (stands inside.edge c.ingress.new.self c.ingress.ensures.kept) c.self.invariant

pub returns-clause-begun : goal.returns-clause-begun
returns-clause-begun c =
    let inside = c.self.inside in
    let after = c.ingress.new.self in
    begun_by_table c.args.self.now inside.ports inside.proposer inside.holder inside.edge after inside.avoid inside.parts.entries inside.epoch
    c.args.port c.args.frame.now c.ingress.new.frame c.args.out.now c.ingress.new.out c.ingress.result
    c.self.view_is c.self.invariant.address_table (same_address_table_at inside.edge after inside.ports.place (stands inside.edge after c.ingress.ensures.kept) c.self.invariant.address_table)
    (may_be inside.edge.address_table inside.ports.place c.self.invariant.address_table (ap (λ (v : SwitchView). is_known v.place.level 0) c.self.view_is ∙ c.requires.edge))
    c.ingress.ensures.begun
