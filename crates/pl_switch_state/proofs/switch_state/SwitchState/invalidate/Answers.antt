use Rattle.std.proofs.Common.{◌∙◌, ap}
use Rattle.pl_node.specs.SwitchViews.{SwitchView}
use Rattle.pl_layouts.specs.Placement.{is_known}
use Rattle.pl_switch_rule.specs.Granting.{held_here}
use Rattle.pl_switch_rule.specs.Messages.{invalidates}
use Rattle.pl_switch_state.proofs.Agreeing.{may_be}
use Rattle.pl_switch_state.proofs.Tables.{granted_edge, same_address_table_at, same_parts, taken_by_table}
use Rattle.pl_switch_state.proofs.switch_state.SwitchState.invalidate.Goals as goal

pub invariant_of-self : goal.invariant_of-self
invariant_of-self c =
    let inside = c.self.inside in
    same_parts inside.ports inside.proposer inside.holder inside.edge c.invalidate.new.self
    (record { k = c.invalidate.ensures.k; place = c.invalidate.ensures.place }) c.self.invariant

pub returns-clause-taken : goal.returns-clause-taken
returns-clause-taken c =
    let inside = c.self.inside in
    let after = c.invalidate.new.self in
    taken_by_table c.args.self.now inside.ports inside.proposer inside.holder inside.edge after inside.avoid inside.parts.entries inside.epoch
    (λ u. invalidates u c.args.old c.args.to (held_here u c.args.old)) c.args.out.now c.invalidate.new.out c.invalidate.result
    c.self.view_is c.self.invariant.address_table
    (same_address_table_at inside.edge after inside.ports.place (record { k = c.invalidate.ensures.k; place = c.invalidate.ensures.place }) c.self.invariant.address_table)
    (may_be inside.edge.address_table inside.ports.place c.self.invariant.address_table
    (ap (λ (v : SwitchView). is_known v.place.level 0) c.self.view_is ∙ granted_edge c.args.self.now c.args.old c.requires))
    c.invalidate.ensures.taken
