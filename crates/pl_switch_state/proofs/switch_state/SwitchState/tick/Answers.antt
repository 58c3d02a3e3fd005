use Rattle.std.proofs.Common.{subst}
use Rattle.pl_edge.proofs.Exports.{on_ok}
use Rattle.pl_steps.specs.Taken.{IsTaken}
use Rattle.pl_switch_rule.specs.Announcing.{ticks}
use Rattle.pl_switch_state.specs.StateViews.{state_view}
use Rattle.pl_switch_state.proofs.Rows.{of_one_still}
use Rattle.pl_switch_state.proofs.Tables.{same_parts}
use Rattle.pl_switch_state.proofs.switch_state.SwitchState.tick.Goals as goal

pub invariant_of-self : goal.invariant_of-self
invariant_of-self c =
    let s = c.self.inside in
    let e = c.tick_both.ensures in
    same_parts c.tick_both.new.ports s.proposer s.holder s.edge c.tick_both.new.edge (record { k = e.hosts; place = e.at })
    (of_one_still s.ports c.tick_both.new.ports s.proposer s.holder s.edge e.k e.place c.self.invariant)

pub returns-clause-taken : goal.returns-clause-taken
returns-clause-taken c =
    let s = c.self.inside in
    on_ok c.tick_both.result
    (λ taken. subst (λ v. IsTaken (ticks v) (state_view c.tick_both.new.ports s.proposer s.holder c.tick_both.new.edge s.avoid s.parts.entries s.epoch)
    c.args.out.now c.tick_both.new.out) c.self.view_is
    (taken s.holder s.avoid s.parts.entries s.epoch c.self.invariant.position c.self.invariant.address_table.at))
    c.tick_both.ensures.taken
