use Rattle.std.proofs.Common.{subst}
use Rattle.pl_edge.proofs.Exports.{on_ok}
use Rattle.pl_steps.specs.Taken.{IsTaken}
use Rattle.pl_switch_rule.specs.Positions.{hears_proposal}
use Rattle.pl_switch_state.specs.StateViews.{state_view}
use Rattle.pl_switch_state.proofs.switch_state.SwitchState.hear_proposal.Goals as goal

pub invariant_of-self : goal.invariant_of-self
invariant_of-self c = record {
  hosts = c.self.invariant.hosts;
  votes = c.self.invariant.votes;
  positions = c.answer_proposal.ensures.positions;
  holders = c.answer_proposal.ensures.holders;
  position = c.self.invariant.position;
  address_table = c.self.invariant.address_table;
}

pub returns-clause-taken : goal.returns-clause-taken
returns-clause-taken c =
    let s = c.self.inside in
    on_ok c.answer_proposal.result
    (λ taken. subst (λ v. IsTaken (hears_proposal v c.args.port c.args.edge c.args.proposal)
    (state_view s.ports s.proposer c.answer_proposal.new.holder s.edge s.avoid s.parts.entries s.epoch) c.args.out.now c.answer_proposal.new.out) c.self.view_is
    (taken s.proposer s.edge s.avoid s.parts.entries s.epoch))
    c.answer_proposal.ensures.taken
