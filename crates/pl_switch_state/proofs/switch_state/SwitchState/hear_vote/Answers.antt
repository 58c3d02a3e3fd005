use Rattle.std.proofs.Common.{◌/◌, ap, sym, ◌∙◌}
use Rattle.pl_edge.proofs.Exports.{on_ok}
use Rattle.pl_node.specs.SwitchViews.{SwitchView}
use Rattle.pl_switch_rule.specs.Positions.{after_vote}
use Rattle.pl_ports.specs.PortsViews.{ports_alone}
use Rattle.pl_switch_state.specs.StateViews.{state_view}
use Rattle.pl_switch_state.proofs.Rows.{address_table_before, grows_before, row_settled}
use Rattle.pl_switch_state.proofs.Votes.{vote_counted}
use Rattle.pl_switch_state.proofs.switch_state.SwitchState.hear_vote.Goals as goal

pub settle-requires-clause-address_table : goal.settle-requires-clause-address_table
settle-requires-clause-address_table c = address_table_before c.self.inside.ports (ports_alone c.self.inside.ports) c.standing-before.result c.self.inside.edge.address_table (c.standing-before.ensures (ports_alone c.self.inside.ports)) c.self.invariant.address_table

pub settle-requires-clause-grows : goal.settle-requires-clause-grows
settle-requires-clause-grows c =
    grows_before c.self.inside.ports (ports_alone c.self.inside.ports) c.standing-before.result c.count_vote.new.ports.place (c.standing-before.ensures (ports_alone c.self.inside.ports)) c.count_vote.ensures.grows

pub settle-requires-clause-hosts : goal.settle-requires-clause-hosts
settle-requires-clause-hosts c = c.self.invariant.hosts ∙ sym c.count_vote.ensures.k

pub invariant_of-self : goal.invariant_of-self
invariant_of-self c = record {
  hosts = c.settle.ensures.hosts;
  votes = c.settle.ensures.votes;
  positions = c.self.invariant.positions ∙ ap (λ k. k / 2) (sym (c.settle.ensures.k ∙ c.count_vote.ensures.k));
  holders = c.self.invariant.holders;
  position = c.settle.ensures.position;
  address_table = c.settle.ensures.address_table;
}

pub returns-clause-taken : goal.returns-clause-taken
returns-clause-taken c =
    let s = c.self.inside in
    let avoid = s.avoid in
    let parts = s.parts.entries in
    let epoch = s.epoch in
    on_ok c.settle.result
    (λ taken. row_settled c.args.self.now s.ports c.count_vote.new.ports s.proposer c.count_vote.new.proposer s.holder s.holder s.edge avoid parts epoch (λ u. after_vote u c.args.port c.args.vote.now)
    c.standing-before.result (state_view c.settle.new.ports c.settle.new.proposer s.holder c.settle.new.edge avoid parts epoch) c.args.out.now c.settle.new.out c.self.view_is
    (vote_counted s.ports c.count_vote.new.ports s.proposer c.count_vote.new.proposer s.holder s.edge avoid parts epoch c.args.port c.args.vote.now c.self.invariant.position c.count_vote.ensures.position c.count_vote.ensures.counted)
    (sym c.count_vote.ensures.k) c.standing-before.ensures
    (λ before same stands. taken before s.holder avoid parts epoch same stands))
    c.settle.ensures.taken

pub returns-clause-id : goal.returns-clause-id
returns-clause-id c = c.settle.ensures.id ∙ c.count_vote.ensures.id ∙ ap (λ (u : SwitchView). u.id) c.self.view_is

pub returns-clause-k : goal.returns-clause-k
returns-clause-k c = c.settle.ensures.k ∙ c.count_vote.ensures.k ∙ ap (λ (u : SwitchView). u.k) c.self.view_is
