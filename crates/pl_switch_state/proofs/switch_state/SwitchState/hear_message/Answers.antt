use Rattle.std.proofs.Common.{◌/◌, ap, sym, ◌∙◌}
use Rattle.pl_edge.proofs.Exports.{on_ok}
use Rattle.pl_node.specs.SwitchViews.{SwitchView}
use Rattle.pl_switch_rule.specs.Levels.{after_message}
use Rattle.pl_ports.specs.PortsViews.{ports_alone}
use Rattle.pl_switch_state.specs.StateViews.{state_view}
use Rattle.pl_switch_state.proofs.Rows.{address_table_before, grows_before, message_grows, message_heard, message_keeps, row_settled}
use Rattle.pl_switch_state.proofs.switch_state.SwitchState.hear_message.Goals as goal

pub note_edge-requires-clause-positions : goal.note_edge-requires-clause-positions
note_edge-requires-clause-positions c = c.self.invariant.positions ∙ ap (λ k. k / 2) (sym (message_keeps c.self.inside.ports c.heard.new.self c.learn.new.self (ports_alone c.self.inside.ports) c.args.port c.args.id c.args.ldm.now c.heard.ensures.view c.learn.ensures).k)

pub settle-requires-clause-address_table : goal.settle-requires-clause-address_table
settle-requires-clause-address_table c = address_table_before c.self.inside.ports (ports_alone c.self.inside.ports) c.standing-before.result c.self.inside.edge.address_table (c.standing-before.ensures (ports_alone c.self.inside.ports)) c.self.invariant.address_table

pub settle-requires-clause-grows : goal.settle-requires-clause-grows
settle-requires-clause-grows c =
    grows_before c.self.inside.ports (ports_alone c.self.inside.ports) c.standing-before.result c.learn.new.self.place (c.standing-before.ensures (ports_alone c.self.inside.ports))
    (message_grows c.self.inside.ports c.heard.new.self c.learn.new.self (ports_alone c.self.inside.ports) c.args.port c.args.id c.args.ldm.now c.heard.ensures.view c.learn.ensures)

pub settle-requires-clause-hosts : goal.settle-requires-clause-hosts
settle-requires-clause-hosts c = c.self.invariant.hosts ∙ sym (message_keeps c.self.inside.ports c.heard.new.self c.learn.new.self (ports_alone c.self.inside.ports) c.args.port c.args.id c.args.ldm.now c.heard.ensures.view c.learn.ensures).k

pub settle-requires-clause-votes : goal.settle-requires-clause-votes
settle-requires-clause-votes c = c.self.invariant.votes ∙ sym (message_keeps c.self.inside.ports c.heard.new.self c.learn.new.self (ports_alone c.self.inside.ports) c.args.port c.args.id c.args.ldm.now c.heard.ensures.view c.learn.ensures).k

pub settle-requires-clause-position : goal.settle-requires-clause-position
settle-requires-clause-position c = c.self.invariant.position ∙ sym (message_keeps c.self.inside.ports c.heard.new.self c.learn.new.self (ports_alone c.self.inside.ports) c.args.port c.args.id c.args.ldm.now c.heard.ensures.view c.learn.ensures).position

pub invariant_of-self : goal.invariant_of-self
invariant_of-self c = record {
  hosts = c.settle.ensures.hosts;
  votes = c.settle.ensures.votes;
  positions = c.note_edge.ensures.positions ∙ ap (λ k. k / 2) (sym c.settle.ensures.k);
  holders = c.note_edge.ensures.holders;
  position = c.settle.ensures.position;
  address_table = c.settle.ensures.address_table;
}

pub returns-clause-taken : goal.returns-clause-taken
returns-clause-taken c =
    let s = c.self.inside in
    let h = c.note_edge.new.holder in
    let avoid = s.avoid in
    let parts = s.parts.entries in
    let epoch = s.epoch in
    on_ok c.settle.result
    (λ taken. row_settled c.args.self.now s.ports c.learn.new.self s.proposer s.proposer s.holder h s.edge avoid parts epoch (λ u. after_message u c.args.port c.args.id c.args.ldm.now)
    c.standing-before.result (state_view c.settle.new.ports c.settle.new.proposer h c.settle.new.edge avoid parts epoch) c.args.out.now c.settle.new.out c.self.view_is
    (message_heard s.ports c.heard.new.self c.learn.new.self s.proposer s.holder h s.edge avoid parts epoch c.args.port c.args.id c.args.ldm.now c.heard.ensures.view c.learn.ensures c.note_edge.ensures.noted)
    (sym (message_keeps c.self.inside.ports c.heard.new.self c.learn.new.self (ports_alone c.self.inside.ports) c.args.port c.args.id c.args.ldm.now c.heard.ensures.view c.learn.ensures).k) c.standing-before.ensures
    (λ before same stands. taken before h avoid parts epoch same stands))
    c.settle.ensures.taken

pub returns-clause-id : goal.returns-clause-id
returns-clause-id c = c.settle.ensures.id ∙ (message_keeps c.self.inside.ports c.heard.new.self c.learn.new.self (ports_alone c.self.inside.ports) c.args.port c.args.id c.args.ldm.now c.heard.ensures.view c.learn.ensures).id ∙ ap (λ (u : SwitchView). u.id) c.self.view_is

pub returns-clause-k : goal.returns-clause-k
returns-clause-k c = c.settle.ensures.k ∙ (message_keeps c.self.inside.ports c.heard.new.self c.learn.new.self (ports_alone c.self.inside.ports) c.args.port c.args.id c.args.ldm.now c.heard.ensures.view c.learn.ensures).k ∙ ap (λ (u : SwitchView). u.k) c.self.view_is
