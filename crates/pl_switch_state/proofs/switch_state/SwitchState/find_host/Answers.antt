use Rattle.std.proofs.Common.{◌/◌, ap, sym, ◌∙◌}
use Rattle.pl_edge.proofs.Exports.{on_ok}
use Rattle.pl_node.specs.SwitchViews.{SwitchView}
use Rattle.pl_layouts.specs.Placement.{is_known}
use Rattle.pl_ports.specs.Changes.{takes_host, with_host}
use Rattle.pl_ports.specs.PortsViews.{PortsView, ports_alone}
use Rattle.pl_switch_rule.specs.Levels.{becomes_edge}
use Rattle.pl_switch_state.specs.StateViews.{state_view}
use Rattle.pl_switch_state.proofs.HostsKnown.{host_at_edge, host_found, host_grows, host_keeps, known_by_parts, known_edge}
use Rattle.pl_switch_state.proofs.Rows.{address_table_before, grows_before, row_settled}
use Rattle.pl_switch_state.proofs.switch_state.SwitchState.find_host.Goals as goal

pub settle-requires-clause-address_table : goal.settle-requires-clause-address_table
settle-requires-clause-address_table c = address_table_before c.self.inside.ports (ports_alone c.self.inside.ports) c.standing-before.result c.self.inside.edge.address_table (c.standing-before.ensures (ports_alone c.self.inside.ports)) c.self.invariant.address_table

pub settle-requires-clause-grows : goal.settle-requires-clause-grows
settle-requires-clause-grows c =
    grows_before c.self.inside.ports (ports_alone c.self.inside.ports) c.standing-before.result c.host_frame.new.self.place (c.standing-before.ensures (ports_alone c.self.inside.ports))
    (host_grows c.self.inside.ports c.host_frame.new.self (ports_alone c.self.inside.ports) c.args.port c.knows_host.ensures.sound (ap (λ u. takes_host u c.args.port) c.self.view_is ∙ c.requires.host) c.host_frame.ensures.view)

pub settle-requires-clause-hosts : goal.settle-requires-clause-hosts
settle-requires-clause-hosts c = c.self.invariant.hosts ∙ sym (host_keeps c.self.inside.ports c.host_frame.new.self (ports_alone c.self.inside.ports) c.args.port (ap (λ u. takes_host u c.args.port) c.self.view_is ∙ c.requires.host) c.host_frame.ensures.view).k

pub settle-requires-clause-votes : goal.settle-requires-clause-votes
settle-requires-clause-votes c = c.self.invariant.votes ∙ sym (host_keeps c.self.inside.ports c.host_frame.new.self (ports_alone c.self.inside.ports) c.args.port (ap (λ u. takes_host u c.args.port) c.self.view_is ∙ c.requires.host) c.host_frame.ensures.view).k

pub settle-requires-clause-position : goal.settle-requires-clause-position
settle-requires-clause-position c = c.self.invariant.position ∙ sym (host_keeps c.self.inside.ports c.host_frame.new.self (ports_alone c.self.inside.ports) c.args.port (ap (λ u. takes_host u c.args.port) c.self.view_is ∙ c.requires.host) c.host_frame.ensures.view).position

pub invariant_of-self : goal.invariant_of-self
invariant_of-self c = record {
  hosts = c.settle.ensures.hosts;
  votes = c.settle.ensures.votes;
  positions = c.self.invariant.positions ∙ ap (λ k. k / 2) (sym (c.settle.ensures.k ∙ (host_keeps c.self.inside.ports c.host_frame.new.self (ports_alone c.self.inside.ports) c.args.port (ap (λ u. takes_host u c.args.port) c.self.view_is ∙ c.requires.host) c.host_frame.ensures.view).k));
  holders = c.self.invariant.holders;
  position = c.settle.ensures.position;
  address_table = c.settle.ensures.address_table;
}

pub returns-clause-taken : goal.returns-clause-taken
returns-clause-taken c =
    let s = c.self.inside in
    let avoid = s.avoid in
    let parts = s.parts.entries in
    let epoch = s.epoch in
    on_ok c.settle.result
    (λ taken. row_settled c.args.self.now s.ports c.host_frame.new.self s.proposer s.proposer s.holder s.holder s.edge avoid parts epoch (λ u. becomes_edge (with_host u c.args.port))
    c.standing-before.result (state_view c.settle.new.ports c.settle.new.proposer s.holder c.settle.new.edge avoid parts epoch) c.args.out.now c.settle.new.out c.self.view_is
    (host_found s.ports c.host_frame.new.self s.proposer s.holder s.edge avoid parts epoch c.args.port (ap (λ u. takes_host u c.args.port) c.self.view_is ∙ c.requires.host) c.host_frame.ensures.view)
    (sym (host_keeps c.self.inside.ports c.host_frame.new.self (ports_alone c.self.inside.ports) c.args.port (ap (λ u. takes_host u c.args.port) c.self.view_is ∙ c.requires.host) c.host_frame.ensures.view).k) c.standing-before.ensures
    (λ before same stands. taken before s.holder avoid parts epoch same stands))
    c.settle.ensures.taken

pub returns-clause-id : goal.returns-clause-id
returns-clause-id c = c.settle.ensures.id ∙ (host_keeps c.self.inside.ports c.host_frame.new.self (ports_alone c.self.inside.ports) c.args.port (ap (λ u. takes_host u c.args.port) c.self.view_is ∙ c.requires.host) c.host_frame.ensures.view).id ∙ ap (λ (u : SwitchView). u.id) c.self.view_is

pub returns-clause-k : goal.returns-clause-k
returns-clause-k c = c.settle.ensures.k ∙ (host_keeps c.self.inside.ports c.host_frame.new.self (ports_alone c.self.inside.ports) c.args.port (ap (λ u. takes_host u c.args.port) c.self.view_is ∙ c.requires.host) c.host_frame.ensures.view).k ∙ ap (λ (u : SwitchView). u.k) c.self.view_is

pub returns-clause-edge : goal.returns-clause-edge
returns-clause-edge c =
    on_ok c.settle.result
    (λ same. ap (λ (p : PortsView). is_known p.place.level 0) same
    ∙ host_at_edge c.self.inside.ports c.host_frame.new.self (ports_alone c.self.inside.ports) c.args.port (ap (λ u. takes_host u c.args.port) c.self.view_is ∙ c.requires.host) c.host_frame.ensures.view)
    c.settle.ensures.same

pub returns-then-knows_host-clause-taken : goal.returns-then-knows_host-clause-taken
returns-then-knows_host-clause-taken c =
    let s = c.self.inside in
    known_by_parts c.args.self.now s.ports s.proposer s.holder s.edge s.avoid s.parts.entries s.epoch c.args.port c.args.out.now c.self.view_is (sym c.knows_host.ensures.known ∙ c.if-knows_host.true)

pub returns-then-knows_host-clause-edge : goal.returns-then-knows_host-clause-edge
returns-then-knows_host-clause-edge c =
    let s = c.self.inside in
    known_edge c.args.self.now s.ports s.proposer s.holder s.edge s.avoid s.parts.entries s.epoch c.args.port c.self.view_is (sym c.knows_host.ensures.known ∙ c.if-knows_host.true)
