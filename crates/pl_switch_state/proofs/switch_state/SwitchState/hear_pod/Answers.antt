use Rattle.std.proofs.Common.{◌≡◌, ◌/◌, ap, sym, ◌∙◌, subst}
use Rattle.pl_edge.proofs.Exports.{on_ok}
use Rattle.pl_node.specs.SwitchViews.{SwitchView}
use Rattle.pl_switch_rule.specs.Levels.{with_pod}
use Rattle.pl_switch_rule.specs.Messages.{takes_pod}
use Rattle.pl_ports.specs.PortsViews.{PortsView, ports_alone}
use Rattle.std.specs.Prelude.{Some}
use Rattle.pl_switch_state.specs.StateViews.{state_view, AreOfOne}
use Rattle.pl_switch_state.proofs.Rows.{address_table_before, grows_before, row_settled}
use Rattle.pl_switch_state.proofs.Votes.{pod_grows, pod_heard, pod_ignored, pod_keeps, pod_not_taken, pod_taken}
use Rattle.pl_switch_state.proofs.switch_state.SwitchState.hear_pod.Goals as goal

abbrev same : (c : goal.Then-not-take_pod) → c.take_pod.new.self ≡ c.self.inside.ports
same c =
    let s = c.self.inside in
    pod_not_taken s.ports c.take_pod.new.self (state_view s.ports s.proposer s.holder s.edge s.avoid s.parts.entries s.epoch) c.args.pod (sym c.take_pod.ensures.told ∙ c.if-not-take_pod.true) c.take_pod.ensures.view

pub invariant_of-self : goal.invariant_of-self
invariant_of-self c =
    let s = c.self.inside in subst (λ p. AreOfOne p s.proposer s.holder s.edge) (sym (same c)) c.self.invariant

pub returns-then-not-take_pod-clause-taken : goal.returns-then-not-take_pod-clause-taken
returns-then-not-take_pod-clause-taken c =
    let s = c.self.inside in
    pod_ignored c.args.self.now (state_view c.take_pod.new.self s.proposer s.holder s.edge s.avoid s.parts.entries s.epoch) c.args.pod c.args.out.now
    (ap (λ u. takes_pod u c.args.pod) (sym c.self.view_is) ∙ sym c.take_pod.ensures.told ∙ c.if-not-take_pod.true)
    (ap (λ p. state_view p s.proposer s.holder s.edge s.avoid s.parts.entries s.epoch) (same c) ∙ c.self.view_is)

pub returns-then-not-take_pod-clause-id : goal.returns-then-not-take_pod-clause-id
returns-then-not-take_pod-clause-id c = ap (λ (p : PortsView). p.id) (same c) ∙ ap (λ (u : SwitchView). u.id) c.self.view_is

pub returns-then-not-take_pod-clause-k : goal.returns-then-not-take_pod-clause-k
returns-then-not-take_pod-clause-k c = ap (λ (p : PortsView). p.k) (same c) ∙ ap (λ (u : SwitchView). u.k) c.self.view_is

pub settle-requires-clause-address_table : goal.settle-requires-clause-address_table
settle-requires-clause-address_table c = address_table_before c.self.inside.ports (ports_alone c.self.inside.ports) c.standing-before.result c.self.inside.edge.address_table (c.standing-before.ensures (ports_alone c.self.inside.ports)) c.self.invariant.address_table

pub settle-requires-clause-grows : goal.settle-requires-clause-grows
settle-requires-clause-grows c =
    grows_before c.self.inside.ports (ports_alone c.self.inside.ports) c.standing-before.result c.take_pod.new.self.place (c.standing-before.ensures (ports_alone c.self.inside.ports))
    (pod_grows c.self.inside.ports c.take_pod.new.self (ports_alone c.self.inside.ports) c.args.pod (sym c.take_pod.ensures.told ∙ c.if-not-take_pod.false) c.take_pod.ensures.view)

pub settle-requires-clause-hosts : goal.settle-requires-clause-hosts
settle-requires-clause-hosts c = c.self.invariant.hosts ∙ sym (pod_keeps c.self.inside.ports c.take_pod.new.self (ports_alone c.self.inside.ports) c.args.pod c.take_pod.ensures.view).k

pub settle-requires-clause-votes : goal.settle-requires-clause-votes
settle-requires-clause-votes c = c.self.invariant.votes ∙ sym (pod_keeps c.self.inside.ports c.take_pod.new.self (ports_alone c.self.inside.ports) c.args.pod c.take_pod.ensures.view).k

pub settle-requires-clause-position : goal.settle-requires-clause-position
settle-requires-clause-position c = c.self.invariant.position ∙ sym (pod_keeps c.self.inside.ports c.take_pod.new.self (ports_alone c.self.inside.ports) c.args.pod c.take_pod.ensures.view).position

pub invariant_of-self-2 : goal.invariant_of-self-2
invariant_of-self-2 c = record {
  hosts = c.settle.ensures.hosts;
  votes = c.settle.ensures.votes;
  positions = c.self.invariant.positions ∙ ap (λ k. k / 2) (sym (c.settle.ensures.k ∙ (pod_keeps c.self.inside.ports c.take_pod.new.self (ports_alone c.self.inside.ports) c.args.pod c.take_pod.ensures.view).k));
  holders = c.self.invariant.holders;
  position = c.settle.ensures.position;
  address_table = c.settle.ensures.address_table;
}

pub returns-clause-taken : goal.returns-clause-taken
returns-clause-taken c =
    let s = c.self.inside in
    let avoid = s.avoid in
    let parts = s.parts.entries in
    let epoch = s.epoch in
    let is_taken = sym c.take_pod.ensures.told ∙ c.if-not-take_pod.false in
    on_ok c.settle.result
    (λ taken. pod_heard c.args.self.now (state_view c.settle.new.ports c.settle.new.proposer s.holder c.settle.new.edge avoid parts epoch) c.args.pod c.args.out.now c.settle.new.out
    (ap (λ u. takes_pod u c.args.pod) (sym c.self.view_is) ∙ is_taken)
    (row_settled c.args.self.now s.ports c.take_pod.new.self s.proposer s.proposer s.holder s.holder s.edge avoid parts epoch (λ u. with_pod u (Some c.args.pod))
    c.standing-before.result (state_view c.settle.new.ports c.settle.new.proposer s.holder c.settle.new.edge avoid parts epoch) c.args.out.now c.settle.new.out c.self.view_is
    (pod_taken (ports_alone c.self.inside.ports) s.ports c.take_pod.new.self s.proposer s.holder s.edge avoid parts epoch c.args.pod is_taken c.take_pod.ensures.view)
    (sym (pod_keeps c.self.inside.ports c.take_pod.new.self (ports_alone c.self.inside.ports) c.args.pod c.take_pod.ensures.view).k) c.standing-before.ensures
    (λ before like stands. taken before s.holder avoid parts epoch like stands)))
    c.settle.ensures.taken

pub returns-clause-id : goal.returns-clause-id
returns-clause-id c = c.settle.ensures.id ∙ (pod_keeps c.self.inside.ports c.take_pod.new.self (ports_alone c.self.inside.ports) c.args.pod c.take_pod.ensures.view).id ∙ ap (λ (u : SwitchView). u.id) c.self.view_is

pub returns-clause-k : goal.returns-clause-k
returns-clause-k c = c.settle.ensures.k ∙ (pod_keeps c.self.inside.ports c.take_pod.new.self (ports_alone c.self.inside.ports) c.args.pod c.take_pod.ensures.view).k ∙ ap (λ (u : SwitchView). u.k) c.self.view_is
