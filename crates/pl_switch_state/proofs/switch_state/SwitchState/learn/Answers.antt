use Rattle.std.proofs.Common.{ap, ◌∙◌}
use Rattle.pl_lemmas.proofs.Exports.{if_ok}
use Rattle.pl_edge.proofs.Exports.{on_ok}
use Rattle.pl_frame.specs.Ethernet.{source_of}
use Rattle.pl_node.specs.SwitchViews.{SwitchView}
use Rattle.pl_layouts.specs.Placement.{is_known}
use Rattle.pl_switch_rule.specs.Granting.{has_no_address, learns_source}
use Rattle.pl_switch_state.specs.StateViews.{state_view, HasAddressTableAt}
use Rattle.pl_switch_state.proofs.Agreeing.{may_be}
use Rattle.pl_switch_state.proofs.EdgeRows.{edge_taken, keeps_place}
use Rattle.pl_switch_state.proofs.Settled.{edge_becomes}
use Rattle.pl_switch_state.proofs.switch_state.SwitchState.learn.Goals as goal

abbrev old : (c : goal.After-learn) → SwitchView
old c = let s = c.self.inside in state_view s.ports s.proposer s.holder s.edge s.avoid s.parts.entries s.epoch

abbrev booked : (c : goal.After-learn) → HasAddressTableAt c.learn.new.self.address_table c.self.inside.ports.place
booked c = keeps_place c.self.inside.edge.address_table c.learn.new.self.address_table c.self.inside.ports.place c.learn.ensures.kept.address_table c.self.invariant.address_table

pub invariant_of-self : goal.invariant_of-self
invariant_of-self c = record {
  hosts = c.learn.ensures.kept.k ∙ c.self.invariant.hosts;
  votes = c.self.invariant.votes;
  positions = c.self.invariant.positions;
  holders = c.self.invariant.holders;
  position = c.self.invariant.position;
  address_table = booked c;
}

pub returns-clause-taken : goal.returns-clause-taken
returns-clause-taken c =
    let s = c.self.inside in
    let may = may_be s.edge.address_table s.ports.place c.self.invariant.address_table (ap (λ (u : SwitchView). is_known u.place.level 0) c.self.view_is ∙ c.requires.edge) in
    on_ok c.learn.result
    (λ taken. edge_taken c.args.self.now s.ports s.proposer s.holder s.edge c.learn.new.self s.avoid s.parts.entries s.epoch (λ u. learns_source u c.args.port c.args.frame.now)
    c.args.out.now c.learn.new.out c.self.view_is c.self.invariant.address_table.at (booked c).at (taken (old c) may))
    c.learn.ensures.taken

pub returns-clause-known : goal.returns-clause-known
returns-clause-known c =
    let s = c.self.inside in
    let may = may_be s.edge.address_table s.ports.place c.self.invariant.address_table (ap (λ (u : SwitchView). is_known u.place.level 0) c.self.view_is ∙ c.requires.edge) in
    if_ok c.learn.result
    (λ known said. said (old c) may
    ∙ ap (λ (u : SwitchView). has_no_address u c.args.port (source_of c.args.frame.now)) (edge_becomes s.ports s.proposer s.holder s.edge c.learn.new.self s.avoid s.parts.entries s.epoch (booked c).at))
    c.learn.ensures.known
