use Rattle.std.proofs.Common.{◌∙◌, ap, sym, refl}
use Rattle.pl_edge.proofs.Exports.{on_ok}
use Rattle.pl_node.specs.SwitchViews.{SwitchView}
use Rattle.pl_ports.specs.PortsViews.{ports_alone}
use Rattle.pl_switch_state.specs.StateViews.{state_view}
use Rattle.pl_switch_state.proofs.Rows.{ticked}
use Rattle.pl_switch_state.proofs.ticking.tick_ports.Goals as goal

pub tell_neighbours-requires : goal.tell_neighbours-requires
tell_neighbours-requires c = c.requires ∙ sym (ap (λ (u : SwitchView). u.k) (c.tick.ensures.view (ports_alone c.args.ports.now)))

pub returns-clause-taken : goal.returns-clause-taken
returns-clause-taken c =
    let p = c.args.ports.now in
    on_ok c.tell_neighbours.result
    (λ tells holds edge avoid parts epoch position.
    let old = state_view p c.args.proposer.now holds edge avoid parts epoch in
    ticked old p c.tick.new.self c.args.proposer.now holds edge avoid parts epoch c.args.out.now c.tell_neighbours.new.out refl
    (position ∙ sym (ap (λ (u : SwitchView). u.place.position) (c.tick.ensures.view (ports_alone c.args.ports.now)))) c.tick.ensures.view
    (λ u. tells old u (sym (ap (λ (w : SwitchView). w.k) (c.tick.ensures.view (ports_alone c.args.ports.now)))) (c.standing-before.ensures old)))
    c.tell_neighbours.ensures

pub returns-clause-id : goal.returns-clause-id
returns-clause-id c = ap (λ (u : SwitchView). u.id) (c.tick.ensures.view (ports_alone c.args.ports.now))

pub returns-clause-k : goal.returns-clause-k
returns-clause-k c = ap (λ (u : SwitchView). u.k) (c.tick.ensures.view (ports_alone c.args.ports.now))

pub returns-clause-place : goal.returns-clause-place
returns-clause-place c = ap (λ (u : SwitchView). u.place) (c.tick.ensures.view (ports_alone c.args.ports.now))
