use Rattle.pl_edge.proofs.Exports.{on_ok}
use Rattle.pl_switch_state.proofs.Ticked.{both_ticked}
use Rattle.pl_switch_state.proofs.ticking.tick_both.Goals as goal

pub returns-clause-taken : goal.returns-clause-taken
returns-clause-taken c =
    on_ok c.tick.result
    (λ aged holds avoid parts epoch position at.
    both_ticked c.args.ports.now c.tick_ports.new.ports c.args.proposer.now holds c.args.edge.now c.tick.new.self avoid parts epoch c.args.out.now
    c.tick_ports.new.out c.tick.new.out
    at c.tick_ports.ensures.place c.tick.ensures.place (c.in_ok-tick_ports.ensures.taken holds c.args.edge.now avoid parts epoch position) aged)
    c.tick.ensures.taken
