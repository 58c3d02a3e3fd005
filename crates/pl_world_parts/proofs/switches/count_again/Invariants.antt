use Rattle.pl_world_parts.proofs.StaleCounts.{AreCounted}
use Rattle.pl_world_parts.proofs.switches.count_again.Given as goal

abbrev pub invariant-loop-port : goal.invariant-loop-port
invariant-loop-port g l =
    AreCounted (g.S.SwitchFacts.view l.device).k l.fn.s (g.S.SwitchFacts.view l.device) l.out l.fn.counts.items l.counts.items l.before l.after l.port
