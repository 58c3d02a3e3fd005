use Rattle.std.proofs.Common.{refl}
use Rattle.pl_past_tables.proofs.Moving.{taken_more}
use Rattle.pl_past_tables.proofs.hosts.first_taken.Goals as goal

pub loop-i-preserved : goal.loop-i-preserved
loop-i-preserved c =
    taken_more c.args.wiring.now c.loop-i.taken.said.entries c.put.new.self.said.entries c.loop-i.i c.host-host.result.now
    (record { edge = c.host-host.result.now.edge; port = c.host-host.result.now.port })
    c.host-host.ensures refl c.loop-i.invariant (λ k. c.in_ok-put.ensures k)
