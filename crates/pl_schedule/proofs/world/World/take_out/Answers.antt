use Rattle.std.proofs.Common.{refl, rules}
use Rattle.pl_schedule.proofs.Forms.{port_there, rows_as_wired}
use Rattle.pl_schedule.proofs.world.World.take_out.Goals as goal

pub take-requires-clause-port : goal.take-requires-clause-port
take-requires-clause-port g c = port_there _ c.args.self.now c.args.s.0 c.args.port c.self.view_is c.self.invariant c.requires.port

pub returns : goal.returns
returns g c =
    let rows = rows_as_wired _ c.args.self.now c.self.inside.switches c.args.s.0 c.self.view_is c.self.invariant c.take.ensures.queues refl c.requires.switch in
    search (rules, rows)
