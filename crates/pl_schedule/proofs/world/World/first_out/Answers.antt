use Rattle.std.proofs.Common.{refl, rules}
use Rattle.pl_schedule.proofs.Forms.{port_there, rows_as_wired}
use Rattle.pl_schedule.proofs.world.World.first_out.Goals as goal

pub first-requires-clause-port : goal.first-requires-clause-port
first-requires-clause-port g c = port_there _ c.args.self.now c.args.s.0 c.args.port c.self.view_is c.self.invariant c.requires.port

pub returns : goal.returns
returns g c =
    let rows = rows_as_wired _ c.args.self.now c.self.inside.switches c.args.s.0 c.self.view_is c.self.invariant c.first.ensures.queues refl c.requires.switch in
    search (rules, rows)
