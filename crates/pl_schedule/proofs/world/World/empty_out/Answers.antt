use Rattle.std.proofs.Common.{refl, rules}
use Rattle.pl_schedule.proofs.Forms.{port_there, rows_as_wired}
use Rattle.pl_schedule.proofs.world.World.empty_out.Goals as goal

pub clear_into-requires-clause-port : goal.clear_into-requires-clause-port
clear_into-requires-clause-port g c = port_there _ c.args.self.now c.args.s.0 c.args.port c.self.view_is c.self.invariant c.requires.port

pub returns : goal.returns
returns g c =
    let rows = rows_as_wired _ c.args.self.now c.self.inside.switches c.args.s.0 c.self.view_is c.self.invariant c.clear_into.ensures.queues refl c.requires.switch in
    search (rules, rows)
