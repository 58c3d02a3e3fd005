use Rattle.std.proofs.Common.{refl, rules}
use Rattle.pl_wiring.specs.Index.{port_index}
use Rattle.pl_schedule.proofs.Forms.{port_there, rows_as_wired}
use Rattle.pl_schedule.proofs.Queued.{formed_put}
use Rattle.pl_schedule.proofs.world.World.send_out.Goals as goal

pub put-requires-clause-port : goal.put-requires-clause-port
put-requires-clause-port g c = port_there _ c.args.self.now c.args.s.0 c.args.port c.self.view_is c.self.invariant c.requires.port

pub invariant_of-self : goal.invariant_of-self
invariant_of-self g c =
    formed_put _ c.self.inside.switches c.put.new.self (port_index c.self.inside.switches.k c.args.s.0 c.args.port) refl refl c.self.invariant c.put.result c.args.item
    c.put.ensures.ok c.put.ensures.err

pub returns : goal.returns
returns g c =
    let rows = rows_as_wired _ c.args.self.now c.self.inside.switches c.args.s.0 c.self.view_is c.self.invariant c.put.ensures.queues refl c.requires.switch in
    search (rules, rows)
