use Rattle.std.proofs.Common.{◌<◌, refl, rules}
use Rattle.pl_wiring.specs.Labels.{switch_count}
use Rattle.pl_schedule.proofs.Forms.{port_there, rows_as_wired}
use Rattle.pl_schedule.proofs.world.World.len_at_port.Goals as goal

pub queue_len-requires-clause-port : goal.queue_len-requires-clause-port
queue_len-requires-clause-port g c =
    let within : c.args.port < c.args.self.now.plan.k = search (rules, c.requires) in
    port_there _ c.args.self.now c.args.s.0 c.args.port c.self.view_is c.self.invariant within

pub returns : goal.returns
returns g c =
    let within : c.args.s.0 < switch_count c.args.self.now.plan.k = search (rules, c.requires) in
    let rows = rows_as_wired _ c.args.self.now c.self.inside.switches c.args.s.0 c.self.view_is c.self.invariant c.queue_len.ensures.queues refl within in
    search (rules, rows)
