use Rattle.std.proofs.Common.{map}
use Rattle.pl_world_parts.proofs.Exports.{first_ports}
use Rattle.pl_schedule.proofs.world.boot.boot_with_queues.Goals as goal

pub new-requires-2-clause-ports : goal.new-requires-2-clause-ports
new-requires-2-clause-ports g c =
    first_ports c.k-k.result c.args.wiring.now.k c.args.wiring.now.ids (map g.S.SwitchFacts.view c.in_ok-devices.devices.items) c.k-k.ensures.k c.in_ok-devices.ensures
