use Rattle.pl_world_parts.proofs.StaleCounts.{count_known}
use Rattle.pl_world_parts.proofs.switches.count_port.Goals as goal

pub returns-then-says_still : goal.returns-then-says_still
returns-then-says_still g c = count_known (g.S.SwitchFacts.view c.args.device.now) c.args.port c.args.count c.args.said.now c.args.items
    c.requires.known (c.says_still.ensures c.if-says_still.true)
