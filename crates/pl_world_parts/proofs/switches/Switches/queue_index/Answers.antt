use Rattle.std.proofs.Common.{ap, subst}
use Rattle.pl_world.specs.Pending.{HasQueues}
use Rattle.pl_world_parts.proofs.Switching.{queue_is_there}
use Rattle.pl_world_parts.proofs.switches.Switches.queue_index.Goals as goal

pub returns-clause-index : goal.returns-clause-index
returns-clause-index g c =
    queue_is_there c.args.self.now c.args.s c.args.port c.self.inside.k (subst HasQueues c.self.view_is c.self.invariant.0.queues) (ap (λ a. a.k) c.self.view_is)
    c.requires.switch c.requires.port
