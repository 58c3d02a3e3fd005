use Rattle.std.proofs.Common.{refl}
use Rattle.pl_world_parts.proofs.Exports.{pending_seen}
use Rattle.pl_schedule.proofs.world.World.pending.Goals as goal

pub returns : goal.returns
returns g c =
    pending_seen c.self.inside.switches _ c.args.self.now c.stale.result c.counted.result c.counted-2.result c.self.view_is c.self.invariant
    c.stale.ensures.queues refl refl c.stale.ensures.stale c.counted.ensures.counted c.counted-2.ensures.counted
