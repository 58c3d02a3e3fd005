use Rattle.pl_schedule.proofs.Allowed.{hears_each}
use Rattle.pl_schedule.proofs.world.World.make_step.Goals as goal

pub happen-requires-clause-hears : goal.happen-requires-clause-hears
happen-requires-clause-hears g c =
    hears_each c.args.self.now c.count_step.new.self c.count_step.ensures c.args.event.now c.requires.orderly.counted c.requires.orderly.hearing c.requires.allowed
