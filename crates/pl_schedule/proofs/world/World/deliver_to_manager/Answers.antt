use Rattle.pl_schedule.proofs.Delivered.{still_hears}
use Rattle.pl_schedule.proofs.world.World.deliver_to_manager.Goals as goal

pub manager_hears-requires-clause-hears : goal.manager_hears-requires-clause-hears
manager_hears-requires-clause-hears g c =
    still_hears c.args.self.now c.take_to_manager.new.self c.args.s.0 c.in-Some.told c.in-Some.ensures c.requires.hears
