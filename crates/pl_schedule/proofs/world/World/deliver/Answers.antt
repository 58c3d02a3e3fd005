use Rattle.pl_schedule.proofs.world.World.deliver.Goals as goal

pub deliver_to_manager-requires-clause-hears : goal.deliver_to_manager-requires-clause-hears
deliver_to_manager-requires-clause-hears g c = c.requires.hears c.in-ToManager.s.0
