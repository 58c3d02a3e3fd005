use Rattle.pl_schedule.proofs.Ticking.{formed_heard}
use Rattle.pl_schedule.proofs.world.World.count_tick.Goals as goal

pub invariant_of-self : goal.invariant_of-self
invariant_of-self g c = formed_heard _ c.args.s.0 c.count_ticks.new.heard.items c.count_ticks.ensures c.self.invariant
