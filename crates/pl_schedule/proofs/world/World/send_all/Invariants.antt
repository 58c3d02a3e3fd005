use Rattle.std.proofs.Common.{◌≡◌, length}
use Rattle.std.specs.List.{fold}
use Rattle.pl_world.specs.OtherActs.{host_act_done}
use Rattle.pl_schedule.proofs.world.World.send_all.Given as goal

abbrev pub invariant-loop-act : goal.invariant-loop-act
invariant-loop-act g l = record {
  done : fold (host_act_done l.h.0) l.self l.acts ≡ fold (host_act_done l.h.0) l.initial.self l.initial.acts;
  plan : l.self.plan ≡ l.initial.self.plan;
}

abbrev pub decreases-loop-act : goal.decreases-loop-act
decreases-loop-act g l = length l.acts
