use Rattle.std.proofs.Common.{◌≡◌, length}
use Rattle.std.specs.List.{fold}
use Rattle.pl_world.specs.OtherActs.{manager_act_done}
use Rattle.pl_schedule.proofs.world.World.manager_does.Given as goal

abbrev pub invariant-loop-act : goal.invariant-loop-act
invariant-loop-act g l = fold manager_act_done l.self l.acts ≡ fold manager_act_done l.initial.self l.initial.acts

abbrev pub decreases-loop-act : goal.decreases-loop-act
decreases-loop-act g l = length l.acts
