use Rattle.std.proofs.Common.{◌≡◌, length}
use Rattle.std.specs.List.{AllByRecursion}
use Rattle.pl_node.specs.Accounting.{IsFit}
use Rattle.pl_world.specs.SwitchActs.{acts_done, amid}
use Rattle.pl_schedule.proofs.world.World.do_acts.Given as goal

abbrev pub invariant-loop-act : goal.invariant-loop-act
invariant-loop-act g l = record {
  done : acts_done l.s.0 (amid l.self l.progress) l.acts ≡ acts_done l.s.0 (amid l.initial.self l.initial.progress) l.initial.acts;
  plan : l.self.plan ≡ l.initial.self.plan;
  fit : AllByRecursion (IsFit l.self.plan.k) l.acts;
}

abbrev pub decreases-loop-act : goal.decreases-loop-act
decreases-loop-act g l = length l.acts
