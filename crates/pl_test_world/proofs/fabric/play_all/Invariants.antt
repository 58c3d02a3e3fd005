use Rattle.pl_world.specs.Flying.{IsCounted}
use Rattle.pl_world.specs.Hearing.{IsWithinHearing}
use Rattle.pl_test_world.proofs.fabric.play_all.Given as goal

abbrev pub invariant-loop-at : goal.invariant-loop-at
invariant-loop-at g l = IsCounted l.world × IsWithinHearing l.world
