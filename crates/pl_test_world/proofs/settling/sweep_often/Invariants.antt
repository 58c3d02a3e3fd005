use Rattle.pl_world.specs.Flying.{IsCounted}
use Rattle.pl_world.specs.Hearing.{IsWithinHearing}
use Rattle.pl_test_world.proofs.settling.sweep_often.Given as goal

abbrev pub invariant-loop : goal.invariant-loop
invariant-loop g l = IsCounted l.world × IsWithinHearing l.world
