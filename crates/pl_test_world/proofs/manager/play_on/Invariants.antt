use Rattle.pl_world.specs.Hearing.{HeardWithin}
use Rattle.pl_test_world.proofs.manager.play_on.Given as goal

abbrev pub invariant-loop-line : goal.invariant-loop-line
invariant-loop-line g l = HeardWithin l.wiring (g.M.ManagerLogic.view l.manager) l.heard
