use Rattle.pl_wiring.specs.LiveLinks.{IsFor}
use Rattle.pl_test_world.proofs.topology.all_but.Given as goal

abbrev pub invariant-loop-pair : goal.invariant-loop-pair
invariant-loop-pair l = IsFor l.wiring l.links
