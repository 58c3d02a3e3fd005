use Rattle.std.proofs.Common.{◌≡◌, drop}
use Rattle.pl_script.specs.ForBridges.{lines_for_bridges}
use Rattle.pl_script.proofs.Readings.{with_front}
use Rattle.pl_script.proofs.for_bridges.all_for_bridges.Given as goal

abbrev pub invariant-loop-line : goal.invariant-loop-line
invariant-loop-line l = with_front l.script (lines_for_bridges (drop l.line-index l.lines)) ≡ lines_for_bridges l.lines
