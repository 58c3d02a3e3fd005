use Rattle.std.proofs.Common.{◌≡◌, ◌+◌, ◌≤◌, length}
use Rattle.pl_script.specs.Meaning.{script_from, script_of}
use Rattle.pl_script.specs.Texts.{lines_of}
use Rattle.pl_script.proofs.Readings.{with_front}
use Rattle.pl_script.proofs.lines.read.Given as goal

-- the commands so far and those of the lines that are left are the script's
abbrev pub invariant-loop-line : goal.invariant-loop-line
invariant-loop-line l = record {
  told : with_front l.script (script_from l.wiring (l.number + 1) (lines_of l.rest)) ≡ script_of l.wiring l.file;
  few : l.number ≤ 1000000;
}

abbrev pub decreases-loop-line : goal.decreases-loop-line
decreases-loop-line l = length l.rest
