use Rattle.std.proofs.Common.{ap, ◌∙◌, arith}
use Rattle.pl_script.specs.Meaning.{script_from}
use Rattle.pl_script.specs.Texts.{lines_of}
use Rattle.pl_script.proofs.Readings.{with_front, begun}
use Rattle.pl_script.proofs.lines.read.Goals as goal

pub loop-line-init : goal.loop-line-init
loop-line-init c = record {
  told = ap (λ front. with_front front (script_from c.args.wiring.now 1 (lines_of c.args.file.now))) c.new-script.ensures
      ∙ begun c.args.wiring.now c.args.file.now;
  few = omega arith;
}
