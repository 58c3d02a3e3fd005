use Rattle.std.proofs.Common.{length, ap, arith}
use Rattle.std.proofs.Output.{has_written_of_eq}
use Rattle.pl_journal.proofs.Printed.{all_printed}
use Rattle.pl_journal.proofs.words.WordsDisplay.fmt.Goals as goal

pub returns-clause-writes : goal.returns-clause-writes
returns-clause-writes g c = λ plain _.
    has_written_of_eq _ _ _ _ _ (all_printed c.args.self.now.word.now c.args.self.now.fields c.loop-field.field-index (omega (arith, ap length c.as_slice-field-items.ensures)))
    (c.loop-field.invariant plain)
