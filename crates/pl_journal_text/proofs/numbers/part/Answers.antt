use Rattle.pl_journal_text.proofs.NumeralLemmas.{no_part}
use Rattle.pl_journal_text.proofs.numbers.part.Goals as goal

pub returns-in_default : goal.returns-in_default
returns-in_default c = no_part c.args.word.now c.args.limit c.below.result c.if-eq.ensures c.below.ensures c.in_default.is
