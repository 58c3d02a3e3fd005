use Rattle.pl_journal_text.proofs.NumeralLemmas.{no_number, too_large}
use Rattle.pl_journal_text.proofs.numbers.below.Goals as goal

pub returns-in_default : goal.returns-in_default
returns-in_default c = no_number c.args.word.now c.args.limit c.number.result c.ranges.limit.fits c.number.ensures c.in_default.is

pub returns-else-n-limit : goal.returns-else-n-limit
returns-else-n-limit c =
    too_large c.args.word.now c.args.limit c.in-Some.n c.number.result c.number.ensures c.in-Some.is c.ranges.limit.fits c.if-n-limit.false
