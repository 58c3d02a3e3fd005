use Rattle.pl_journal_text.proofs.Lines.{reads_back}
use Rattle.pl_journal_text.proofs.line.read_line.Goals as goal

pub returns-clause-back : goal.returns-clause-back
returns-clause-back c = reads_back c.args.wiring.now c.args.line.now c.entry_of.result c.k-k.ensures.plan c.entry_of.ensures
