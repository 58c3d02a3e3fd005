use Rattle.pl_journal_text.proofs.RowLemmas.{no_restarted}
use Rattle.pl_journal_text.proofs.rows.restarted.Goals as goal

pub returns-in-None : goal.returns-in-None
returns-in-None c = no_restarted c.args.wiring.now c.args.fields.now c.in_ok-read.read c.in_ok-read.ensures c.in-None.is
