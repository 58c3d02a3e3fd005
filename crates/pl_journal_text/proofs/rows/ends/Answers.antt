use Rattle.pl_journal_text.proofs.RowLemmas.{no_pair, turned}
use Rattle.pl_journal_text.proofs.rows.ends.Goals as goal

pub returns-in-None : goal.returns-in-None
returns-in-None c = no_pair c.args.wiring.now c.args.fields.now c.in_ok-read.read c.in_ok-read.ensures c.in-None.is

pub returns-else-a-b : goal.returns-else-a-b
returns-else-a-b c =
    turned c.args.wiring.now c.args.fields.now c.in_ok-read.read c.in-Some.a c.in-Some.b c.k-k.ensures.plan c.in_ok-read.ensures c.in-Some.is c.if-a-b.false
