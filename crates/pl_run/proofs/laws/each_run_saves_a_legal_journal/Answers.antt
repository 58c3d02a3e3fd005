use Rattle.pl_run.proofs.Verified.{is_legal}
use Rattle.pl_run.proofs.laws.each_run_saves_a_legal_journal.Goals as goal

pub returns : goal.returns
returns c = is_legal c.a_saved_journal_is_legal.ensures
