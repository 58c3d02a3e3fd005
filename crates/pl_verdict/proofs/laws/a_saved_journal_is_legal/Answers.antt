use Rattle.pl_verdict.proofs.Written.{saved_is_legal}
use Rattle.pl_verdict.proofs.laws.a_saved_journal_is_legal.Goals as goal

pub returns : goal.returns
returns c = saved_is_legal
