use Rattle.pl_verdict.proofs.Following.{fails_not_all, legal_is_run}
use Rattle.pl_verdict.proofs.laws.a_journal_is_legal_where_each_entry_follows.Goals as goal

pub returns : goal.returns
returns c = record { legal = legal_is_run; one_verdict = fails_not_all }
