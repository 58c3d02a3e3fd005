use Rattle.pl_run.proofs.Verified.{is_verified}
use Rattle.pl_run.proofs.laws.each_saved_run_is_verified.Goals as goal

pub returns : goal.returns
returns c = λ old between new asked result saved none complete. is_verified c.a_saved_journal_is_legal.ensures old between new asked result saved none complete
