use Rattle.pl_journal.proofs.Steps.{run_goes_on, run_went_on}
use Rattle.pl_journal.proofs.run_laws.a_run_goes_on.Goals as goal

pub returns : goal.returns
returns c = record { begins = λ plan. tt; goes_on = run_goes_on; went_on = run_went_on }
