use Rattle.pl_journal.proofs.Steps.{trail_goes_on, trail_went_on}
use Rattle.pl_journal.proofs.run_laws.a_good_trail_goes_on.Goals as goal

pub returns : goal.returns
returns c = record { begins = λ plan. tt; goes_on = trail_goes_on; went_on = trail_went_on }
