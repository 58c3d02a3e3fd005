use Rattle.pl_journal.proofs.Steps.{run_of_front, trail_of_front}
use Rattle.pl_journal.proofs.run_laws.a_front_of_a_run_is_a_run.Goals as goal

pub returns : goal.returns
returns c = record { run = run_of_front; trail = trail_of_front }
