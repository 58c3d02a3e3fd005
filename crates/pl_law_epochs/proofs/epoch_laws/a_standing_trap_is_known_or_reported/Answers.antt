use Rattle.pl_law_epochs.proofs.Consequences.{trap_known}
use Rattle.pl_law_epochs.proofs.epoch_laws.a_standing_trap_is_known_or_reported.Goals as goal

pub returns : goal.returns
returns c = trap_known
