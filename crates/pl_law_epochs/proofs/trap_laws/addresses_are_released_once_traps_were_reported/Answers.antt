use Rattle.pl_law_epochs.proofs.InPlanes.{released_reported}
use Rattle.pl_law_epochs.proofs.trap_laws.addresses_are_released_once_traps_were_reported.Goals as goal

pub returns : goal.returns
returns c = released_reported
