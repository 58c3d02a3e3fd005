use Rattle.pl_law_epochs.proofs.Consequences.{in_use_told, newest_or_recalled}
use Rattle.pl_law_epochs.proofs.epoch_laws.an_address_in_use_is_told_or_known.Goals as goal

pub returns-clause-told : goal.returns-clause-told
returns-clause-told c = in_use_told

pub returns-clause-known : goal.returns-clause-known
returns-clause-known c = newest_or_recalled
