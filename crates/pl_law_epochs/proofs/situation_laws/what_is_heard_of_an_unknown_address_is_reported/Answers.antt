use Rattle.pl_law_epochs.proofs.ToldInReports.{ages_in_reports, traps_in_reports}
use Rattle.pl_law_epochs.proofs.situation_laws.what_is_heard_of_an_unknown_address_is_reported.Goals as goal

pub returns : goal.returns
returns c = record { traps = traps_in_reports; ages = ages_in_reports }
