use Rattle.pl_law_records.proofs.Strangers.{neighbours_at_rest}
use Rattle.pl_law_records.proofs.record_laws.usable_links_are_those_of_the_wiring_at_rest.Goals as goal

pub returns : goal.returns
returns c = neighbours_at_rest
