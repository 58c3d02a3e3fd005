use Rattle.pl_law_records.proofs.Pairing.{links_at_rest}
use Rattle.pl_law_records.proofs.record_laws.usable_pairs_are_current_at_rest.Goals as goal

pub returns : goal.returns
returns c = links_at_rest
