use Rattle.pl_law_records.proofs.Pairing.{links_at_first}
use Rattle.pl_law_records.proofs.record_laws.the_links_begin_current.Goals as goal

pub returns : goal.returns
returns c = links_at_first
