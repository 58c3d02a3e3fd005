use Rattle.pl_pcapng.proofs.Walks.{reading-within}
use Rattle.pl_pcapng.proofs.laws.records_are_within.Goals as goal

pub returns : goal.returns
returns c = reading-within
