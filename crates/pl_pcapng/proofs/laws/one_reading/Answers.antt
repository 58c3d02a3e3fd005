use Rattle.pl_pcapng.proofs.Walks.{one_reading-sections, one_reading-refused}
use Rattle.pl_pcapng.proofs.laws.one_reading.Goals as goal

pub returns-clause-sections : goal.returns-clause-sections
returns-clause-sections c = one_reading-sections

pub returns-clause-refused : goal.returns-clause-refused
returns-clause-refused c = one_reading-refused
