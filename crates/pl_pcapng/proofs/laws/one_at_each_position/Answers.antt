use Rattle.pl_pcapng.proofs.Tables.{block_in-row, row_from}
use Rattle.pl_pcapng.proofs.laws.one_at_each_position.Goals as goal

pub returns : goal.returns
returns c = λ file p found. (block_in-row file p found, row_from file p found)
