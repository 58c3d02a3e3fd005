use Rattle.pl_capture.proofs.Reading.{reading-within}
use Rattle.pl_capture.proofs.laws.records_are_within.Goals as goal

pub returns : goal.returns
returns c = reading-within
