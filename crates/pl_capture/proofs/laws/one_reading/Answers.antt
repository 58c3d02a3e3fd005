use Rattle.pl_capture.proofs.Reading.{one_reading-capture, one_reading-refused}
use Rattle.pl_capture.proofs.laws.one_reading.Goals as goal

pub returns-clause-capture : goal.returns-clause-capture
returns-clause-capture c = one_reading-capture

pub returns-clause-refused : goal.returns-clause-refused
returns-clause-refused c = one_reading-refused
