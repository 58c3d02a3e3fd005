use Rattle.pl_frame.proofs.Fields.{fields_of-with_source, fields_of-with_destination}
use Rattle.pl_frame.proofs.ethernet.written_is_read.Goals as goal

pub returns-clause-source : goal.returns-clause-source
returns-clause-source c = fields_of-with_source

pub returns-clause-destination : goal.returns-clause-destination
returns-clause-destination c = fields_of-with_destination
