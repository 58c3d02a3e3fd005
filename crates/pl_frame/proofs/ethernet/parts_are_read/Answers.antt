use Rattle.pl_frame.proofs.Fields.{fields_of-frame_of, frame_of-fields_of}
use Rattle.pl_frame.proofs.ethernet.parts_are_read.Goals as goal

pub returns-clause-read : goal.returns-clause-read
returns-clause-read c = fields_of-frame_of

pub returns-clause-spelled : goal.returns-clause-spelled
returns-clause-spelled c = frame_of-fields_of
