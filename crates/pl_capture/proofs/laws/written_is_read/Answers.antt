use Rattle.pl_capture.proofs.Spelled.{file-IsCapture, file-IsCaptureRefused, file-frames, saved-reading, saved-frames}
use Rattle.pl_capture.proofs.laws.written_is_read.Goals as goal

pub returns-clause-whole : goal.returns-clause-whole
returns-clause-whole c = file-IsCapture

pub returns-clause-refused : goal.returns-clause-refused
returns-clause-refused c = file-IsCaptureRefused

pub returns-clause-frames : goal.returns-clause-frames
returns-clause-frames c = file-frames

pub returns-clause-saved : goal.returns-clause-saved
returns-clause-saved c = saved-reading

pub returns-clause-saved_frames : goal.returns-clause-saved_frames
returns-clause-saved_frames c = saved-frames
