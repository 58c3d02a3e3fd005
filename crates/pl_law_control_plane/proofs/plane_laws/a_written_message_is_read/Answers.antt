use Rattle.pl_law_control_plane.proofs.Reading.{written_is_read}
use Rattle.pl_law_control_plane.proofs.plane_laws.a_written_message_is_read.Goals as goal

pub returns : goal.returns
returns c = written_is_read
