use Rattle.pl_journal.proofs.Copies.{copies_once}
use Rattle.pl_journal.proofs.frame_laws.a_group_frame_arrives_at_a_port_at_most_once.Goals as goal

pub returns : goal.returns
returns c = copies_once
