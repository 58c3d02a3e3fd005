use Rattle.pl_journal.proofs.Groups.{not_at_source}
use Rattle.pl_journal.proofs.group_laws.a_group_frame_never_arrives_at_the_port_of_its_source.Goals as goal

pub returns : goal.returns
returns c = not_at_source
