use Rattle.pl_journal.proofs.Groups.{at_members}
use Rattle.pl_journal.proofs.group_laws.a_frame_of_a_routed_group_arrives_at_members_alone.Goals as goal

pub returns : goal.returns
returns c = at_members
