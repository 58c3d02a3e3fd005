use Rattle.pl_journal.proofs.Groups.{to_no_group}
use Rattle.pl_journal.proofs.group_laws.a_frame_to_a_host_goes_to_no_group.Goals as goal

pub returns : goal.returns
returns c = to_no_group
