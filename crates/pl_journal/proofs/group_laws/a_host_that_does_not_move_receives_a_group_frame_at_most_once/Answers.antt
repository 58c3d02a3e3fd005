use Rattle.pl_journal.proofs.Groups.{once_where_it_stands}
use Rattle.pl_journal.proofs.group_laws.a_host_that_does_not_move_receives_a_group_frame_at_most_once.Goals as goal

pub returns : goal.returns
returns c = once_where_it_stands
