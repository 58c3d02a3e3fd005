use Rattle.pl_node.proofs.AvoidRows.{within_beyond}
use Rattle.pl_node.proofs.avoid_within.is_beyond_within.Goals as goal

pub returns : goal.returns
returns c = within_beyond c.args.row.now c.beyond.result c.args.other.now c.is_all_within.result c.beyond.ensures c.is_all_within.ensures
