use Rattle.pl_node.proofs.AvoidRows.{gains_beyond}
use Rattle.pl_node.proofs.avoid_bits.add_beyond.Goals as goal

pub returns : goal.returns
returns c =
    gains_beyond c.args.row.now c.beyond.result c.args.list.now c.add_numbers.new.list c.args.other.now c.add_numbers.result c.beyond.ensures c.add_numbers.ensures
