use Rattle.pl_node.specs.AvoidRows.{entries_of, is_listed}
use Rattle.pl_node.proofs.AvoidRows.{gains_nothing}
use Rattle.pl_node.proofs.avoid_bits.add_row.Goals as goal

pub returns-then-has_row : goal.returns-then-has_row
returns-then-has_row c =
    gains_nothing c.args.list.now c.args.other.now (λ x. is_listed x (entries_of c.args.row.now)) (c.has_row.ensures c.if-has_row.true)
