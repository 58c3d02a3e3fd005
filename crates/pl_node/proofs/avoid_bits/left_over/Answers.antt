use Rattle.std.proofs.Common.{subst}
use Rattle.std.specs.List.{list_any}
use Rattle.pl_node.specs.AvoidRows.{Gains, entries_of, is_listed}
use Rattle.pl_node.proofs.AvoidRows.{left_over_is}
use Rattle.pl_node.proofs.avoid_bits.left_over.Goals as goal

pub returns : goal.returns
returns c =
    left_over_is c.args.rows.now c.args.others.now c.add_rows.new.list c.add_others.new.list c.args.other.now
    (subst (λ l. Gains l c.add_rows.new.list c.args.other.now (λ x. list_any (λ row. is_listed x (entries_of row)) c.args.rows.now))
    c.new-list.ensures c.in_ok-add_rows.ensures) c.in_ok-add_others.ensures
