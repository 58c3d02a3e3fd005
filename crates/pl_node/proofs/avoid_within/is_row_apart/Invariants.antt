use Rattle.std.specs.List.{list_any, range_with_len}
use Rattle.pl_node.specs.AvoidRows.{AreApart, stands_for}
use Rattle.pl_node.proofs.avoid_within.is_row_apart.Given as goal

abbrev pub invariant-loop-number : goal.invariant-loop-number
invariant-loop-number l = AreApart (λ x. list_any (stands_for l.fn.row x) (range_with_len 0 l.number)) l.fn.also
