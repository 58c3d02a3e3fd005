use Rattle.std.proofs.Common.{◌-◌, ◌≤◌}
use Rattle.std.specs.List.{list_any, range_with_len}
use Rattle.pl_node.specs.AvoidRows.{Gains, stands_for}
use Rattle.pl_node.proofs.avoid_bits.add_range.Given as goal

abbrev pub invariant-loop-number : goal.invariant-loop-number
invariant-loop-number l =
    (l.fn.from ≤ l.number)
    × Gains l.initial.list l.list l.fn.other (λ x. list_any (stands_for l.fn.row x) (range_with_len l.fn.from (l.number - l.fn.from)))
