use Rattle.std.proofs.Common.{◌-◌, ◌≤◌}
use Rattle.std.specs.List.{list_any, range_with_len}
use Rattle.pl_node.specs.AvoidRows.{AreListed, stands_for}
use Rattle.pl_node.proofs.avoid_within.is_range_within.Given as goal

abbrev pub invariant-loop-number : goal.invariant-loop-number
invariant-loop-number l =
    (l.fn.from ≤ l.number) × AreListed (λ x. list_any (stands_for l.fn.row x) (range_with_len l.fn.from (l.number - l.fn.from))) l.fn.other
