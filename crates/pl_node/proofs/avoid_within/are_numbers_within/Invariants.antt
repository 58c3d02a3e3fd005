use Rattle.std.proofs.Common.{◌*◌, ◌-◌, min}
use Rattle.std.specs.List.{list_any, range_with_len}
use Rattle.pl_node.specs.AvoidRows.{AreListed, stands_for}
use Rattle.pl_node.proofs.avoid_within.are_numbers_within.Given as goal

abbrev pub invariant-loop-word : goal.invariant-loop-word
invariant-loop-word l = AreListed (λ x. list_any (stands_for l.fn.row x) (range_with_len 0 (min (l.word * 64) 288 - 0))) l.fn.other
