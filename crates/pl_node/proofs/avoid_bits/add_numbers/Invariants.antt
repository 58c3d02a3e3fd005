use Rattle.std.proofs.Common.{◌*◌, ◌-◌, min}
use Rattle.std.specs.List.{list_any, range_with_len}
use Rattle.pl_node.specs.AvoidRows.{Gains, stands_for}
use Rattle.pl_node.proofs.avoid_bits.add_numbers.Given as goal

abbrev pub invariant-loop-word : goal.invariant-loop-word
invariant-loop-word l = Gains l.initial.list l.list l.fn.other (λ x. list_any (stands_for l.fn.row x) (range_with_len 0 (min (l.word * 64) 288 - 0)))
