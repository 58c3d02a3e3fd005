use Rattle.std.proofs.Common.{take}
use Rattle.pl_node.specs.AvoidRows.{Gains, is_listed}
use Rattle.pl_node.proofs.avoid_bits.add_others.Given as goal

abbrev pub invariant-loop-entry : goal.invariant-loop-entry
invariant-loop-entry l = Gains l.initial.list l.list l.fn.other (λ x. is_listed x (take l.entry-index l.others))
