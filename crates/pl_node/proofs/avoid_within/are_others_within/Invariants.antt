use Rattle.std.proofs.Common.{take}
use Rattle.std.specs.Prelude.{◌&&◌, not}
use Rattle.pl_node.specs.AvoidRows.{AreListed, is_listed}
use Rattle.pl_node.specs.Hidden.{hidden_at}
use Rattle.pl_node.proofs.avoid_within.are_others_within.Given as goal

abbrev pub invariant-loop-entry : goal.invariant-loop-entry
invariant-loop-entry l = AreListed (λ x. is_listed x (take l.entry-index l.others) && not (hidden_at l.fn.hidden x.1 x.2)) l.fn.other
