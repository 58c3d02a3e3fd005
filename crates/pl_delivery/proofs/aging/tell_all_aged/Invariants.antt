use Rattle.std.proofs.Common.{◌+◌, ◌++◌, length}
use Rattle.pl_delivery.proofs.Ticks.{TellsOn}
use Rattle.pl_delivery.proofs.aging.tell_all_aged.Given as goal

abbrev pub invariant-loop-pmac : goal.invariant-loop-pmac
invariant-loop-pmac l = TellsOn l.initial.address_table l.address_table l.initial.out l.out l.initial.done l.done

abbrev pub decreases-loop-pmac : goal.decreases-loop-pmac
decreases-loop-pmac l = length (l.address_table.asked ++ l.address_table.fresh) + length l.address_table.trapped
