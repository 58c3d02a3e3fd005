use Rattle.std.proofs.Common.{length}
use Rattle.pl_delivery.proofs.Ticks.{ProbesOn}
use Rattle.pl_delivery.proofs.aging.probe_all.Given as goal

abbrev pub invariant-loop-pmac : goal.invariant-loop-pmac
invariant-loop-pmac l = ProbesOn l.initial.address_table l.address_table l.initial.out l.out l.done

abbrev pub decreases-loop-pmac : goal.decreases-loop-pmac
decreases-loop-pmac l = length l.address_table.fresh
