use Rattle.pl_migrate.proofs.Led.{IsLed}
use Rattle.pl_migrate.proofs.address_table.AddressTable.redirect.Given as goal

abbrev pub invariant-loop-left : goal.invariant-loop-left
invariant-loop-left l = IsLed l.self l.left l.last l.out l.initial.left l.initial.last l.initial.out

abbrev pub decreases-loop-left : goal.decreases-loop-left
decreases-loop-left l = l.left
