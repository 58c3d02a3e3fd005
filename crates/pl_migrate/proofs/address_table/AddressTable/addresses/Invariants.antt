use Rattle.pl_migrate.proofs.Counted.{AreCounted}
use Rattle.pl_migrate.proofs.address_table.AddressTable.addresses.Given as goal

abbrev pub invariant-loop-port : goal.invariant-loop-port
invariant-loop-port l = AreCounted l.port-items l.port-index l.count
