use Rattle.std.proofs.Common.{◌≡◌, [], replicate}
use Rattle.pl_migrate.proofs.address_table.AddressTable.new.Given as goal

abbrev pub invariant-loop : goal.invariant-loop
invariant-loop l = l.ports.items ≡ replicate l.counter []
