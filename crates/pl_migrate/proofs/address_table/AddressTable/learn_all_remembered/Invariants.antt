use Rattle.pl_migrate.proofs.AllLearnt.{IsLearning}
use Rattle.pl_migrate.proofs.address_table.AddressTable.learn_all_remembered.Given as goal

abbrev pub invariant-loop-port : goal.invariant-loop-port
invariant-loop-port l = IsLearning l.k l.port l.self l.initial.self l.remembered l.initial.remembered l.out l.initial.out
