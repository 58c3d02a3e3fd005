use Rattle.pl_tables.proofs.ListChanges.{AreSetBefore}
use Rattle.pl_tables.proofs.lists.set_at_ports.Given as goal

abbrev pub invariant-loop-port : goal.invariant-loop-port
invariant-loop-port l = AreSetBefore l.initial.rows l.rows l.fn.leads l.fn.entry l.fn.is_in l.port
