use Rattle.std.proofs.Common.{Some, take}
use Rattle.pl_tables.specs.Leads.{avoids_by, SetsWhere}
use Rattle.pl_tables.proofs.filling.set_each.Given as goal

abbrev pub invariant-loop-entry : goal.invariant-loop-entry
invariant-loop-entry l = SetsWhere l.initial.rows l.rows l.fn.port l.fn.is_in (avoids_by (take l.entry-index l.entry-items) (Some l.fn.neighbour))
