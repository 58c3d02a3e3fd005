use Rattle.std.proofs.Common.{subst}
use Rattle.pl_tables.specs.Rows.{ArePortRows}
use Rattle.pl_tables.proofs.Indices.{none_taken, takes_out}
use Rattle.pl_tables.proofs.port_rows.PortRows.take_out.Goals as goal

pub returns-in-Ok : goal.returns-in-Ok
returns-in-Ok c = rw (c.remove-row.ensures.items, c.self.view_is) (takes_out _ (subst ArePortRows c.self.view_is c.self.invariant) _ _ c.in-Ok.ensures.found)

pub returns-in_default : goal.returns-in_default
returns-in_default c = none_taken _ _ _ c.in_default.ensures.absent
