use Rattle.std.proofs.Common.{refl, subst}
use Rattle.pl_tables.specs.Rows.{ArePortRows}
use Rattle.pl_tables.proofs.Indices.{puts_in, puts_over, rows_over, rows_with}
use Rattle.pl_tables.proofs.port_rows.PortRows.put_in.Goals as goal

pub invariant_of-self : goal.invariant_of-self
invariant_of-self c = rows_over _ c.self.invariant _ _ (rw c.self.view_is c.in-Ok.ensures.found) c.args.row refl c.requires

pub returns-in-Ok-clause-ok : goal.returns-in-Ok-clause-ok
returns-in-Ok-clause-ok c = rw c.self.view_is (puts_over _ (subst ArePortRows c.self.view_is c.self.invariant) _ _ c.in-Ok.ensures.found c.args.row refl)

pub invariant_of-self-in-Err : goal.invariant_of-self-in-Err
invariant_of-self-in-Err c = rw c.in_ok-insert-in-Err.ensures.items (rows_with _ _ _ (rw c.self.view_is c.in-Err.ensures.absent) c.args.row refl c.requires c.self.invariant)

pub returns-in_ok-insert-in-Err-clause-ok : goal.returns-in_ok-insert-in-Err-clause-ok
returns-in_ok-insert-in-Err-clause-ok c = rw (c.in_ok-insert-in-Err.ensures.items, c.self.view_is) (puts_in _ _ _ c.in-Err.ensures.absent c.args.row refl)
