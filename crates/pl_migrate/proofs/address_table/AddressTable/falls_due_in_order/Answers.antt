use Rattle.std.proofs.Common.{subst}
use Rattle.pl_migrate.specs.Keeping.{FallDueInOrder}
use Rattle.pl_migrate.proofs.Ages.{fall_due}
use Rattle.pl_migrate.proofs.address_table.AddressTable.falls_due_in_order.Goals as goal

pub returns : goal.returns
returns c =
    let s = c.self.inside in subst FallDueInOrder c.self.view_is (fall_due s.pod s.position s.tick s.ports.items s.orders c.self.invariant)
