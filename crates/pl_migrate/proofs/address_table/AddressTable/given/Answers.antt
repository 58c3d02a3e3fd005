use Rattle.std.proofs.Common.{◌<◌, ◌∙◌, subst, sym, length}
use Rattle.pl_migrate.proofs.NextOf.{length_shown, within_ports}
use Rattle.pl_migrate.proofs.address_table.AddressTable.given.Goals as goal

pub index-requires : goal.index-requires
index-requires c =
    let s = c.self.inside in
    subst (λ n. c.from.result < n) (sym s.ports.ok.0) (subst (λ n. n < length s.ports.items) (sym c.from.ensures)
    (within_ports s.pod s.position s.tick s.ports.items s.orders c.self.invariant c.args.self.now c.self.view_is c.args.port c.requires))

pub returns-clause-many : goal.returns-clause-many
returns-clause-many c =
    c.len.ensures.len
    ∙ length_shown c.self.inside.pod c.self.inside.position c.self.inside.tick c.self.inside.ports.items c.self.inside.orders c.self.invariant
    c.args.self.now c.self.view_is
    c.args.port c.requires c.from.result c.index.result.now c.from.ensures c.index.ensures
