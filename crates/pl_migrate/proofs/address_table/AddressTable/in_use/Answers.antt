use Rattle.std.proofs.Common.{◌≡◌, ◌<◌, ◌∙◌, ℕ, List, Option, Some, None, ap, length, subst, sym}
use Rattle.pl_pmac.specs.declared.pmac.Pmac.{Pmac}
use Rattle.pl_migrate.specs.AddressTables.{AddressTableView, address_in_use, numbered}
use Rattle.pl_migrate.specs.declared.tenancy.Tenancy.{Tenancy}
use Rattle.pl_migrate.proofs.InUse.{only_one, used_here, within_ports}
use Rattle.pl_migrate.proofs.address_table.AddressTable.in_use.Goals as goal

pub index-requires : goal.index-requires
index-requires c =
    let s = c.self.inside in
    subst (λ n. c.from.result < n) (sym s.ports.ok.0) (subst (λ n. n < length s.ports.items) (sym c.from.ensures)
    (within_ports s.pod s.position s.tick s.ports.items s.orders c.self.invariant c.args.self.now c.self.view_is c.args.port c.requires))

pub returns-in-Some-clause-used : goal.returns-in-Some-clause-used
returns-in-Some-clause-used c =
    ap (λ (p : Pmac). Some p) c.address.ensures ∙ sym (ap (numbered c.args.self.now c.args.port) c.in-Some.is)
    ∙ used_here c.self.inside.pod c.self.inside.position c.self.inside.tick c.self.inside.ports.items c.self.inside.orders c.self.invariant
    c.args.self.now c.self.view_is c.args.port c.requires
    c.from.result c.index.result.now c.from.ensures c.index.ensures c.args.amac c.in_use.result c.in_use.ensures.found

pub returns-in-Some-clause-only : goal.returns-in-Some-clause-only
returns-in-Some-clause-only c = λ pmac own.
    let s = c.self.inside in
    ap (λ (p : Pmac). Some p) c.address.ensures ∙ sym (ap (numbered c.args.self.now c.args.port) c.in-Some.is)
    ∙ used_here c.self.inside.pod c.self.inside.position c.self.inside.tick c.self.inside.ports.items c.self.inside.orders c.self.invariant
    c.args.self.now c.self.view_is c.args.port c.requires
    c.from.result c.index.result.now c.from.ensures c.index.ensures c.args.amac c.in_use.result c.in_use.ensures.found
    ∙ only_one s.pod s.position s.tick s.ports.items s.orders c.self.invariant c.args.self.now c.self.view_is c.args.port c.requires c.from.result
    c.index.result.now
    c.from.ensures c.index.ensures c.args.amac c.in_use.ensures.only pmac own

pub returns-in-None-clause-used : goal.returns-in-None-clause-used
returns-in-None-clause-used c = sym (ap (numbered c.args.self.now c.args.port) c.in-None.is)
    ∙ used_here c.self.inside.pod c.self.inside.position c.self.inside.tick c.self.inside.ports.items c.self.inside.orders c.self.invariant c.args.self.now
    c.self.view_is c.args.port c.requires
    c.from.result c.index.result.now c.from.ensures c.index.ensures c.args.amac c.in_use.result c.in_use.ensures.found

pub returns-in-None-clause-only : goal.returns-in-None-clause-only
returns-in-None-clause-only c = λ pmac own.
    let s = c.self.inside in
    sym (ap (numbered c.args.self.now c.args.port) c.in-None.is) ∙ used_here c.self.inside.pod c.self.inside.position c.self.inside.tick
    c.self.inside.ports.items c.self.inside.orders c.self.invariant c.args.self.now c.self.view_is c.args.port c.requires
    c.from.result c.index.result.now c.from.ensures c.index.ensures c.args.amac c.in_use.result c.in_use.ensures.found
    ∙ only_one s.pod s.position s.tick s.ports.items s.orders c.self.invariant c.args.self.now c.self.view_is c.args.port c.requires c.from.result
    c.index.result.now
    c.from.ensures c.index.ensures c.args.amac c.in_use.ensures.only pmac own
