use Rattle.std.proofs.Common.{◌≡◌, ◌<◌, ◌∙◌, [], List, None, Option, Some, ap, sym, subst, arith, length}
use Rattle.std.specs.List.{slice_get}
use Rattle.std.specs.Option.{IfSome}
use Rattle.pl_pmac.specs.declared.pmac.Pmac.{Pmac}
use Rattle.pl_migrate.specs.AddressTables.{AddressTableView, freed_of, granted_in, next_address}
use Rattle.pl_migrate.specs.Keeping.{IsFreeOrNew}
use Rattle.pl_migrate.proofs.NextOf.{freed_given, freed_is_next, new_given, new_is_next, within_list}
use Rattle.pl_migrate.proofs.address_table.AddressTable.next_address.Goals as goal

pub first_free-requires : goal.first_free-requires
first_free-requires c =
    let s = c.self.inside in within_list s.pod s.position s.tick s.ports.items s.orders c.self.invariant c.args.self.now c.self.view_is c.args.port c.requires

pub returns-in-Some-clause-next : goal.returns-in-Some-clause-next
returns-in-Some-clause-next c =
    let s = c.self.inside in
    freed_is_next s.pod s.position s.tick s.ports.items s.orders c.self.invariant c.args.self.now c.self.view_is c.args.port c.requires c.in-Some.pmac
    (sym c.first_free.ensures ∙ c.in-Some.is)

pub returns-in-Some-clause-nobodys : goal.returns-in-Some-clause-nobodys
returns-in-Some-clause-nobodys c =
    let s = c.self.inside in
    freed_given s.pod s.position s.tick s.ports.items s.orders c.self.invariant c.args.self.now c.self.view_is c.args.port c.requires c.in-Some.pmac
    (sym c.first_free.ensures ∙ c.in-Some.is)

pub returns-in-None-clause-next : goal.returns-in-None-clause-next
returns-in-None-clause-next c =
    let s = c.self.inside in
    new_is_next s.pod s.position s.tick s.ports.items s.orders c.self.invariant c.args.self.now c.self.view_is c.args.port c.requires c.next_new.result
    (sym c.first_free.ensures ∙ c.in-None.is) c.next_new.ensures

pub returns-in-None-clause-nobodys : goal.returns-in-None-clause-nobodys
returns-in-None-clause-nobodys c =
    let s = c.self.inside in
    new_given s.pod s.position s.tick s.ports.items s.orders c.self.invariant c.args.self.now c.self.view_is c.args.port c.requires c.next_new.result
    (sym c.first_free.ensures ∙ c.in-None.is) c.next_new.ensures
