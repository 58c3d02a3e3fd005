use Rattle.std.proofs.Common.{◌≡◌, ◌∙◌, inl, inr, List, None, Option, Some, ap, refl, sym, subst, arith, length}
use Rattle.std.specs.Option.{MatchOption}
use Rattle.pl_pmac.specs.declared.pmac.Pmac.{Pmac}
use Rattle.pl_migrate.specs.declared.tenancy.Tenancy.{Tenancy}
use Rattle.pl_migrate.specs.Keeping.{IsToBeAsked, IsYoung}
use Rattle.pl_migrate.specs.Tenancies.{IsDue, addresses_in}
use Rattle.pl_switch_rule.specs.Aging.{ticks_to_probe}
use Rattle.pl_migrate.proofs.Asked.{HasAsked, IsToAsk, from_there, has_asked, is_used, lists_there, none_to_ask, to_ask}
use Rattle.pl_migrate.proofs.address_table.AddressTable.next_probe.Goals as goal

pub first_due-requires : goal.first_due-requires
first_due-requires c = let many = c.self.invariant.lists in omega arith

pub returns-in_err-pmac : goal.returns-in_err-pmac
returns-in_err-pmac c =
    let s = c.self.inside in
    let none = none_to_ask s.pod s.position s.tick s.ports.items s.orders c.self.invariant c.args.self.now c.self.view_is
    (subst (λ (o : Option (Pmac × Tenancy)). IsDue s.ports.items (addresses_in s.orders 0) s.tick ticks_to_probe o) c.in_err-pmac.was (subst (λ
    (ports : List (List Tenancy)). IsDue ports (addresses_in c.self.inside.orders 0) c.self.inside.tick ticks_to_probe c.first_due.result)
    c.as_slice.ensures.value c.first_due.ensures)) in
    subst (λ (o : Option Pmac). MatchOption o (IsYoung c.args.self.now ticks_to_probe c.args.self.now.fresh × (c.args.self.now
    ≡ c.args.self.now)) (IsToBeAsked c.args.self.now c.args.self.now))
    (sym c.from_residual.ensures) (none, refl)

pub change-requires-clause-there : goal.change-requires-clause-there
change-requires-clause-there c = (to_ask c.self.inside.pod c.self.inside.position c.self.inside.tick c.self.inside.ports.items c.self.inside.orders
    c.self.invariant c.args.self.now c.self.view_is
    (c.in_ok-pmac.pmac, c.in_ok-pmac.tenancy)
    (subst (λ (o : Option (Pmac × Tenancy)). IsDue c.self.inside.ports.items
    (addresses_in c.self.inside.orders 0) c.self.inside.tick ticks_to_probe o) c.in_ok-pmac.was
    (subst (λ (ports : List (List Tenancy)). IsDue ports (addresses_in c.self.inside.orders 0) c.self.inside.tick ticks_to_probe c.first_due.result)
    c.as_slice.ensures.value c.first_due.ensures))).found

pub change-requires-clause-placed : goal.change-requires-clause-placed
change-requires-clause-placed c = c.self.invariant.placed c.in_ok-pmac.pmac c.in_ok-pmac.tenancy
    (to_ask c.self.inside.pod c.self.inside.position c.self.inside.tick c.self.inside.ports.items c.self.inside.orders c.self.invariant c.args.self.now
    c.self.view_is
    (c.in_ok-pmac.pmac, c.in_ok-pmac.tenancy)
    (subst (λ (o : Option (Pmac × Tenancy)). IsDue c.self.inside.ports.items
    (addresses_in c.self.inside.orders 0) c.self.inside.tick ticks_to_probe o) c.in_ok-pmac.was
    (subst (λ (ports : List (List Tenancy)). IsDue ports (addresses_in c.self.inside.orders 0) c.self.inside.tick ticks_to_probe c.first_due.result)
    c.as_slice.ensures.value c.first_due.ensures))).here (to_ask c.self.inside.pod c.self.inside.position c.self.inside.tick c.self.inside.ports.items
    c.self.inside.orders c.self.invariant c.args.self.now c.self.view_is
    (c.in_ok-pmac.pmac, c.in_ok-pmac.tenancy)
    (subst (λ (o : Option (Pmac × Tenancy)). IsDue c.self.inside.ports.items
    (addresses_in c.self.inside.orders 0) c.self.inside.tick ticks_to_probe o) c.in_ok-pmac.was
    (subst (λ (ports : List (List Tenancy)). IsDue ports (addresses_in c.self.inside.orders 0) c.self.inside.tick ticks_to_probe c.first_due.result)
    c.as_slice.ensures.value c.first_due.ensures))).found

pub change-requires-clause-from : goal.change-requires-clause-from
change-requires-clause-from c =
    let s = c.self.inside in
    from_there s.pod s.position s.tick s.ports.items s.orders c.self.invariant c.args.self.now c.self.view_is c.in_ok-pmac.pmac c.in_ok-pmac.tenancy
    (to_ask c.self.inside.pod c.self.inside.position c.self.inside.tick c.self.inside.ports.items c.self.inside.orders c.self.invariant c.args.self.now
    c.self.view_is
    (c.in_ok-pmac.pmac, c.in_ok-pmac.tenancy)
    (subst (λ (o : Option (Pmac × Tenancy)). IsDue c.self.inside.ports.items
    (addresses_in c.self.inside.orders 0) c.self.inside.tick ticks_to_probe o) c.in_ok-pmac.was
    (subst (λ (ports : List (List Tenancy)). IsDue ports (addresses_in c.self.inside.orders 0) c.self.inside.tick ticks_to_probe c.first_due.result)
    c.as_slice.ensures.value c.first_due.ensures)))

pub change-requires-clause-to : goal.change-requires-clause-to
change-requires-clause-to c =
    let s = c.self.inside in lists_there s.pod s.position s.tick s.ports.items s.orders c.self.invariant c.args.self.now c.self.view_is 1 (omega arith)

pub change-requires-clause-unused : goal.change-requires-clause-unused
change-requires-clause-unused c =
    let s = c.self.inside in
    λ used. inl (
      refl,
      is_used s.pod s.position s.tick s.ports.items s.orders c.self.invariant c.args.self.now c.self.view_is c.in_ok-pmac.pmac c.in_ok-pmac.tenancy
          (to_ask c.self.inside.pod c.self.inside.position c.self.inside.tick c.self.inside.ports.items c.self.inside.orders c.self.invariant
          c.args.self.now c.self.view_is
          (c.in_ok-pmac.pmac, c.in_ok-pmac.tenancy)
          (subst (λ (o : Option (Pmac × Tenancy)). IsDue c.self.inside.ports.items
          (addresses_in c.self.inside.orders 0) c.self.inside.tick ticks_to_probe o) c.in_ok-pmac.was
          (subst (λ (ports : List (List Tenancy)). IsDue ports (addresses_in c.self.inside.orders 0) c.self.inside.tick ticks_to_probe c.first_due.result)
          c.as_slice.ensures.value c.first_due.ensures))),
    )

asked : (c : goal.After-change) → HasAsked c.self.inside.pod c.self.inside.position c.self.inside.tick c.self.inside.ports.items c.self.inside.orders
    c.self.invariant
    c.args.self.now c.self.view_is c.change.new.ports.items c.change.new.orders c.in_ok-pmac.pmac
asked c =
    let s = c.self.inside in
    has_asked s.pod s.position s.tick s.ports.items s.orders c.self.invariant c.args.self.now c.self.view_is c.change.new.ports.items c.change.new.orders
    c.in_ok-pmac.pmac c.in_ok-pmac.tenancy (to_ask c.self.inside.pod c.self.inside.position c.self.inside.tick c.self.inside.ports.items
    c.self.inside.orders c.self.invariant c.args.self.now c.self.view_is
    (c.in_ok-pmac.pmac, c.in_ok-pmac.tenancy)
    (subst (λ (o : Option (Pmac × Tenancy)). IsDue c.self.inside.ports.items
    (addresses_in c.self.inside.orders 0) c.self.inside.tick ticks_to_probe o) c.in_ok-pmac.was
    (subst (λ (ports : List (List Tenancy)). IsDue ports (addresses_in c.self.inside.orders 0) c.self.inside.tick ticks_to_probe c.first_due.result)
    c.as_slice.ensures.value c.first_due.ensures))) c.change.ensures

pub invariant_of-self : goal.invariant_of-self
invariant_of-self c = (asked c).in_order

pub returns : goal.returns
returns c = (asked c).becomes
