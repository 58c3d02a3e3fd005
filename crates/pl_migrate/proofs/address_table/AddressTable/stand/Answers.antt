use Rattle.std.proofs.Common.{None, Some}
use Rattle.pl_migrate.proofs.Entries.{found_in, tenancies_of}
use Rattle.pl_migrate.proofs.Stands.{HasStood, MayStand, cannot_stand, has_stood, in_a_list_of, may_stand, takes_place}
use Rattle.pl_migrate.proofs.address_table.AddressTable.stand.Goals as goal

may : (c : goal.After-change-arg-in-Some-1) → MayStand c.self.inside.pod c.self.inside.position c.self.inside.tick c.self.inside.ports.items
    c.self.inside.orders c.self.invariant
    c.args.pmac c.in-Some.tenancy c.args.standing
may c =
    let s = c.self.inside in
    may_stand s.pod s.position s.tick s.ports.items s.orders c.self.invariant c.args.self.now c.args.pmac c.in-Some.tenancy c.args.standing c.self.view_is
    (found_in c.self.inside.ports.items c.as_slice.result.now c.args.pmac c.tenancy_at.result
    (Some c.in-Some.tenancy) c.tenancy_at.ensures c.as_slice.ensures.value c.in-Some.is) c.requires

pub change-requires-clause-there : goal.change-requires-clause-there
change-requires-clause-there c = found_in c.self.inside.ports.items c.as_slice.result.now c.args.pmac c.tenancy_at.result
    (Some c.in-Some.tenancy) c.tenancy_at.ensures c.as_slice.ensures.value c.in-Some.is

pub change-requires-clause-placed : goal.change-requires-clause-placed
change-requires-clause-placed c = c.self.invariant.placed c.args.pmac c.in-Some.tenancy (may c).here
    (found_in c.self.inside.ports.items c.as_slice.result.now c.args.pmac c.tenancy_at.result
    (Some c.in-Some.tenancy) c.tenancy_at.ensures c.as_slice.ensures.value c.in-Some.is)

pub change-requires-clause-from : goal.change-requires-clause-from
change-requires-clause-from c =
    let s = c.self.inside in
    in_a_list_of s.pod s.position s.tick s.ports.items s.orders c.self.invariant c.args.pmac c.in-Some.tenancy c.in-Some.tenancy.standing
    (found_in c.self.inside.ports.items c.as_slice.result.now c.args.pmac c.tenancy_at.result
    (Some c.in-Some.tenancy) c.tenancy_at.ensures c.as_slice.ensures.value c.in-Some.is)

pub change-requires-clause-to : goal.change-requires-clause-to
change-requires-clause-to c =
    let s = c.self.inside in
    in_a_list_of s.pod s.position s.tick s.ports.items s.orders c.self.invariant c.args.pmac c.in-Some.tenancy c.args.standing
    (found_in c.self.inside.ports.items c.as_slice.result.now c.args.pmac c.tenancy_at.result
    (Some c.in-Some.tenancy) c.tenancy_at.ensures c.as_slice.ensures.value c.in-Some.is)

pub change-requires-clause-unused : goal.change-requires-clause-unused
change-requires-clause-unused c =
    let s = c.self.inside in
    takes_place s.pod s.position s.tick s.ports.items s.orders c.self.invariant c.args.pmac c.in-Some.tenancy c.args.standing
    (tenancies_of s.ports.items c.args.pmac.port) (may c)

set : (c : goal.After-change) → HasStood c.self.inside.pod c.self.inside.position c.self.inside.tick c.self.inside.ports.items c.self.inside.orders
    c.self.invariant
    c.args.self.now c.change.new.ports.items c.change.new.orders c.args.pmac c.args.standing
set c =
    let s = c.self.inside in
    has_stood s.pod s.position s.tick s.ports.items s.orders c.self.invariant c.args.self.now c.change.new.ports.items c.change.new.orders c.args.pmac
    c.in-Some.tenancy c.args.standing c.self.view_is (found_in c.self.inside.ports.items c.as_slice.result.now c.args.pmac c.tenancy_at.result
    (Some c.in-Some.tenancy) c.tenancy_at.ensures c.as_slice.ensures.value c.in-Some.is) c.requires c.change.ensures

pub invariant_of-self : goal.invariant_of-self
invariant_of-self c = (set c).in_order

pub returns-in-Some-clause-asked : goal.returns-in-Some-clause-asked
returns-in-Some-clause-asked c = (set c).asked

pub returns-in-Some-clause-step : goal.returns-in-Some-clause-step
returns-in-Some-clause-step c = (set c).step

pub returns-in-Some-clause-others : goal.returns-in-Some-clause-others
returns-in-Some-clause-others c = (set c).others

pub returns-in-Some-clause-caught_up : goal.returns-in-Some-clause-caught_up
returns-in-Some-clause-caught_up c = (set c).caught_up

never : (c : goal.In_default) → ⊥
never c =
    let s = c.self.inside in
    cannot_stand s.pod s.position s.tick s.ports.items s.orders c.self.invariant c.args.self.now c.args.pmac c.args.standing c.self.view_is
    (found_in c.self.inside.ports.items c.as_slice.result.now c.args.pmac c.tenancy_at.result None c.tenancy_at.ensures c.as_slice.ensures.value
    c.in_default.is) c.requires

pub returns-in_default-clause-asked : goal.returns-in_default-clause-asked
returns-in_default-clause-asked c = absurd (never c)

pub returns-in_default-clause-step : goal.returns-in_default-clause-step
returns-in_default-clause-step c = absurd (never c)
