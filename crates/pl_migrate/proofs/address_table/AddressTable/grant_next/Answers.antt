use Rattle.std.proofs.Common.{◌≡◌, ◌<◌, ◌∙◌, List, None, Some, ap, length, subst, sym, refl}
use Rattle.pl_migrate.specs.declared.tenancy.Standing.TheVariants.{Fresh}
use Rattle.pl_migrate.proofs.Entries.{found_in, tenancies_of}
use Rattle.pl_migrate.proofs.Gives.{HasGiven, caught_up_given, err_given, given_again, has_room, in_order_given, lists_there, next_of, step_given, takes_free_place, unused_new, within}
use Rattle.pl_migrate.proofs.Stands.{in_a_list_of, read_port}
use Rattle.pl_migrate.proofs.address_table.AddressTable.grant_next.Goals as goal

pub change-requires-clause-there : goal.change-requires-clause-there
change-requires-clause-there c = found_in c.self.inside.ports.items c.as_slice.result.now c.args.pmac c.tenancy_at.result
    (Some c.in-Some.tenancy) c.tenancy_at.ensures c.as_slice.ensures.value c.in-Some.is

pub change-requires-clause-placed : goal.change-requires-clause-placed
change-requires-clause-placed c =
    let s = c.self.inside in
    let next = next_of s.pod s.position s.tick s.ports.items s.orders c.self.invariant c.args.self.now c.self.view_is c.args.pmac c.args.amac c.args.ip
    c.requires.port c.requires.unused c.requires.next in
    c.self.invariant.placed c.args.pmac c.in-Some.tenancy next.here (found_in c.self.inside.ports.items c.as_slice.result.now c.args.pmac
    c.tenancy_at.result (Some c.in-Some.tenancy) c.tenancy_at.ensures c.as_slice.ensures.value c.in-Some.is)

pub change-requires-clause-from : goal.change-requires-clause-from
change-requires-clause-from c =
    let s = c.self.inside in
    in_a_list_of s.pod s.position s.tick s.ports.items s.orders c.self.invariant c.args.pmac c.in-Some.tenancy c.in-Some.tenancy.standing
    (found_in c.self.inside.ports.items c.as_slice.result.now c.args.pmac c.tenancy_at.result
    (Some c.in-Some.tenancy) c.tenancy_at.ensures c.as_slice.ensures.value c.in-Some.is)

pub change-requires-clause-to : goal.change-requires-clause-to
change-requires-clause-to c =
    let s = c.self.inside in
    in_a_list_of s.pod s.position s.tick s.ports.items s.orders c.self.invariant c.args.pmac c.in-Some.tenancy Fresh
    (found_in c.self.inside.ports.items c.as_slice.result.now c.args.pmac c.tenancy_at.result
    (Some c.in-Some.tenancy) c.tenancy_at.ensures c.as_slice.ensures.value c.in-Some.is)

pub change-requires-clause-unused : goal.change-requires-clause-unused
change-requires-clause-unused c =
    let s = c.self.inside in
    takes_free_place s.pod s.position s.tick s.ports.items s.orders c.self.invariant c.args.self.now c.self.view_is c.args.pmac c.args.amac c.args.ip
    c.requires.port c.requires.unused c.requires.next c.in-Some.tenancy (tenancies_of s.ports.items c.args.pmac.port) refl

given : (c : goal.After-change) → HasGiven c.self.inside.pod c.self.inside.position c.self.inside.tick c.self.inside.ports.items c.self.inside.orders
    c.self.invariant
    c.args.self.now c.self.view_is c.args.pmac c.args.amac c.args.ip c.requires.port c.requires.unused c.requires.next c.change.new.ports.items
    c.change.new.orders
given c =
    let s = c.self.inside in
    given_again s.pod s.position s.tick s.ports.items s.orders c.self.invariant c.args.self.now c.self.view_is c.args.pmac c.args.amac c.args.ip
    c.requires.port c.requires.unused c.requires.next c.change.new.ports.items c.change.new.orders c.in-Some.tenancy
    (found_in c.self.inside.ports.items c.as_slice.result.now c.args.pmac c.tenancy_at.result
    (Some c.in-Some.tenancy) c.tenancy_at.ensures c.as_slice.ensures.value c.in-Some.is) c.change.ensures

pub invariant_of-self : goal.invariant_of-self
invariant_of-self c = (given c).in_order

pub returns-in-Some-clause-step : goal.returns-in-Some-clause-step
returns-in-Some-clause-step c = (given c).step

pub returns-in-Some-clause-caught_up : goal.returns-in-Some-clause-caught_up
returns-in-Some-clause-caught_up c = (given c).caught_up

pub index_mut-requires : goal.index_mut-requires
index_mut-requires c =
    subst (λ n. c.from.result < n) (sym c.self.inside.ports.ok.0) (subst (λ n. n < length c.self.inside.ports.items) (sym c.from.ensures)
    (within c.self.inside.pod c.self.inside.position c.self.inside.tick c.self.inside.ports.items c.self.inside.orders c.self.invariant c.args.self.now
    c.self.view_is
    c.args.pmac c.args.amac c.args.ip c.requires.port c.requires.unused c.requires.next))

pub push-requires-clause-room : goal.push-requires-clause-room
push-requires-clause-room c =
    let s = c.self.inside in
    has_room s.pod s.position s.tick s.ports.items s.orders c.self.invariant c.args.self.now c.self.view_is c.args.pmac c.args.amac c.args.ip
    c.requires.port c.requires.unused c.requires.next c.index_mut.result.now
    (read_port c.self.inside.ports.items c.from.result c.args.pmac.port c.index_mut.result.now c.index_mut.ensures.value c.from.ensures
    (within c.self.inside.pod c.self.inside.position c.self.inside.tick c.self.inside.ports.items c.self.inside.orders c.self.invariant c.args.self.now
    c.self.view_is
    c.args.pmac c.args.amac c.args.ip c.requires.port c.requires.unused c.requires.next))
    (found_in c.self.inside.ports.items c.as_slice.result.now c.args.pmac c.tenancy_at.result None c.tenancy_at.ensures c.as_slice.ensures.value
    c.in-None.is)

pub push-requires-clause-unused : goal.push-requires-clause-unused
push-requires-clause-unused c =
    let s = c.self.inside in
    unused_new s.pod s.position s.tick s.ports.items s.orders c.self.invariant c.args.self.now c.self.view_is c.args.pmac c.args.amac c.args.ip
    c.requires.port c.requires.unused c.requires.next c.index_mut.result.now
    (read_port c.self.inside.ports.items c.from.result c.args.pmac.port c.index_mut.result.now c.index_mut.ensures.value c.from.ensures
    (within c.self.inside.pod c.self.inside.position c.self.inside.tick c.self.inside.ports.items c.self.inside.orders c.self.invariant c.args.self.now
    c.self.view_is
    c.args.pmac c.args.amac c.args.ip c.requires.port c.requires.unused c.requires.next))

pub push-requires-clause-lists : goal.push-requires-clause-lists
push-requires-clause-lists c =
    let s = c.self.inside in
    lists_there s.pod s.position s.tick s.ports.items s.orders c.self.invariant c.args.self.now c.self.view_is c.args.pmac c.args.amac c.args.ip
    c.requires.port c.requires.unused c.requires.next

pub invariant_of-self-in-None : goal.invariant_of-self-in-None
invariant_of-self-in-None c =
    let s = c.self.inside in
    in_order_given s.pod s.position s.tick s.ports.items s.orders c.self.invariant c.args.self.now c.self.view_is c.args.pmac c.args.amac c.args.ip
    c.requires.port c.requires.unused c.requires.next c.from.result c.index_mut.result.now c.push.new.self c.push.new.orders c.push.result
    c.from.ensures c.index_mut.ensures.value (read_port c.self.inside.ports.items c.from.result c.args.pmac.port c.index_mut.result.now
    c.index_mut.ensures.value c.from.ensures (within c.self.inside.pod c.self.inside.position c.self.inside.tick c.self.inside.ports.items
    c.self.inside.orders c.self.invariant c.args.self.now c.self.view_is
    c.args.pmac c.args.amac c.args.ip c.requires.port c.requires.unused c.requires.next))
    (found_in c.self.inside.ports.items c.as_slice.result.now c.args.pmac c.tenancy_at.result None c.tenancy_at.ensures c.as_slice.ensures.value
    c.in-None.is) c.push.ensures.ok c.push.ensures.err

pub returns-in-None-clause-step : goal.returns-in-None-clause-step
returns-in-None-clause-step c =
    let s = c.self.inside in
    step_given s.pod s.position s.tick s.ports.items s.orders c.self.invariant c.args.self.now c.self.view_is c.args.pmac c.args.amac c.args.ip
    c.requires.port c.requires.unused c.requires.next c.from.result c.index_mut.result.now c.push.new.self c.push.new.orders c.push.result
    c.from.ensures c.index_mut.ensures.value (read_port c.self.inside.ports.items c.from.result c.args.pmac.port c.index_mut.result.now
    c.index_mut.ensures.value c.from.ensures (within c.self.inside.pod c.self.inside.position c.self.inside.tick c.self.inside.ports.items
    c.self.inside.orders c.self.invariant c.args.self.now c.self.view_is
    c.args.pmac c.args.amac c.args.ip c.requires.port c.requires.unused c.requires.next))
    (found_in c.self.inside.ports.items c.as_slice.result.now c.args.pmac c.tenancy_at.result None c.tenancy_at.ensures c.as_slice.ensures.value
    c.in-None.is) c.push.ensures.ok

pub returns-in-None-clause-err : goal.returns-in-None-clause-err
returns-in-None-clause-err c =
    let s = c.self.inside in
    err_given s.pod s.position s.tick s.ports.items s.orders c.self.invariant c.args.self.now c.self.view_is c.args.pmac c.args.amac c.args.ip
    c.requires.port c.requires.unused c.requires.next c.from.result c.index_mut.result.now c.push.new.self c.push.new.orders c.push.result
    c.index_mut.ensures.value c.push.ensures.err

pub returns-in-None-clause-caught_up : goal.returns-in-None-clause-caught_up
returns-in-None-clause-caught_up c =
    let s = c.self.inside in
    caught_up_given s.pod s.position s.tick s.ports.items s.orders c.self.invariant c.args.self.now c.self.view_is c.args.pmac c.args.amac c.args.ip
    c.requires.port c.requires.unused c.requires.next c.from.result c.index_mut.result.now c.push.new.self c.push.new.orders c.push.result
    c.from.ensures c.index_mut.ensures.value (read_port c.self.inside.ports.items c.from.result c.args.pmac.port c.index_mut.result.now
    c.index_mut.ensures.value c.from.ensures (within c.self.inside.pod c.self.inside.position c.self.inside.tick c.self.inside.ports.items
    c.self.inside.orders c.self.invariant c.args.self.now c.self.view_is
    c.args.pmac c.args.amac c.args.ip c.requires.port c.requires.unused c.requires.next))
    (found_in c.self.inside.ports.items c.as_slice.result.now c.args.pmac c.tenancy_at.result None c.tenancy_at.ensures c.as_slice.ensures.value
    c.in-None.is) c.push.ensures.ok c.push.ensures.err
