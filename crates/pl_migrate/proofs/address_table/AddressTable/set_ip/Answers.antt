use Rattle.std.proofs.Common.{◌<◌, None, Some, length, slice_set, subst, sym}
use Rattle.pl_migrate.proofs.Entries.{found_in, is_kept}
use Rattle.pl_migrate.proofs.Stands.{HasIpKept, has_ip_kept, never_none, read_port, takes_own_place, written}
use Rattle.pl_migrate.proofs.KnownIp.{of_ip}
use Rattle.pl_migrate.proofs.address_table.AddressTable.set_ip.Goals as goal

pub index_mut-requires : goal.index_mut-requires
index_mut-requires c =
    let ports = c.self.inside.ports in
    let within = (is_kept ports.items c.args.pmac c.in-Some.tenancy (found_in c.self.inside.ports.items c.as_slice.result.now c.args.pmac
    c.tenancy_at.result (Some c.in-Some.tenancy) c.tenancy_at.ensures c.as_slice.ensures.value c.in-Some.is)).within in
    subst (λ n. c.from.result < n) (sym ports.ok.0) (subst (λ n. n < length ports.items) (sym c.from.ensures) within)

pub replace-requires : goal.replace-requires
replace-requires c =
    let s = c.self.inside in
    let found = (found_in c.self.inside.ports.items c.as_slice.result.now c.args.pmac c.tenancy_at.result
    (Some c.in-Some.tenancy) c.tenancy_at.ensures c.as_slice.ensures.value c.in-Some.is) in
    let within = (is_kept s.ports.items c.args.pmac c.in-Some.tenancy found).within in
    takes_own_place s.pod s.position s.tick s.ports.items s.orders c.self.invariant c.args.pmac c.in-Some.tenancy c.args.ip c.index_mut.result.now found
    (read_port s.ports.items c.from.result c.args.pmac.port c.index_mut.result.now c.index_mut.ensures.value c.from.ensures within)

kept : (c : goal.After-self-1) → HasIpKept c.self.inside.pod c.self.inside.position c.self.inside.tick c.self.inside.ports.items c.self.inside.orders
    c.self.invariant
    c.args.self.now (slice_set c.self.inside.ports.items c.from.result c.replace.new.self) c.args.pmac c.args.ip
kept c =
    let s = c.self.inside in
    let found = (found_in c.self.inside.ports.items c.as_slice.result.now c.args.pmac c.tenancy_at.result
    (Some c.in-Some.tenancy) c.tenancy_at.ensures c.as_slice.ensures.value c.in-Some.is) in
    let within = (is_kept s.ports.items c.args.pmac c.in-Some.tenancy found).within in
    has_ip_kept s.pod s.position s.tick s.ports.items s.orders c.self.invariant c.args.self.now
    (slice_set s.ports.items c.from.result c.replace.new.self) c.args.pmac
    c.in-Some.tenancy c.args.ip c.self.view_is found c.requires
    (written s.ports.items c.from.result c.args.pmac c.index_mut.result.now c.replace.new.self (of_ip c.in-Some.tenancy c.args.ip) c.from.ensures
    (read_port s.ports.items c.from.result c.args.pmac.port c.index_mut.result.now c.index_mut.ensures.value c.from.ensures within) c.replace.ensures)

pub invariant_of-self : goal.invariant_of-self
invariant_of-self c = (kept c).in_order

pub returns-in-Some-clause-step : goal.returns-in-Some-clause-step
returns-in-Some-clause-step c = (kept c).step

pub returns-in-Some-clause-caught_up : goal.returns-in-Some-clause-caught_up
returns-in-Some-clause-caught_up c = (kept c).caught_up

pub returns-in_default-clause-step : goal.returns-in_default-clause-step
returns-in_default-clause-step c =
    let s = c.self.inside in
    absurd (never_none s.pod s.position s.tick s.ports.items s.orders c.self.invariant c.args.self.now c.args.pmac c.self.view_is
    (found_in c.self.inside.ports.items c.as_slice.result.now c.args.pmac c.tenancy_at.result None c.tenancy_at.ensures c.as_slice.ensures.value
    c.in_default.is) c.requires)
