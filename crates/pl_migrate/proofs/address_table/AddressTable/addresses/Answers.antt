use Rattle.std.proofs.Common.{◌≤◌, ◌+◌, List, length, ap, ◌∙◌, arith, sym}
use Rattle.std.specs.List.{sum_by}
use Rattle.pl_migrate.specs.declared.tenancy.Tenancy.{Tenancy}
use Rattle.pl_migrate.specs.AddressTables.{AddressTableView}
use Rattle.pl_migrate.proofs.Counted.{all_counted, all_shown, counted_first, counted_more}
use Rattle.pl_migrate.proofs.address_table.AddressTable.addresses.Goals as goal

pub loop-port-init : goal.loop-port-init
loop-port-init c = counted_first c.deref-port-items.result.now

pub overflow_add-count : goal.overflow_add-count
overflow_add-count c =
    let ports = ap (λ (ports : List (List Tenancy)). length ports) c.deref-port-items.ensures.value in
    let most = c.self.invariant.few in
    let within = c.loop-port.invariant.within in
    let short = c.len-count.ensures.within in
    let inside = c.loop-port-test.true in
    omega arith

pub loop-port-preserved : goal.loop-port-preserved
loop-port-preserved c =
    let short = c.len-count.ensures.within in
    counted_more c.deref-port-items.result.now c.loop-port.port-index c.loop-port.count (c.loop-port.count + c.len-count.result) c.port-item.result
    c.loop-port-test.true c.port-item.is (omega arith) (ap (λ n. c.loop-port.count + n) c.len-count.ensures.len) c.loop-port.invariant

pub returns : goal.returns
returns c =
    let done : length c.deref-port-items.result.now ≤ c.loop-port.port-index = omega arith in
    all_counted c.deref-port-items.result.now c.loop-port.port-index c.loop-port.count done c.loop-port.invariant
    ∙ ap (λ (ports : List (List Tenancy)). sum_by length ports) c.deref-port-items.ensures.value
    ∙ sym (all_shown c.self.inside.tick c.self.inside.ports.items)
    ∙ ap (λ (address_table : AddressTableView). sum_by length address_table.grants) c.self.view_is
