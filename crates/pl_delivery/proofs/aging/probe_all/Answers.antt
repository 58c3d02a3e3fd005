use Rattle.std.proofs.Common.{◌≡◌, ◌+◌, ap, arith, length, subst, sym}
use Rattle.pl_migrate.specs.AddressTables.{AddressTableView}
use Rattle.pl_delivery.specs.Aging.{Probes}
use Rattle.pl_delivery.proofs.Ticks.{all_probed, more_probed, next_in_use, none_probed}
use Rattle.pl_delivery.proofs.aging.probe_all.Goals as goal

pub loop-pmac-init : goal.loop-pmac-init
loop-pmac-init c = none_probed c.args.address_table.now c.args.out.now _

pub probe_next-done-requires : goal.probe_next-done-requires
probe_next-done-requires c =
    next_in_use c.args.address_table.now c.loop-pmac.address_table c.next_probe.new.self c.args.out.now c.loop-pmac.out c.loop-pmac.done c.in-Some.pmac
    c.requires c.loop-pmac.invariant c.in-Some.ensures

pub loop-pmac-preserved : goal.loop-pmac-preserved
loop-pmac-preserved c =
    more_probed c.args.address_table.now c.loop-pmac.address_table c.next_probe.new.self c.args.out.now c.loop-pmac.out c.probe_next-done.new.out
    c.loop-pmac.done
    c.probe_next-done.result c.in-Some.pmac c.requires c.loop-pmac.invariant c.in-Some.ensures c.probe_next-done.ensures

pub loop-pmac-smaller : goal.loop-pmac-smaller
loop-pmac-smaller c = let first = ap length c.in-Some.ensures.first in omega arith

pub returns : goal.returns
returns c =
    let ended = c.in_default.ensures in
    subst (λ (t : AddressTableView). Probes c.args.address_table.now t c.args.out.now c.loop-pmac.out c.loop-pmac.done) (sym ended.1)
    (all_probed c.args.address_table.now c.loop-pmac.address_table c.args.out.now c.loop-pmac.out c.loop-pmac.done c.loop-pmac.invariant ended.0)
