use Rattle.std.proofs.Common.{◌≡◌, ◌+◌, ap, arith, length, subst, sym}
use Rattle.pl_migrate.specs.AddressTables.{AddressTableView}
use Rattle.pl_delivery.specs.Aging.{TellsAged}
use Rattle.pl_delivery.proofs.Ticks.{all_told, more_told, none_told}
use Rattle.pl_delivery.proofs.aging.tell_all_aged.Goals as goal

pub loop-pmac-init : goal.loop-pmac-init
loop-pmac-init c = none_told c.args.address_table.now c.args.out.now c.args.probed

pub loop-pmac-preserved : goal.loop-pmac-preserved
loop-pmac-preserved c =
    more_told c.args.address_table.now c.loop-pmac.address_table c.next_aged.new.self c.args.out.now c.loop-pmac.out c.tell_next-done.new.out c.args.probed
    c.loop-pmac.done
    c.tell_next-done.result c.in-Some.pmac c.in-Some.number c.loop-pmac.invariant c.in-Some.ensures.aged c.next_aged.ensures.kept c.tell_next-done.ensures

pub loop-pmac-smaller : goal.loop-pmac-smaller
loop-pmac-smaller c = let fewer = c.in-Some.ensures.aged.fewer in omega arith

pub returns : goal.returns
returns c =
    let ended = c.in_default.ensures.aged in
    subst (λ (t : AddressTableView). TellsAged c.args.address_table.now t c.args.out.now c.loop-pmac.out c.args.probed c.loop-pmac.done) (sym ended.1)
    (all_told c.args.address_table.now c.loop-pmac.address_table c.args.out.now c.loop-pmac.out c.args.probed c.loop-pmac.done c.loop-pmac.invariant ended.0)
