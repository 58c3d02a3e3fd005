use Rattle.std.proofs.Common.{◌≡◌, ◌*◌, length, arith, sym}
use Rattle.pl_wiring.specs.Labels.{switch_count}
use Rattle.pl_wiring.proofs.Entered.{enter_host, host_within}
use Rattle.pl_wiring.proofs.tables.host_table.Goals as goal

pub index_mut-requires : goal.index_mut-requires
index_mut-requires c =
    let index = host_within c.args.k c.loop-number.number c.args.hosts.now c.index-hosts-number.result c.requires.in_range c.loop-number-test.true c.index-hosts-number.is in
    omega (arith, index, c.index_in_table.ensures)

pub loop-number-preserved : goal.loop-number-preserved
loop-number-preserved c =
    let long : length c.loop-number.table.items ≡ switch_count c.args.k * c.args.k = (let ok = c.loop-number.table.ok in omega (arith, c.loop-number.invariant.0)) in
    let entered = enter_host c.args.k c.loop-number.number c.args.hosts.now c.loop-number.table.items c.index-hosts-number.result
    c.requires.in_range c.requires.apart c.loop-number-test.true long c.loop-number.invariant.1 in
    (c.loop-number.invariant.0, rw c.index_in_table.ensures (rw (sym c.index-hosts-number.is) at entered))
