use Rattle.std.proofs.Common.{◌≡◌, ◌*◌, length, arith}
use Rattle.pl_wiring.specs.Labels.{switch_count}
use Rattle.pl_wiring.proofs.Entered.{enter_link, link_within}
use Rattle.pl_wiring.proofs.LinkOrder.{no_link}
use Rattle.pl_wiring.proofs.tables.link_table.Goals as goal

pub index_mut-requires : goal.index_mut-requires
index_mut-requires c =
    let indices = link_within c.args.k c.loop-number.number c.args.links.now no_link c.requires.tree c.loop-number-test.true in
    omega (arith, indices.0, c.index_in_table.ensures)

pub index_mut-requires-in-loop-number : goal.index_mut-requires-in-loop-number
index_mut-requires-in-loop-number c =
    let indices = link_within c.args.k c.loop-number.number c.args.links.now no_link c.requires.tree c.loop-number-test.true in
    omega (arith, indices.1, c.index_in_table-in-loop-number.ensures)

pub loop-number-preserved : goal.loop-number-preserved
loop-number-preserved c =
    let long : length c.loop-number.table.items ≡ switch_count c.args.k * c.args.k = (let ok = c.loop-number.table.ok in omega (arith, c.loop-number.invariant.0)) in (
      c.loop-number.invariant.0,
      rw (c.index_in_table.ensures, c.index_in_table-in-loop-number.ensures)
          (enter_link c.args.k c.loop-number.number c.args.links.now c.loop-number.table.items no_link c.requires.tree c.loop-number-test.true long c.loop-number.invariant.1),
    )

pub returns-clause-index : goal.returns-clause-index
returns-clause-index c =
    let all : c.loop-number.number ≡ length c.args.links.now = omega arith in rw (← all) c.loop-number.invariant.1
