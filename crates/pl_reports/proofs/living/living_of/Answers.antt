use Rattle.std.proofs.Common.{arith}
use Rattle.std.proofs.lemmas.Grind.{common_steps}
use Rattle.pl_reports.specs.Kept.{is_living}
use Rattle.pl_reports.proofs.Sorting.{passing_done, passing_next}
use Rattle.pl_reports.proofs.living.living_of.Goals as goal

pub loop-neighbour-preserved : goal.loop-neighbour-preserved
loop-neighbour-preserved c =
    passing_next (is_living c.args.links.now.entries c.args.switch)
    c.args.neighbours.now c.loop-neighbour.neighbour-index _ c.loop-neighbour.list c.add_if.new.list c.is_living-passes.result
    (grind (arith, common_steps)) c.loop-neighbour.invariant c.in_ok-add_if.ensures c.is_living-passes.ensures

pub returns : goal.returns
returns c =
    passing_done (is_living c.args.links.now.entries c.args.switch) c.args.neighbours.now c.loop-neighbour.neighbour-index
    c.loop-neighbour.list c.loop-neighbour-test.false c.loop-neighbour.invariant c.requires
