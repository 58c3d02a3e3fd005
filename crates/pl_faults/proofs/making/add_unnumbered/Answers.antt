use Rattle.std.proofs.Common.{◌∙◌, ap}
use Rattle.std.specs.Prelude.{fold}
use Rattle.std.proofs.lemmas.List.{take_all}
use Rattle.pl_faults.specs.Missed.{with_unnumbered}
use Rattle.pl_faults.proofs.making.add_unnumbered.Goals as goal

pub returns : goal.returns
returns c =
    c.loop-edge.invariant ∙ ap (fold (with_unnumbered c.args.neighbour) c.args.list.now) (take_all c.loop-edge.edge-index c.args.missed.now c.loop-edge-test.false)
