use Rattle.std.proofs.Common.{arith}
use Rattle.pl_reports.proofs.Exports.{passing_done}
use Rattle.pl_groups.proofs.needs.edges_in.Goals as goal

pub returns : goal.returns
returns c = λ f is.
    passing_done f c.args.needed.now c.loop-i.i c.loop-i.edges (omega arith) (c.loop-i.invariant f is) c.requires
