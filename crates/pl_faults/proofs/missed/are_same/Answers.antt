use Rattle.std.proofs.lemmas.Slice.Eq.{slice_eq-Decides}
use Rattle.pl_faults.proofs.Missing.{edge_decides}
use Rattle.pl_faults.proofs.missed.are_same.Goals as goal

pub returns : goal.returns
returns c h = (slice_eq-Decides edge_decides c.args.a.now c.args.b.now c.eq.result c.eq.ensures).0 h
