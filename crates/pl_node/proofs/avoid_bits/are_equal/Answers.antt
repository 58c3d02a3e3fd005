use Rattle.std.proofs.lemmas.Slice.Eq.{slice_eq-Decides}
use Rattle.pl_node.proofs.AvoidRows.{row_eq}
use Rattle.pl_node.proofs.avoid_bits.are_equal.Goals as goal

pub returns : goal.returns
returns c h = (slice_eq-Decides row_eq c.args.a.now c.args.b.now c.eq.result c.eq.ensures).0 h
