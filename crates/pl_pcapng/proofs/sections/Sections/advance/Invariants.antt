use Rattle.pl_pcapng.specs.Cursor.{position_of, tail_of, PassesBlocks}
use Rattle.pl_pcapng.proofs.sections.Sections.advance.Given as goal

abbrev pub invariant-loop-block : goal.invariant-loop-block
invariant-loop-block l = PassesBlocks l.file (position_of l.fn.self) (position_of l.self)

abbrev pub decreases-loop-block : goal.decreases-loop-block
decreases-loop-block l = tail_of l.file l.self
