use Rattle.pl_inputs.specs.Reader.{HasRead, tail_of}
use Rattle.pl_inputs.proofs.loading.walk.read_records.Given as goal

abbrev pub invariant-loop-reader : goal.invariant-loop-reader
invariant-loop-reader l = HasRead l.file l.records.items l.reader

abbrev pub decreases-loop-reader : goal.decreases-loop-reader
decreases-loop-reader l = tail_of l.file l.reader
