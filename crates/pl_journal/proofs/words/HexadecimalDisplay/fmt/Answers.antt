use Rattle.std.proofs.Common.{rules}
use Rattle.std.proofs.Output.{has_written_append, has_written_of_eq, writes_in_calls_nil}
use Rattle.hex.specs.Hex.{encode_with}
use Rattle.pl_journal.proofs.Hexadecimal.{one_byte_more}
use Rattle.pl_journal.proofs.words.HexadecimalDisplay.fmt.Goals as goal

pub loop-byte-init : goal.loop-byte-init
unfolding encode_with
loop-byte-init g c = λ plain. record { wrote = writes_in_calls_nil _ _; plain = plain }

pub loop-byte-preserved : goal.loop-byte-preserved
loop-byte-preserved g c = λ plain.
    let so_far = c.loop-byte.invariant plain in
    has_written_of_eq _ _ _ _ _
    (one_byte_more c.args.self.now.0.now c.loop-byte.byte-index c.loop-byte-test.true)
    (has_written_append _ _ _ _ _ _ so_far (c.in_ok-write.ensures.writes so_far.plain (search rules)))
