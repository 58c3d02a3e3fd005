use Rattle.std.proofs.Common.{◌≡◌, ◌*◌}
use Rattle.pl_bits.specs.Bits.{bits_of}
use Rattle.pl_bits.specs.Rows.{trues}
use Rattle.pl_bits.proofs.words.count_bits.Given as goal

abbrev pub invariant-loop-i : goal.invariant-loop-i
invariant-loop-i l = l.count ≡ trues (bits_of l.words (l.i * 64))
