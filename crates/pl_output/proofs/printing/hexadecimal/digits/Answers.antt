use Rattle.std.proofs.Common.{sym, arith, refl}
use Rattle.hex.specs.Hex.{encode_with}
use Rattle.pl_journal.proofs.Exports.{pair_at}
use Rattle.pl_output.proofs.printing.hexadecimal.digits.Goals as goal

pub returns-clause-encoded : goal.returns-clause-encoded
unfolding encode_with
returns-clause-encoded c = rw (c.from.ensures, c.from-2.ensures) refl

pub returns-clause-pair : goal.returns-clause-pair
unfolding encode_with
returns-clause-pair c = rw (c.from.ensures, c.from-2.ensures) (sym (pair_at c.args.byte (omega (arith, c.ranges.byte.fits))))
