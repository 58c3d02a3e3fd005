use Rattle.std.proofs.Common.{◌<◌, false, ◌∙◌, arith}
use Rattle.std.proofs.lemmas.Fmt.{hex_byte}
use Rattle.pl_journal.proofs.Hexadecimal.{pair_at}
use Rattle.pl_journal.proofs.words.HexPairDisplay.fmt.Goals as goal

pub returns-clause-writes : goal.returns-clause-writes
returns-clause-writes g c =
    let small : c.args.self.now.0 < 256 = omega arith in
    let h = (rw (c.in_radix.ensures, c.laid_out.ensures) at c.write.ensures.writes) in
    rw (← (hex_byte false c.args.self.now.0 small ∙ pair_at c.args.self.now.0 small)) h
