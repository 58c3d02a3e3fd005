use Rattle.std.proofs.Common.{◌++◌, ◌∙◌, ap, sym}
use Rattle.std.proofs.lemmas.Fmt.{decimal_digit}
use Rattle.pl_output.proofs.printing.piece.Piece.put_number.Goals as goal

pub returns-then-n-lt10-clause-text : goal.returns-then-n-lt10-clause-text
returns-then-n-lt10-clause-text c = c.put_byte.ensures ∙ ap (λ t. c.args.self.now ++ t) (sym (decimal_digit c.args.n c.if-n-lt10.true))
