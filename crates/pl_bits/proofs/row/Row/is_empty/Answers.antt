use Rattle.std.proofs.Common.{◌∙◌, ap, length, sym}
use Rattle.std.proofs.lemmas.Bool.{eqb-true, eq-eqb}
use Rattle.pl_bits.proofs.RowBits.{length-bits_of, no_bits}
use Rattle.pl_bits.proofs.row.Row.is_empty.Goals as goal

pub returns : goal.returns
returns c = (
  λ none. sym c.self.view_is ∙ no_bits c.self.inside.words.items c.self.inside.len (eqb-true c.self.inside.len 0 none),
  λ none. eq-eqb c.self.inside.len 0 (sym (length-bits_of c.self.inside.words.items c.self.inside.len) ∙ ap length (c.self.view_is ∙ none)),
)
