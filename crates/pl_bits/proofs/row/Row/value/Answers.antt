use Rattle.std.proofs.Common.{◌∙◌, ap, arith, false, length, sym, slice_index_or}
use Rattle.std.proofs.lemmas.Bool.{le-ltb}
use Rattle.std.proofs.lemmas.List.{get_or_past}
use Rattle.pl_bits.specs.Bits.{has_bit}
use Rattle.pl_bits.proofs.RowBits.{bit_is, length-bits_of}
use Rattle.pl_bits.proofs.row.Row.value.Goals as goal

pub returns-then-i-self : goal.returns-then-i-self
returns-then-i-self c =
    c.bit_of.ensures ∙ ap (λ words. has_bit words c.args.i) c.as_slice.ensures.value
    ∙ sym (bit_is c.self.inside.words.items c.self.inside.len c.args.i false c.if-i-self.true)
    ∙ ap (λ row. slice_index_or row c.args.i false) c.self.view_is

pub returns-else-i-self : goal.returns-else-i-self
returns-else-i-self c =
    let many = sym (length-bits_of c.self.inside.words.items c.self.inside.len) ∙ ap length c.self.view_is in
    let past = c.if-i-self.false in
    le-ltb c.args.i c.self.inside.len past ∙ sym (get_or_past c.args.self.now c.args.i false (omega arith))
