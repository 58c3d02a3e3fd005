use Rattle.std.proofs.Common.{◌∙◌, ◌<◌, ◌/◌, ap, arith, length, slice_set, true}
use Rattle.pl_bits.specs.Bits.{bits_of}
use Rattle.pl_bits.proofs.RowBits.{bits_of-bit_set, index_below}
use Rattle.pl_bits.proofs.row.Row.set.Goals as goal

pub set_bit-requires : goal.set_bit-requires
set_bit-requires c =
    let within = index_below c.self.inside.words.items c.self.inside.len c.args.i _ c.self.view_is c.requires in
    omega (arith, c.self.invariant)

pub returns : goal.returns
returns c =
    let words = c.self.inside.words.items in
    let len = c.self.inside.len in
    let within = index_below words len c.args.i _ c.self.view_is c.requires in
    let room : c.args.i / 64 < length words = omega (arith, c.self.invariant) in
    ap (λ ws. bits_of ws len) c.set_bit.ensures ∙ bits_of-bit_set words len c.args.i room within ∙ ap (λ row. slice_set row c.args.i true) c.self.view_is
