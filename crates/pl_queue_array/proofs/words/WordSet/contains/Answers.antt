use Rattle.std.proofs.Common.{length, sym, ap, ◌∙◌, false, arith}
use Rattle.pl_bits.specs.Bits.{has_bit}
use Rattle.pl_bits.proofs.Exports.{bit_is, index_below}
use Rattle.pl_queue_array.specs.Bits.{is_marked}
use Rattle.pl_queue_array.proofs.words.WordSet.contains.Goals as goal

pub bit_of-requires : goal.bit_of-requires
bit_of-requires c =
    let below = index_below c.self.inside.words.items c.self.inside.len c.args.at _ c.self.view_is c.requires in
    omega (arith, c.self.invariant.room, ap length c.as_slice.ensures.value)

pub returns : goal.returns
returns c =
    let below = index_below c.self.inside.words.items c.self.inside.len c.args.at _ c.self.view_is c.requires in
    c.bit_of.ensures ∙ ap (λ words. has_bit words c.args.at) c.as_slice.ensures.value
    ∙ sym (bit_is c.self.inside.words.items c.self.inside.len c.args.at false below)
    ∙ ap (λ marks. is_marked marks c.args.at) c.self.view_is
