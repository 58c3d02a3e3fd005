use Rattle.std.proofs.Common.{◌∙◌, ◌/◌, true, slice_set, sym, ap, subst}
use Rattle.pl_bits.specs.Bits.{bits_of}
use Rattle.pl_bits.proofs.Exports.{bit_set, bits_of-bit_set, index_below}
use Rattle.pl_queue_array.specs.Bits.{IsTwoLevel}
use Rattle.pl_queue_array.proofs.Marks.{room_for, room_above_for, word_there, IsTwoLevel-set}
use Rattle.pl_queue_array.proofs.words.WordSet.insert.Goals as goal

pub set_bit-requires : goal.set_bit-requires
set_bit-requires c =
    let below = index_below c.self.inside.words.items c.self.inside.len c.args.at _ c.self.view_is c.requires in
    room_for _ _ _ c.args.at c.self.invariant below

pub set_bit-requires-2 : goal.set_bit-requires-2
set_bit-requires-2 c =
    let below = index_below c.self.inside.words.items c.self.inside.len c.args.at _ c.self.view_is c.requires in
    room_above_for _ _ _ c.args.at c.self.invariant below

pub invariant_of-self : goal.invariant_of-self
invariant_of-self c =
    let below = index_below c.self.inside.words.items c.self.inside.len c.args.at _ c.self.view_is c.requires in
    let levels = IsTwoLevel-set _ _ _ c.args.at c.self.invariant below in
    subst (λ filled. IsTwoLevel c.self.inside.len c.set_bit.new.words.items filled) (sym c.set_bit-2.ensures)
    (subst (λ words. IsTwoLevel c.self.inside.len words (bit_set c.self.inside.filled.items (c.args.at / 64))) (sym c.set_bit.ensures) levels)

pub returns : goal.returns
returns c =
    let below = index_below c.self.inside.words.items c.self.inside.len c.args.at _ c.self.view_is c.requires in
    ap (λ words. bits_of words c.self.inside.len) c.set_bit.ensures
    ∙ bits_of-bit_set _ _ c.args.at (word_there _ _ _ c.args.at c.self.invariant below) below
    ∙ ap (λ marks. slice_set marks c.args.at true) c.self.view_is
