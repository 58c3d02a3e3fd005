use Rattle.std.proofs.Common.{◌∙◌, ◌/◌, length, false, slice_set, slice_index, sym, ap, subst, arith}
use Rattle.std.proofs.lemmas.List.{length-set, get_or_read}
use Rattle.pl_bits.specs.Bits.{bits_of}
use Rattle.pl_bits.proofs.Exports.{bit_cleared, bits_of-bit_cleared, index_below}
use Rattle.pl_queue_array.specs.Bits.{IsTwoLevel}
use Rattle.pl_queue_array.proofs.Marks.{room_for, room_above_for, word_there, IsTwoLevel-cleared, IsTwoLevel-cleared_both}
use Rattle.pl_queue_array.proofs.words.WordSet.remove.Goals as goal

pub clear_bit-requires : goal.clear_bit-requires
clear_bit-requires c =
    let below = index_below c.self.inside.words.items c.self.inside.len c.args.at _ c.self.view_is c.requires in
    room_for _ _ _ c.args.at c.self.invariant below

pub index-requires : goal.index-requires
index-requires c =
    let below = index_below c.self.inside.words.items c.self.inside.len c.args.at _ c.self.view_is c.requires in
    let room = room_for _ _ _ c.args.at c.self.invariant below in
    let many = ap length c.clear_bit.ensures ∙ length-set _ _ _ in
    omega arith

pub clear_bit-requires-then-index-eq0 : goal.clear_bit-requires-then-index-eq0
clear_bit-requires-then-index-eq0 c =
    let below = index_below c.self.inside.words.items c.self.inside.len c.args.at _ c.self.view_is c.requires in
    room_above_for _ _ _ c.args.at c.self.invariant below

pub invariant_of-self : goal.invariant_of-self
invariant_of-self c =
    let below = index_below c.self.inside.words.items c.self.inside.len c.args.at _ c.self.view_is c.requires in
    let room = room_for _ _ _ c.args.at c.self.invariant below in
    let many = ap length c.clear_bit.ensures ∙ length-set _ _ _ in
    let read = get_or_read c.clear_bit.new.words.items (c.args.at / 64) c.index.result.now (omega arith) c.index.ensures 0 in
    let none = ap (λ words. slice_index words (c.args.at / 64)) (sym c.clear_bit.ensures) ∙ sym read ∙ c.if-index-eq0.true in
    let levels = IsTwoLevel-cleared_both _ _ _ c.args.at c.self.invariant below none in
    subst (λ filled. IsTwoLevel c.self.inside.len c.clear_bit.new.words.items filled) (sym c.clear_bit-then-index-eq0.ensures)
    (subst (λ words. IsTwoLevel c.self.inside.len words (bit_cleared c.self.inside.filled.items (c.args.at / 64))) (sym c.clear_bit.ensures) levels)

pub invariant_of-self-else-index-eq0 : goal.invariant_of-self-else-index-eq0
invariant_of-self-else-index-eq0 c =
    let below = index_below c.self.inside.words.items c.self.inside.len c.args.at _ c.self.view_is c.requires in
    let room = room_for _ _ _ c.args.at c.self.invariant below in
    let many = ap length c.clear_bit.ensures ∙ length-set _ _ _ in
    let read = get_or_read c.clear_bit.new.words.items (c.args.at / 64) c.index.result.now (omega arith) c.index.ensures 0 in
    let same = read ∙ ap (λ words. slice_index words (c.args.at / 64)) c.clear_bit.ensures in
    let levels = IsTwoLevel-cleared _ _ _ c.args.at c.self.invariant below (λ none. c.if-index-eq0.false (same ∙ none)) in
    subst (λ words. IsTwoLevel c.self.inside.len words c.self.inside.filled.items) (sym c.clear_bit.ensures) levels

pub returns-then-index-eq0 : goal.returns-then-index-eq0
returns-then-index-eq0 c =
    let below = index_below c.self.inside.words.items c.self.inside.len c.args.at _ c.self.view_is c.requires in
    ap (λ words. bits_of words c.self.inside.len) c.clear_bit.ensures
    ∙ bits_of-bit_cleared _ _ c.args.at (word_there _ _ _ c.args.at c.self.invariant below) below
    ∙ ap (λ marks. slice_set marks c.args.at false) c.self.view_is

pub returns-else-index-eq0 : goal.returns-else-index-eq0
returns-else-index-eq0 c =
    let below = index_below c.self.inside.words.items c.self.inside.len c.args.at _ c.self.view_is c.requires in
    ap (λ words. bits_of words c.self.inside.len) c.clear_bit.ensures
    ∙ bits_of-bit_cleared _ _ c.args.at (word_there _ _ _ c.args.at c.self.invariant below) below
    ∙ ap (λ marks. slice_set marks c.args.at false) c.self.view_is
