use Rattle.std.proofs.Common.{◌≡◌, ◌∙◌, ◌+◌, ◌*◌, ◌/◌, ◌%◌, ◌^◌, ap, arith, sym}
use Rattle.std.proofs.Math.Facts.{Fits-lt-pow}
use Rattle.pl_bits.specs.Bits.{bits_of}
use Rattle.pl_bits.specs.Rows.{trues}
use Rattle.pl_bits.proofs.RowBits.{few_true, none_true, trues_of_last, trues_of_whole}
use Rattle.pl_bits.proofs.words.count_bits.Goals as goal

pub loop-i-init : goal.loop-i-init
loop-i-init c = sym (none_true c.args.words.now)

pub overflow_add-count : goal.overflow_add-count
overflow_add-count c =
    let few = few_true c.args.words.now ((c.loop-i.i + 1) * 64) in
    let whole = trues_of_whole c.args.words.now c.loop-i.i (Fits-lt-pow (c.type_inv.words c.loop-i.i)) in
    omega (arith, c.loop-i.invariant)

pub loop-i-preserved : goal.loop-i-preserved
loop-i-preserved c =
    omega (arith, c.loop-i.invariant, trues_of_whole c.args.words.now c.loop-i.i (Fits-lt-pow (c.type_inv.words c.loop-i.i)))

pub overflow_add-result : goal.overflow_add-result
overflow_add-result c =
    let same : c.loop-i.i ≡ c.args.len / 64 = omega arith in
    let low = c.low_bits.ensures ∙ ap (λ word. word % 2 ^ (c.args.len % 64)) c.word_at.ensures in
    let last = trues_of_last c.args.words.now c.args.len c.low_bits.result low in
    let few = few_true c.args.words.now c.args.len in
    omega (arith, c.loop-i.invariant, ap (λ w. trues (bits_of c.args.words.now (w * 64))) same)

pub returns : goal.returns
returns c =
    let same : c.loop-i.i ≡ c.args.len / 64 = omega arith in
    let low = c.low_bits.ensures ∙ ap (λ word. word % 2 ^ (c.args.len % 64)) c.word_at.ensures in
    let last = trues_of_last c.args.words.now c.args.len c.low_bits.result low in
    omega (arith, c.loop-i.invariant, ap (λ w. trues (bits_of c.args.words.now (w * 64))) same)
