use Rattle.std.proofs.Common.{◌^◌, arith}
use Rattle.pl_queue_array.proofs.NextBits.{index_of_bit}
use Rattle.pl_queue_array.proofs.words.next_of_words.Goals as goal

pub overflow_mul-result-then-words-word-ne0 : goal.overflow_mul-result-then-words-word-ne0
overflow_mul-result-then-words-word-ne0 c =
    let least = c.lowest_bit-bit.ensures.least in
    let fits = index_of_bit c.args.words.now (2 ^ 64) c.loop-word.word c.lowest_bit-bit.result c.requires least.passes c.lowest_bit-bit.ensures.within in
    omega arith

pub overflow_add-result-then-words-word-ne0 : goal.overflow_add-result-then-words-word-ne0
overflow_add-result-then-words-word-ne0 c =
    let least = c.lowest_bit-bit.ensures.least in
    let fits = index_of_bit c.args.words.now (2 ^ 64) c.loop-word.word c.lowest_bit-bit.result c.requires least.passes c.lowest_bit-bit.ensures.within in
    omega arith
