use Rattle.std.proofs.Common.{◌/◌, ◌^◌, ◌+◌, arith}
use Rattle.pl_queue_array.proofs.NextBits.{index_of_bit, none_in_first, none_between, least_in_later}
use Rattle.pl_queue_array.proofs.words.next_of_two_levels.Goals as goal

pub overflow_mul-result-in-Some-next_of_words : goal.overflow_mul-result-in-Some-next_of_words
overflow_mul-result-in-Some-next_of_words c =
    let least = c.lowest_bit-bit.ensures.least in
    let fits = index_of_bit c.args.words.now (2 ^ 64) c.in-Some-next_of_words.word c.lowest_bit-bit.result c.requires.within least.passes c.lowest_bit-bit.ensures.within in
    omega arith

pub overflow_add-result-in-Some-next_of_words : goal.overflow_add-result-in-Some-next_of_words
overflow_add-result-in-Some-next_of_words c =
    let least = c.lowest_bit-bit.ensures.least in
    let fits = index_of_bit c.args.words.now (2 ^ 64) c.in-Some-next_of_words.word c.lowest_bit-bit.result c.requires.within least.passes c.lowest_bit-bit.ensures.within in
    omega arith

pub returns-in-Some-next_of_words : goal.returns-in-Some-next_of_words
returns-in-Some-next_of_words c =
    let above = c.in-Some-next_of_words.ensures in
    let later = above.reached in
    least_in_later c.args.words.now c.args.from c.in-Some-next_of_words.word c.lowest_bit-bit.result (omega arith)
    (none_between c.args.words.now c.args.filled.now c.args.from c.in-Some-next_of_words.word
    (none_in_first c.args.words.now c.args.from c.in_default.ensures.next) c.requires.summary above.least)
    c.lowest_bit-bit.ensures.least c.lowest_bit-bit.ensures.within

pub returns-in-None : goal.returns-in-None
returns-in-None c k after =
    none_between c.args.words.now c.args.filled.now c.args.from (k / 64 + 1)
    (none_in_first c.args.words.now c.args.from c.in_default.ensures.next) c.requires.summary (λ word low high. c.in-None.ensures word low)
    k after (omega arith)
