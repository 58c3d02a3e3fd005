use Rattle.std.proofs.Common.{rules}
use Rattle.pl_bits.proofs.Exports.{set_bit_within}
use Rattle.pl_queue_array.proofs.NextBits.{none_shifted, least_shifted}
use Rattle.pl_queue_array.proofs.words.next_in_word.Goals as goal

pub returns-then-left-eq0-clause-next : goal.returns-then-left-eq0-clause-next
returns-then-left-eq0-clause-next c = none_shifted c.args.word c.args.from c.if-left-eq0.true

pub returns-clause-next : goal.returns-clause-next
returns-clause-next c = least_shifted c.args.word c.args.from c.lowest_bit.result c.lowest_bit.ensures.least

pub returns-clause-within : goal.returns-clause-within
returns-clause-within c =
    let least = least_shifted c.args.word c.args.from c.lowest_bit.result c.lowest_bit.ensures.least in
    set_bit_within c.args.word _ (search rules) least.passes
