use Rattle.std.proofs.Common.{rules}
use Rattle.pl_queue_array.proofs.NextBits.{lowest_is_least}
use Rattle.pl_queue_array.proofs.words.lowest_bit.Goals as goal

pub returns-clause-least : goal.returns-clause-least
returns-clause-least c = lowest_is_least c.args.word c.requires (search rules)
