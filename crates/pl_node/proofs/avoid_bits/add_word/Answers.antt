use Rattle.pl_node.proofs.AvoidWords.{gains_no_word}
use Rattle.pl_node.proofs.avoid_bits.add_word.Goals as goal

pub returns-then-is_clear : goal.returns-then-is_clear
returns-then-is_clear c = gains_no_word c.args.list.now c.args.other.now c.args.row.now c.args.word (c.is_clear.ensures c.if-is_clear.true)
