use Rattle.pl_node.proofs.AvoidWords.{within_no_word}
use Rattle.pl_node.proofs.avoid_within.is_word_within.Goals as goal

pub returns-then-is_clear : goal.returns-then-is_clear
returns-then-is_clear c =
    (λ u. within_no_word c.args.other.now c.args.row.now c.args.word (c.is_clear.ensures c.if-is_clear.true), λ all. c.if-is_clear.true)
