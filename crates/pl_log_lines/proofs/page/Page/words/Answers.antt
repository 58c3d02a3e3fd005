use Rattle.pl_log_lines.specs.Rows.{word_text}
use Rattle.pl_log_lines.proofs.Printing.{words_on}
use Rattle.pl_log_lines.proofs.page.Page.words.Goals as goal

pub loop-word-preserved : goal.loop-word-preserved
loop-word-preserved g c =
    words_on word_text c.args.self.now c.loop-word.self c.next_if_any.new.self c.args.words.now c.loop-word.word-index _ c.loop-word-test.true c.loop-word.invariant c.next_if_any.ensures
