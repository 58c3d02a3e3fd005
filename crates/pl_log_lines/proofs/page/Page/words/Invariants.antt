use Rattle.std.proofs.Common.{take}
use Rattle.pl_log_lines.specs.Rows.{word_text}
use Rattle.pl_log_lines.specs.Pages.{Prints, more_words}
use Rattle.pl_log_lines.proofs.Printing.{those_there}
use Rattle.pl_log_lines.proofs.page.Page.words.Given as goal

abbrev pub invariant-loop-word : goal.invariant-loop-word
invariant-loop-word g l = Prints l.fn.self l.self (more_words l.fn.self.json (those_there word_text (take l.word-index l.fn.words)))
