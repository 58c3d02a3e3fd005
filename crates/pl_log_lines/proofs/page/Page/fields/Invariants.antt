use Rattle.std.proofs.Common.{take}
use Rattle.pl_journal.specs.Text.{field_text}
use Rattle.pl_log_lines.specs.Pages.{Prints, more_words}
use Rattle.pl_log_lines.proofs.Printing.{those_there}
use Rattle.pl_log_lines.proofs.page.Page.fields.Given as goal

abbrev pub invariant-loop-field : goal.invariant-loop-field
invariant-loop-field g l = Prints l.fn.self l.self (more_words l.fn.self.json (those_there field_text (take l.field-index l.fn.fields)))
