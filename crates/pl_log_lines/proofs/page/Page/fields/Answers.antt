use Rattle.std.proofs.Common.{List, ℕ, Option, option_to_list, subst}
use Rattle.pl_journal.specs.Text.{field_text}
use Rattle.pl_log_lines.specs.Pages.{Prints, more_words}
use Rattle.pl_log_lines.proofs.Printing.{words_on}
use Rattle.pl_log_lines.proofs.page.Page.fields.Goals as goal

pub loop-field-preserved : goal.loop-field-preserved
loop-field-preserved g c =
    words_on field_text c.args.self.now c.loop-field.self c.next_if_any.new.self c.args.fields.now c.loop-field.field-index _ c.loop-field-test.true c.loop-field.invariant
    (subst (λ (word : Option (List ℕ)). Prints c.loop-field.self c.next_if_any.new.self (more_words c.loop-field.self.json (option_to_list word))) c.word_of.ensures c.next_if_any.ensures)
