use Rattle.std.proofs.Common.{[], codes, subst}
use Rattle.pl_journal.specs.Text.{field_texts}
use Rattle.pl_log_lines.specs.Pages.{Prints, line_begin, more_words}
use Rattle.pl_log_lines.proofs.Printing.{line_prints}
use Rattle.pl_log_lines.proofs.page.Page.print_entry.Goals as goal

pub returns : goal.returns
returns g c =
    line_prints c.args.self.now c.begin.new.self c.fields.new.self c.end.new.self [] (codes "journal") c.args.words.now.word.now (field_texts c.args.words.now.fields)
    (subst (λ word. Prints c.args.self.now c.begin.new.self (line_begin c.args.self.now.json [] (codes "journal") word)) c.text.ensures c.begin.ensures)
    (subst (λ fields. Prints c.begin.new.self c.fields.new.self (more_words c.begin.new.self.json (field_texts fields))) c.as_slice.ensures c.fields.ensures)
    c.end.ensures
