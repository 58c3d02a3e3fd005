use Rattle.std.proofs.Common.{codes, decimal, subst}
use Rattle.pl_log_lines.specs.Pages.{Prints, line_begin}
use Rattle.pl_log_lines.specs.Rows.{words_text}
use Rattle.pl_log_lines.proofs.Printing.{line_prints}
use Rattle.pl_log_lines.proofs.page.Page.print_event.Goals as goal

pub returns : goal.returns
returns g c =
    line_prints c.args.self.now c.begin.new.self c.words.new.self c.end.new.self (codes "@ ") (codes "event") (decimal c.args.step) (words_text c.args.words.now)
    (subst (λ word. Prints c.args.self.now c.begin.new.self (line_begin c.args.self.now.json (codes "@ ") (codes "event") word)) c.number.ensures c.begin.ensures)
    c.words.ensures c.end.ensures
