use Rattle.std.proofs.Common.{◌∷◌, codes, subst, ◌∙◌}
use Rattle.pl_log_lines.specs.Kinds.{kind_text}
use Rattle.pl_log_lines.specs.Pages.{Prints, behind, line_begin, more_words}
use Rattle.pl_log_lines.specs.Rows.{verb_text, words_text}
use Rattle.pl_log_lines.proofs.Printing.{line_prints, more_then}
use Rattle.pl_log_lines.proofs.page.Page.print_row.Goals as goal

pub returns : goal.returns
returns g c =
    let row = c.args.row.now in
    line_prints c.args.self.now c.begin.new.self c.words.new.self c.end.new.self (codes "  ") (codes "below") (verb_text row.verb) (kind_text row.kind ∷ words_text row.words)
    (subst (λ word. Prints c.args.self.now c.begin.new.self (line_begin c.args.self.now.json (codes "  ") (codes "below") word)) (c.text-2.ensures ∙ c.text.ensures) c.begin.ensures)
    (more_then c.begin.new.self c.next.new.self c.words.new.self (kind_text row.kind) (words_text row.words)
    (subst (λ word. Prints c.begin.new.self c.next.new.self (behind c.begin.new.self.json word)) (c.text-4.ensures ∙ c.text-3.ensures) c.next.ensures)
    (subst (λ words. Prints c.next.new.self c.words.new.self (more_words c.next.new.self.json (words_text words))) c.as_slice.ensures c.words.ensures))
    c.end.ensures
