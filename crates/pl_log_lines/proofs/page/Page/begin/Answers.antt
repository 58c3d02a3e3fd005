use Rattle.std.proofs.Common.{sym, subst, ◌∙◌}
use Rattle.pl_log_lines.specs.Pages.{Prints}
use Rattle.pl_log_lines.specs.Rows.{quoted, word_text}
use Rattle.pl_log_lines.proofs.Printing.{begins_json, begins_plain}
use Rattle.pl_log_lines.proofs.page.Page.begin.Goals as goal

pub returns-then-not-is_json : goal.returns-then-not-is_json
returns-then-not-is_json g c =
    begins_plain c.args.self.now c.put.new.self c.say.new.self c.args.mark.now c.args.sort.now (word_text c.args.first.now) (sym c.is_json.ensures ∙ c.if-not-is_json.true)
    c.put.ensures c.say.ensures

pub returns : goal.returns
returns g c =
    begins_json c.args.self.now c.put-2.new.self c.quote.new.self c.next.new.self c.args.mark.now c.args.sort.now (word_text c.args.first.now)
    (sym c.is_json.ensures ∙ c.if-not-is_json.false) c.put-2.ensures (subst (λ word. Prints c.put-2.new.self c.quote.new.self (quoted word)) c.text.ensures c.quote.ensures) c.next.ensures
