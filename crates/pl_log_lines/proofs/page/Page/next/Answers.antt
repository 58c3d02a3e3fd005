use Rattle.std.proofs.Common.{sym, ◌∙◌}
use Rattle.pl_log_lines.specs.Rows.{word_text}
use Rattle.pl_log_lines.proofs.Printing.{next_plain, next_quoted}
use Rattle.pl_log_lines.proofs.page.Page.next.Goals as goal

pub returns-then-not-is_json : goal.returns-then-not-is_json
returns-then-not-is_json g c =
    next_plain c.args.self.now c.put.new.self c.say.new.self (word_text c.args.word.now) (sym c.is_json.ensures ∙ c.if-not-is_json.true) c.put.ensures c.say.ensures

pub returns : goal.returns
returns g c =
    next_quoted c.args.self.now c.put-2.new.self c.quote.new.self (word_text c.args.word.now) (sym c.is_json.ensures ∙ c.if-not-is_json.false) c.put-2.ensures c.quote.ensures
