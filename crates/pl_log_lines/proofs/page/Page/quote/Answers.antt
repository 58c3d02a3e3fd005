use Rattle.pl_log_lines.specs.Rows.{word_text}
use Rattle.pl_log_lines.proofs.Printing.{quote_prints}
use Rattle.pl_log_lines.proofs.page.Page.quote.Goals as goal

pub returns : goal.returns
returns g c =
    quote_prints c.args.self.now c.put.new.self c.say.new.self c.put-2.new.self (word_text c.args.word.now) c.put.ensures c.say.ensures c.put-2.ensures
