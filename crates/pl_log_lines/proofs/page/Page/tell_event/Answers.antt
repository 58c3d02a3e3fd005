use Rattle.std.proofs.Common.{subst}
use Rattle.pl_log_lines.specs.Pages.{Prints}
use Rattle.pl_log_lines.specs.Rows.{event_line, words_text}
use Rattle.pl_log_lines.proofs.Telling.{event_printed, event_told, told_stays}
use Rattle.pl_log_lines.proofs.page.Page.tell_event.Goals as goal

pub returns-then-told-clause-prints : goal.returns-then-told-clause-prints
returns-then-told-clause-prints g c =
    event_told c.args.self.now c.args.told.now c.if-told.true

pub returns-then-told-clause-told : goal.returns-then-told-clause-told
returns-then-told-clause-told g c =
    told_stays c.args.told.now c.if-told.true

pub returns-clause-prints : goal.returns-clause-prints
returns-clause-prints g c =
    event_printed c.args.self.now c.print_event.new.self c.args.told.now c.if-told.false
    (subst (λ words. Prints c.args.self.now c.print_event.new.self (event_line c.args.self.now.json c.args.told.now.step (words_text words))) c.as_slice.ensures c.print_event.ensures)
