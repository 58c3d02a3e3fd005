use Rattle.std.proofs.Common.{sym, ◌∙◌}
use Rattle.pl_log_lines.proofs.Telling.{event_begun, event_hidden}
use Rattle.pl_log_lines.proofs.page.Page.begin_event.Goals as goal

pub returns-then-not-is_event_shown : goal.returns-then-not-is_event_shown
returns-then-not-is_event_shown g c = event_hidden c.args.self.now c.args.told.now (sym c.is_event_shown.ensures ∙ c.if-not-is_event_shown.true)

pub returns : goal.returns
returns g c =
    event_begun c.args.self.now c.tell_event.new.self c.args.told.now c.tell_event.new.told (sym c.is_event_shown.ensures ∙ c.if-not-is_event_shown.false)
    c.tell_event.ensures.prints c.tell_event.ensures.told
