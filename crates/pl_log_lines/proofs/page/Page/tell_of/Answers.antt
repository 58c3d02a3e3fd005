use Rattle.std.proofs.Common.{option_map, sym, ◌∙◌}
use Rattle.pl_wiring.specs.declared.label.SwitchNo.{SwitchNo}
use Rattle.pl_log_lines.specs.Rows.{below_of}
use Rattle.pl_log_lines.proofs.Telling.{tells_hidden, tells_shown}
use Rattle.pl_log_lines.proofs.page.Page.tell_of.Goals as goal

pub returns-then-not-shows : goal.returns-then-not-shows
returns-then-not-shows g c =
    tells_hidden c.args.self.now c.args.told.now (below_of (option_map (λ (s : SwitchNo). s.0) c.args.node) c.args.row.now) (sym c.shows.ensures ∙ c.if-not-shows.true)

pub returns : goal.returns
returns g c =
    tells_shown c.args.self.now c.tell_event.new.self c.print_row.new.self c.args.told.now c.tell_event.new.told
    (below_of (option_map (λ (s : SwitchNo). s.0) c.args.node) c.args.row.now) (sym c.shows.ensures ∙ c.if-not-shows.false)
    c.tell_event.ensures.prints c.tell_event.ensures.told c.print_row.ensures
