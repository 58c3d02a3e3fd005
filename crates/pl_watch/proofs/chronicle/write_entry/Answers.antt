use Rattle.std.proofs.Common.{sym, ◌∙◌}
use Rattle.pl_watch.proofs.Entering.{entry_hidden, entry_shown}
use Rattle.pl_watch.proofs.chronicle.write_entry.Goals as goal

pub words-requires : goal.words-requires
words-requires g c = c.requires

pub returns-then-not-is_entry_shown : goal.returns-then-not-is_entry_shown
returns-then-not-is_entry_shown g c =
    entry_hidden c.args.page.now c.args.page.now c.args.wiring.now c.args.look.now c.args.line c.args.entry.now (sym c.is_entry_shown.ensures ∙ c.if-not-is_entry_shown.true)

pub returns : goal.returns
returns g c =
    entry_shown c.args.page.now c.print_entry.new.self c.args.wiring.now c.args.look.now c.args.line c.args.entry.now _ c.words.ensures.words
    (sym c.is_entry_shown.ensures ∙ c.if-not-is_entry_shown.false) c.print_entry.ensures
