use Rattle.std.proofs.Common.{rules, ◌∙◌, ap}
use Rattle.pl_log_lines.specs.declared.kind.Kind.TheVariants as kind
use Rattle.pl_log_lines.specs.Rows.{below_of}
use Rattle.pl_log_lines.specs.Telling.{node_in}
use Rattle.pl_watch.proofs.Learning.{tells_line}
use Rattle.pl_layouts.specs.Placement.{same_place}
use Rattle.pl_journal.specs.Text.{place_texts}
use Rattle.pl_watch.specs.News.{knowing}
use Rattle.pl_watch.proofs.news.Change.tell_place.Goals as goal

pub returns : goal.returns
returns g c =
    tells_line c.args.page.now c.tell.new.self c.args.told.now c.tell.new.told (same_place (g.S.SwitchFacts.view c.args.self.now.before.now).place (g.S.SwitchFacts.view c.args.self.now.after.now).place)
    (below_of (node_in c.args.told.now) c.knows.result) (knowing (node_in c.args.told.now) kind.Place (place_texts (g.S.SwitchFacts.view c.args.self.now.after.now).place))
    (search rules) (c.knows.ensures (node_in c.args.told.now) ∙ ap (knowing (node_in c.args.told.now) kind.Place) (c.place_words.ensures ∙ ap place_texts c.place-place.ensures)) c.tell.ensures
