use Rattle.std.proofs.Common.{rules, ◌∙◌, ap}
use Rattle.pl_log_lines.specs.declared.kind.Kind.TheVariants as kind
use Rattle.pl_log_lines.specs.Rows.{below_of}
use Rattle.pl_log_lines.specs.Telling.{node_in}
use Rattle.pl_watch.proofs.Learning.{tells_line}
use Rattle.pl_node.specs.SwitchFacts.{holder_of}
use Rattle.pl_watch.specs.News.{hold_words, knowing, same_hold, same_option}
use Rattle.pl_watch.proofs.news.Change.tell_hold.Goals as goal

pub returns : goal.returns
returns g c =
    tells_line c.args.page.now c.tell.new.self c.args.told.now c.tell.new.told (same_option same_hold (holder_of (g.S.SwitchFacts.view c.args.self.now.before.now) c.args.position) (holder_of (g.S.SwitchFacts.view c.args.self.now.after.now) c.args.position))
    (below_of (node_in c.args.told.now) c.knows.result) (knowing (node_in c.args.told.now) kind.Hold (hold_words c.args.index.now c.args.position (holder_of (g.S.SwitchFacts.view c.args.self.now.after.now) c.args.position)))
    (search rules) (c.knows.ensures (node_in c.args.told.now) ∙ ap (knowing (node_in c.args.told.now) kind.Hold) (c.hold_words-words.ensures ∙ ap (hold_words c.args.index.now c.args.position) c.hold-hold.ensures)) c.tell.ensures
