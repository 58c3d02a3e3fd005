use Rattle.std.proofs.Common.{rules, ◌∙◌, ap}
use Rattle.pl_log_lines.specs.declared.kind.Kind.TheVariants as kind
use Rattle.pl_log_lines.specs.Rows.{below_of}
use Rattle.pl_log_lines.specs.Telling.{node_in}
use Rattle.pl_watch.proofs.Learning.{tells_line}
use Rattle.pl_watch.specs.News.{knowing, port_words, same_port}
use Rattle.pl_watch.proofs.news.Change.tell_heard.Goals as goal

pub returns : goal.returns
returns g c =
    tells_line c.args.page.now c.tell.new.self c.args.told.now c.tell.new.told (same_port c.args.before.now c.args.after.now)
    (below_of (node_in c.args.told.now) c.knows.result) (knowing (node_in c.args.told.now) kind.Port (port_words c.args.index.now (g.S.SwitchFacts.view c.args.self.now.after.now).id c.args.at c.args.after.now))
    (search rules) (c.knows.ensures (node_in c.args.told.now) ∙ ap (knowing (node_in c.args.told.now) kind.Port) (c.port_words-words.ensures ∙ ap (λ me. port_words c.args.index.now me c.args.at c.args.after.now) c.id.ensures)) c.tell.ensures
