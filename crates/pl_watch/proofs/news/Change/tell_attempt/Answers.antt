use Rattle.std.proofs.Common.{rules, ◌∙◌, ap}
use Rattle.pl_log_lines.specs.declared.kind.Kind.TheVariants as kind
use Rattle.pl_log_lines.specs.Rows.{below_of}
use Rattle.pl_log_lines.specs.Telling.{node_in}
use Rattle.pl_watch.proofs.Learning.{tells_line}
use Rattle.pl_node.specs.SwitchFacts.{present_attempt}
use Rattle.pl_watch.specs.News.{attempt_words, knowing, same_attempt, same_option}
use Rattle.pl_watch.proofs.news.Change.tell_attempt.Goals as goal

pub returns : goal.returns
returns g c =
    tells_line c.args.page.now c.tell.new.self c.args.told.now c.tell.new.told (same_option same_attempt (present_attempt (g.S.SwitchFacts.view c.args.self.now.before.now)) (present_attempt (g.S.SwitchFacts.view c.args.self.now.after.now)))
    (below_of (node_in c.args.told.now) c.knows.result) (knowing (node_in c.args.told.now) kind.Attempt (attempt_words (present_attempt (g.S.SwitchFacts.view c.args.self.now.after.now))))
    (search rules) (c.knows.ensures (node_in c.args.told.now) ∙ ap (knowing (node_in c.args.told.now) kind.Attempt) (c.attempt_words.ensures ∙ ap attempt_words c.attempt-attempt.ensures)) c.tell.ensures
