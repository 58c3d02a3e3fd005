use Rattle.std.proofs.Common.{rules, ◌∙◌, ap, is_some, None}
use Rattle.pl_log_lines.specs.declared.kind.Kind.TheVariants as kind
use Rattle.pl_log_lines.specs.Rows.{below_of}
use Rattle.pl_log_lines.specs.Telling.{node_in}
use Rattle.pl_watch.proofs.Learning.{tells_line}
use Rattle.pl_node.specs.SwitchFacts.{part_of}
use Rattle.pl_log_lines.specs.Messages.{tree_words}
use Rattle.pl_watch.specs.News.{knowing}
use Rattle.pl_watch.proofs.news.Change.tell_end.Goals as goal

pub returns : goal.returns
returns g c =
    tells_line c.args.page.now c.tell.new.self c.args.told.now c.tell.new.told (is_some (part_of (g.S.SwitchFacts.view c.args.self.now.after.now) c.args.group))
    (below_of (node_in c.args.told.now) c.knows.result) (knowing (node_in c.args.told.now) kind.Tree (tree_words c.args.index.now c.args.group None))
    (search rules) (c.knows.ensures (node_in c.args.told.now) ∙ ap (knowing (node_in c.args.told.now) kind.Tree) (c.tree_words-words.ensures)) c.tell.ensures
