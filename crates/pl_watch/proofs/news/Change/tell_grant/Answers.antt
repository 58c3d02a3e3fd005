use Rattle.std.proofs.Common.{rules, ◌∙◌, ◌∷◌, [], ap, decimal, not, ◌||◌}
use Rattle.pl_log_lines.specs.declared.kind.Kind.TheVariants as kind
use Rattle.pl_log_lines.specs.Rows.{below_of}
use Rattle.pl_log_lines.specs.Telling.{node_in}
use Rattle.pl_watch.proofs.Learning.{tells_line}
use Rattle.pl_node.specs.SwitchFacts.{has_granted}
use Rattle.pl_watch.specs.News.{knowing}
use Rattle.pl_watch.proofs.news.Change.tell_grant.Goals as goal

pub returns : goal.returns
returns g c =
    tells_line c.args.page.now c.tell.new.self c.args.told.now c.tell.new.told (not (has_granted (g.S.SwitchFacts.view c.args.self.now.after.now) c.args.at) || has_granted (g.S.SwitchFacts.view c.args.self.now.before.now) c.args.at)
    (below_of (node_in c.args.told.now) c.knows.result) (knowing (node_in c.args.told.now) kind.Granted (decimal c.args.at ∷ []))
    (search rules) (c.knows.ensures (node_in c.args.told.now) ∙ ap (knowing (node_in c.args.told.now) kind.Granted) (c.one.ensures ∙ ap (λ word. word ∷ []) c.port.ensures)) c.tell.ensures
