use Rattle.std.proofs.Common.{rules, ◌∙◌, ◌∷◌, [], Option, ap, subst}
use Rattle.pl_node.specs.declared.messages.TreePart.{TreePart}
use Rattle.pl_node.specs.SwitchFacts.{part_of}
use Rattle.pl_log_lines.specs.declared.kind.Kind.TheVariants as kind
use Rattle.pl_log_lines.specs.Messages.{tree_words}
use Rattle.pl_watch.specs.News.{below_lines, knowing, part_lines, same_option, same_part}
use Rattle.pl_log_lines.specs.Telling.{Tells, node_in}
use Rattle.pl_watch.proofs.Learning.{tells_more, tells_other}
use Rattle.pl_watch.proofs.news.Change.tell_part.Goals as goal

pub returns : goal.returns
returns g c =
    tells_other c.args.page.now c.tell_below.new.page c.args.told.now c.tell_below.new.told (same_option same_part (part_of (g.S.SwitchFacts.view c.args.self.now.before.now) c.args.group) (part_of (g.S.SwitchFacts.view c.args.self.now.after.now) c.args.group))
    (part_lines c.args.index.now (node_in c.args.told.now) c.args.group (part_of (g.S.SwitchFacts.view c.args.self.now.after.now) c.args.group)) (search rules)
    (tells_more c.args.page.now c.tell.new.self c.tell_below.new.page c.args.told.now c.tell.new.told c.tell_below.new.told
    (knowing (node_in c.args.told.now) kind.Tree (tree_words c.args.index.now c.args.group (part_of (g.S.SwitchFacts.view c.args.self.now.after.now) c.args.group)) ∷ []) (λ n. below_lines c.args.index.now n c.args.group (part_of (g.S.SwitchFacts.view c.args.self.now.after.now) c.args.group))
    (subst (λ b. Tells c.args.page.now c.tell.new.self c.args.told.now c.tell.new.told (b ∷ []))
    (c.knows.ensures (node_in c.args.told.now) ∙ ap (knowing (node_in c.args.told.now) kind.Tree) (c.tree_words-words.ensures ∙ ap (tree_words c.args.index.now c.args.group) c.part-part.ensures)) c.tell.ensures)
    (subst (λ (o : Option TreePart). Tells c.tell.new.self c.tell_below.new.page c.tell.new.told c.tell_below.new.told (below_lines c.args.index.now (node_in c.tell.new.told) c.args.group o))
    c.part-part.ensures c.tell_below.ensures))
