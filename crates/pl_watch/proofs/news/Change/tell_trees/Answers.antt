use Rattle.std.specs.List.{flat_map}
use Rattle.pl_watch.specs.News.{groups_in, part_ends, part_news}
use Rattle.pl_log_lines.specs.Telling.{node_in}
use Rattle.pl_watch.proofs.Learning.{tells_more}
use Rattle.pl_watch.proofs.news.Change.tell_trees.Goals as goal

pub returns : goal.returns
returns g c =
    tells_more c.args.page.now c.tell_parts.new.page c.tell_ends.new.page c.args.told.now c.tell_parts.new.told c.tell_ends.new.told
    (flat_map (part_news c.args.index.now (node_in c.args.told.now) (g.S.SwitchFacts.view c.args.self.now.before.now) (g.S.SwitchFacts.view c.args.self.now.after.now)) (groups_in (g.S.SwitchFacts.view c.args.self.now.after.now))) (λ n. flat_map (part_ends c.args.index.now n (g.S.SwitchFacts.view c.args.self.now.before.now) (g.S.SwitchFacts.view c.args.self.now.after.now)) (groups_in (g.S.SwitchFacts.view c.args.self.now.before.now))) c.tell_parts.ensures c.tell_ends.ensures
