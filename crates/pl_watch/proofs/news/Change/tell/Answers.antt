use Rattle.std.proofs.Common.{◌/◌}
use Rattle.std.specs.List.{flat_map, range_with_len}
use Rattle.pl_node.specs.PortRecords.{ports_of_switch}
use Rattle.pl_watch.specs.News.{attempt_news, avoid_news, granted_news, hold_news, port_news, tree_news}
use Rattle.pl_watch.proofs.Learning.{tells_more}
use Rattle.pl_watch.proofs.news.Change.tell.Goals as goal

pub returns : goal.returns
returns g c =
    let a0 = tells_more c.args.page.now c.tell_place.new.page c.tell_ports.new.page c.args.told.now c.tell_place.new.told c.tell_ports.new.told _ (λ n. flat_map (port_news c.args.index.now n (g.S.SwitchFacts.view c.args.self.now.before.now) (g.S.SwitchFacts.view c.args.self.now.after.now)) (ports_of_switch (g.S.SwitchFacts.view c.args.self.now.after.now).k)) c.tell_place.ensures c.tell_ports.ensures in
    let a1 = tells_more c.args.page.now c.tell_ports.new.page c.tell_attempt.new.page c.args.told.now c.tell_ports.new.told c.tell_attempt.new.told _ (λ n. attempt_news n (g.S.SwitchFacts.view c.args.self.now.before.now) (g.S.SwitchFacts.view c.args.self.now.after.now)) a0 c.tell_attempt.ensures in
    let a2 = tells_more c.args.page.now c.tell_attempt.new.page c.tell_granted.new.page c.args.told.now c.tell_attempt.new.told c.tell_granted.new.told _ (λ n. flat_map (granted_news n (g.S.SwitchFacts.view c.args.self.now.before.now) (g.S.SwitchFacts.view c.args.self.now.after.now)) (ports_of_switch (g.S.SwitchFacts.view c.args.self.now.after.now).k)) a1 c.tell_granted.ensures in
    let a3 = tells_more c.args.page.now c.tell_granted.new.page c.tell_holds.new.page c.args.told.now c.tell_granted.new.told c.tell_holds.new.told _ (λ n. flat_map (hold_news c.args.index.now n (g.S.SwitchFacts.view c.args.self.now.before.now) (g.S.SwitchFacts.view c.args.self.now.after.now)) (range_with_len 0 ((g.S.SwitchFacts.view c.args.self.now.after.now).k / 2))) a2 c.tell_holds.ensures in
    let a4 = tells_more c.args.page.now c.tell_holds.new.page c.tell_avoid.new.page c.args.told.now c.tell_holds.new.told c.tell_avoid.new.told _ (λ n. avoid_news c.args.index.now n (g.S.SwitchFacts.view c.args.self.now.before.now) (g.S.SwitchFacts.view c.args.self.now.after.now)) a3 c.in_ok-tell_avoid.ensures in
    let a5 = tells_more c.args.page.now c.tell_avoid.new.page c.tell_trees.new.page c.args.told.now c.tell_avoid.new.told c.tell_trees.new.told _ (λ n. tree_news c.args.index.now n (g.S.SwitchFacts.view c.args.self.now.before.now) (g.S.SwitchFacts.view c.args.self.now.after.now)) a4 c.tell_trees.ensures in
    a5
