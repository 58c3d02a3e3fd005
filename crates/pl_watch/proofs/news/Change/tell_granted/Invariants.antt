use Rattle.std.specs.List.{flat_map, range_with_len}
use Rattle.pl_watch.specs.News.{granted_news}
use Rattle.pl_log_lines.specs.Telling.{Tells, node_in}
use Rattle.pl_watch.proofs.news.Change.tell_granted.Given as goal

abbrev pub invariant-loop-at : goal.invariant-loop-at
invariant-loop-at g l =
    Tells l.fn.page l.page l.fn.told l.told (flat_map (granted_news (node_in l.fn.told) (g.S.SwitchFacts.view l.self.before.now) (g.S.SwitchFacts.view l.self.after.now)) (range_with_len 0 l.at))
