use Rattle.std.specs.List.{flat_map, range_with_len}
use Rattle.pl_watch.specs.News.{port_news}
use Rattle.pl_log_lines.specs.Telling.{Tells, node_in}
use Rattle.pl_watch.proofs.news.Change.tell_ports.Given as goal

abbrev pub invariant-loop-at : goal.invariant-loop-at
invariant-loop-at g l =
    Tells l.fn.page l.page l.fn.told l.told (flat_map (port_news l.index (node_in l.fn.told) (g.S.SwitchFacts.view l.self.before.now) (g.S.SwitchFacts.view l.self.after.now)) (range_with_len 0 l.at))
