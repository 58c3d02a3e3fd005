use Rattle.std.proofs.Common.{map, take}
use Rattle.std.specs.List.{flat_map}
use Rattle.pl_watch.specs.News.{part_news}
use Rattle.pl_log_lines.specs.Telling.{Tells, node_in}
use Rattle.pl_watch.proofs.news.Change.tell_parts.Given as goal

abbrev pub invariant-loop-n : goal.invariant-loop-n
invariant-loop-n g l =
    Tells l.fn.page l.page l.fn.told l.told (flat_map (part_news l.index (node_in l.fn.told) (g.S.SwitchFacts.view l.self.before.now) (g.S.SwitchFacts.view l.self.after.now)) (take l.n (map (λ part. part.0) (g.S.SwitchFacts.view l.self.after.now).parts)))
