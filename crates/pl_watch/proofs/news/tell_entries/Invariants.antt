use Rattle.std.proofs.Common.{map, take}
use Rattle.pl_watch.specs.News.{avoid_line}
use Rattle.pl_log_lines.specs.Telling.{Tells, node_in}
use Rattle.pl_watch.proofs.news.tell_entries.Given as goal

abbrev pub invariant-loop-entry : goal.invariant-loop-entry
invariant-loop-entry g l =
    Tells l.fn.page l.page l.fn.told l.told (map (avoid_line l.index (node_in l.fn.told) l.sign) (take l.entry-index l.entries))
