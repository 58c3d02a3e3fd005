use Rattle.std.proofs.Common.{map, take}
use Rattle.pl_watch.specs.News.{below_line_of}
use Rattle.pl_log_lines.specs.Telling.{Tells, node_in}
use Rattle.pl_watch.proofs.news.tell_ids.Given as goal

abbrev pub invariant-loop-id : goal.invariant-loop-id
invariant-loop-id g l = Tells l.fn.page l.page l.fn.told l.told (map (below_line_of l.index (node_in l.fn.told) l.group) (take l.id-index l.ids))
