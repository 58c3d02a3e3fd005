use Rattle.std.proofs.Common.{◌≡◌, [], filter, take}
use Rattle.pl_reports.specs.Kept.{is_living}
use Rattle.pl_reports.proofs.Sorting.{put_all}
use Rattle.pl_reports.proofs.living.living_of.Given as goal

abbrev pub invariant-loop-neighbour : goal.invariant-loop-neighbour
invariant-loop-neighbour l =
    l.list ≡ put_all [] (filter (is_living l.links.entries l.switch) (take l.neighbour-index l.neighbours))
