use Rattle.pl_reports.proofs.Sorting.{nothing_rises}
use Rattle.pl_reports.proofs.reports.Reports.alive_neighbours.Goals as goal

pub returns-in-None-clause-rising : goal.returns-in-None-clause-rising
returns-in-None-clause-rising c = nothing_rises
