use Rattle.std.proofs.Common.{◌∙◌, ap}
use Rattle.std.specs.List.{list_all}
use Rattle.pl_faults.specs.Numbered.{has_number}
use Rattle.pl_faults.proofs.missed_edges.Missed.has_all.Goals as goal

pub returns : goal.returns
returns c = c.self.invariant.all ∙ ap (list_all has_number) c.self.view_is
