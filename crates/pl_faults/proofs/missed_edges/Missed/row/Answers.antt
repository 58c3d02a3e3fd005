use Rattle.std.proofs.Common.{◌∙◌, ap}
use Rattle.std.specs.List.{list_any}
use Rattle.pl_faults.specs.Numbered.{has_bit_at}
use Rattle.pl_faults.proofs.missed_edges.Missed.row.Goals as goal

pub returns-clause-bits : goal.returns-clause-bits
returns-clause-bits c n = c.self.invariant.bits n ∙ ap (list_any (has_bit_at n)) c.self.view_is
