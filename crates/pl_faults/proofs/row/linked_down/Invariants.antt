use Rattle.std.proofs.Common.{◌≡◌}
use Rattle.pl_faults.specs.Rows.{leads_down}
use Rattle.pl_faults.proofs.Filled.{filled_to}
use Rattle.pl_faults.proofs.row.linked_down.Given as goal

abbrev pub invariant-loop-i : goal.invariant-loop-i
invariant-loop-i l = l.row ≡ filled_to (λ e. leads_down l.fn.reports e l.fn.switch) l.edges l.i
