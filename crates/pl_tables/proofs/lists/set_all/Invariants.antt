use Rattle.std.proofs.Common.{take}
use Rattle.pl_tables.specs.Leads.{avoids_by, lead_at, SetsEach}
use Rattle.pl_tables.proofs.lists.set_all.Given as goal

abbrev pub invariant-loop-entry : goal.invariant-loop-entry
invariant-loop-entry l =
    SetsEach l.initial.rows l.rows l.fn.is_in (λ key q. avoids_by (take l.entry-index l.entry-items) (lead_at l.fn.leads q).up key)
