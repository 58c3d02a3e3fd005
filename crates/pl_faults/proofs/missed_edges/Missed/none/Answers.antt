use Rattle.std.proofs.Common.{subst, sym, true}
use Rattle.pl_faults.specs.Numbered.{AreNumbered}
use Rattle.pl_faults.proofs.ByRows.{no_edge_numbered}
use Rattle.pl_faults.proofs.missed_edges.Missed.none.Goals as goal

pub invariant_of-result : goal.invariant_of-result
invariant_of-result c =
    subst (λ es. AreNumbered es c.of.result.words true) (sym c.new.ensures.items) (no_edge_numbered c.of.result.words c.of.ensures.none)
