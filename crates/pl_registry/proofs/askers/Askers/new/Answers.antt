use Rattle.std.proofs.Common.{List, reverse, sym, subst}
use Rattle.pl_node.specs.declared.pod_given.PodGiven.{PodGiven}
use Rattle.pl_registry.specs.Askers.{AreOnce}
use Rattle.pl_registry.proofs.Asking.{none_once}
use Rattle.pl_registry.proofs.askers.Askers.new.Goals as goal

pub invariant_of-result : goal.invariant_of-result
invariant_of-result c = subst (λ (gs : List PodGiven). AreOnce (reverse gs)) (sym c.new.ensures.items) none_once
