use Rattle.pl_manager.proofs.Changes.{forgotten}
use Rattle.pl_manager.proofs.routing.Routing.new.Goals as goal

pub invariant_of-result : goal.invariant_of-result
invariant_of-result c =
    (forgotten c.new-2.result c.in_ok-groups.groups c.new-2.ensures c.in_ok-groups.ensures.members c.in_ok-groups.ensures.parts, c.new-3.ensures)
