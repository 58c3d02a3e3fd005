use Rattle.std.proofs.Common.{◌≡◌, [], take}
use Rattle.std.specs.List.{filter}
use Rattle.pl_node.specs.AvoidLists.{is_level_above}
use Rattle.pl_node.specs.ManagerViews.{place_of}
use Rattle.pl_faults.proofs.sharing.first_above.Given as goal

abbrev pub invariant-loop-i : goal.invariant-loop-i
invariant-loop-i l = filter (λ u. is_level_above l.fn.level (place_of l.reports u).level) (take l.i l.switches) ≡ []
