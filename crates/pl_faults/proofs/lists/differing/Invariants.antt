use Rattle.std.proofs.Common.{◌≡◌}
use Rattle.std.specs.Prelude.{fold}
use Rattle.pl_faults.specs.Kept.{with_differing}
use Rattle.pl_faults.proofs.lists.differing.Given as goal

-- what was found, and what is to be found among those that are left
abbrev pub invariant-loop-switch : goal.invariant-loop-switch
invariant-loop-switch l =
    fold (with_differing l.lists.entries) l.list l.switch-iterator ≡ fold (with_differing l.lists.entries) l.initial.list l.initial.switch-iterator
