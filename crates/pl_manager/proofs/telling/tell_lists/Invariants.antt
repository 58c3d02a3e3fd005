use Rattle.std.proofs.Common.{◌≡◌, ◌++◌, take}
use Rattle.pl_manager.specs.Telling.{lists_told}
use Rattle.pl_manager.proofs.telling.tell_lists.Given as goal

abbrev pub invariant-loop-switch : goal.invariant-loop-switch
invariant-loop-switch l = l.out ≡ l.initial.out ++ lists_told l.matrix.told (take l.switch-index l.switch-items)
