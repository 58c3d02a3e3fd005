use Rattle.std.proofs.Common.{◌≡◌, ◌++◌, take}
use Rattle.pl_manager.specs.Telling.{parts_told}
use Rattle.pl_manager.proofs.telling.tell_parts.Given as goal

abbrev pub invariant-loop-switch : goal.invariant-loop-switch
invariant-loop-switch l = l.out ≡ l.initial.out ++ parts_told l.groups l.group (take l.switch-index l.switch-items)
