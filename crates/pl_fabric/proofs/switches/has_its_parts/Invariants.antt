use Rattle.std.proofs.Common.{◌≡◌, ℕ, ◌<◌, Some}
use Rattle.pl_node.specs.SwitchFacts.{group_of_part}
use Rattle.pl_fabric.specs.Settled.{HasPart}
use Rattle.pl_fabric.proofs.switches.has_its_parts.Given as goal

abbrev pub invariant-loop-n : goal.invariant-loop-n
invariant-loop-n g l =
    (k group : ℕ) → k < l.n → group_of_part (g.S.SwitchFacts.view l.switch) k ≡ Some group → HasPart (g.M.ManagerLogic.view l.manager) (g.S.SwitchFacts.view l.switch) group
