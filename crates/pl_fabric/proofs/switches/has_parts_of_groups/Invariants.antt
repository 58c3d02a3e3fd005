use Rattle.std.proofs.Common.{◌≡◌, ℕ, ◌<◌, Some}
use Rattle.pl_node.specs.ManagerFacts.{group_at}
use Rattle.pl_fabric.specs.Settled.{HasPart}
use Rattle.pl_fabric.proofs.switches.has_parts_of_groups.Given as goal

abbrev pub invariant-loop-n : goal.invariant-loop-n
invariant-loop-n g l =
    (k group : ℕ) → k < l.n → group_at (g.M.ManagerLogic.view l.manager) k ≡ Some group → HasPart (g.M.ManagerLogic.view l.manager) (g.S.SwitchFacts.view l.switch) group
