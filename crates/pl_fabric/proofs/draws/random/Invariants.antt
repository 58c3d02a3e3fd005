use Rattle.std.proofs.Common.{◌≡◌, ℕ, ◌+◌}
use Rattle.pl_fabric.specs.Draws.{Draws}
use Rattle.pl_fabric.proofs.ExecutionSteps.{Keeps, Leads}
use Rattle.pl_fabric.proofs.draws.random.Given as goal

abbrev pub invariant-loop : goal.invariant-loop
invariant-loop g l =
    Keeps l.initial.world l.world
    × ((left : ℕ) → left + l.counter ≡ l.steps →
    Leads (Draws g.S.SwitchLogic.rule g.M.ManagerLogic.rule g.H.HostLogic.rule left l.x) l.world
    (Draws g.S.SwitchLogic.rule g.M.ManagerLogic.rule g.H.HostLogic.rule l.steps l.number) l.initial.world)
