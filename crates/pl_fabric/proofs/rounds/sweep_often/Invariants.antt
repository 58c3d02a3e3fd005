use Rattle.std.proofs.Common.{◌≡◌, ℕ, ◌+◌}
use Rattle.pl_fabric.specs.Executions.{Times}
use Rattle.pl_fabric.specs.Rounds.{Sweeps}
use Rattle.pl_fabric.proofs.ExecutionSteps.{Keeps, Leads}
use Rattle.pl_fabric.proofs.rounds.sweep_often.Given as goal

abbrev pub invariant-loop : goal.invariant-loop
invariant-loop g l =
    Keeps l.initial.world l.world
    × ((left : ℕ) → left + l.counter ≡ l.times →
    Leads (Times left (Sweeps g.S.SwitchLogic.rule g.M.ManagerLogic.rule g.H.HostLogic.rule)) l.world
    (Times l.times (Sweeps g.S.SwitchLogic.rule g.M.ManagerLogic.rule g.H.HostLogic.rule)) l.initial.world)
