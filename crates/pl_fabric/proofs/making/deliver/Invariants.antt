use Rattle.std.proofs.Common.{◌≡◌, ℕ, ◌+◌, replicate}
use Rattle.pl_world.specs.declared.event.Event.TheVariants.{Deliver}
use Rattle.pl_fabric.specs.Executions.{MakesAll}
use Rattle.pl_fabric.proofs.ExecutionSteps.{Keeps, Leads}
use Rattle.pl_fabric.proofs.making.deliver.Given as goal

abbrev pub invariant-loop : goal.invariant-loop
invariant-loop g l =
    Keeps l.initial.world l.world
    × ((left : ℕ) → left + l.counter ≡ l.many →
    Leads (MakesAll g.S.SwitchLogic.rule g.M.ManagerLogic.rule g.H.HostLogic.rule (replicate left (Deliver l.name))) l.world
    (MakesAll g.S.SwitchLogic.rule g.M.ManagerLogic.rule g.H.HostLogic.rule (replicate l.many (Deliver l.name))) l.initial.world)
