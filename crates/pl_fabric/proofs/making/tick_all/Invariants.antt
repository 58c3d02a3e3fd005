use Rattle.std.proofs.Common.{◌≡◌, ℕ, ◌+◌, map}
use Rattle.std.specs.List.{range_with_len}
use Rattle.pl_world.specs.declared.event.Event.TheVariants.{Tick}
use Rattle.pl_world.specs.Changes.{switch_no}
use Rattle.pl_fabric.specs.Executions.{MakesAll}
use Rattle.pl_fabric.specs.Rounds.{TicksAll}
use Rattle.pl_fabric.proofs.ExecutionSteps.{Keeps, Leads}
use Rattle.pl_fabric.proofs.making.tick_all.Given as goal

abbrev pub invariant-loop-s : goal.invariant-loop-s
invariant-loop-s g l =
    Keeps l.initial.world l.world
    × ((left : ℕ) → left + l.s ≡ l.many →
    Leads (MakesAll g.S.SwitchLogic.rule g.M.ManagerLogic.rule g.H.HostLogic.rule (map (λ s. Tick (switch_no s)) (range_with_len l.s left))) l.world
    (TicksAll g.S.SwitchLogic.rule g.M.ManagerLogic.rule g.H.HostLogic.rule) l.initial.world)
