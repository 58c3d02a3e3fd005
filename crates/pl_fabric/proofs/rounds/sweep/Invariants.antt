use Rattle.std.proofs.Common.{◌-◌}
use Rattle.pl_world.specs.QueueOrder.{queue_count}
use Rattle.pl_fabric.specs.Rounds.{Sweeps, VisitsAll, queues_from}
use Rattle.pl_fabric.proofs.ExecutionSteps.{Keeps, Leads}
use Rattle.pl_fabric.proofs.rounds.sweep.Given as goal

abbrev pub invariant-loop-n : goal.invariant-loop-n
invariant-loop-n g l =
    Keeps l.initial.world l.world
    × Leads (VisitsAll g.S.SwitchLogic.rule g.M.ManagerLogic.rule g.H.HostLogic.rule (queues_from l.initial.world.plan l.from)) l.world
    (Sweeps g.S.SwitchLogic.rule g.M.ManagerLogic.rule g.H.HostLogic.rule) l.initial.world

abbrev pub decreases-loop-n : goal.decreases-loop-n
decreases-loop-n g l = queue_count l.world.plan - l.from
