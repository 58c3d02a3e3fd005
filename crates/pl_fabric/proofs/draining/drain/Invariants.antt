use Rattle.std.proofs.Common.{◌≡◌, ℕ, ◌+◌}
use Rattle.pl_fabric.specs.Drains.{GoesSweeps}
use Rattle.pl_fabric.proofs.ExecutionSteps.{Keeps, Leads}
use Rattle.pl_fabric.proofs.draining.drain.Given as goal

abbrev pub invariant-loop-used : goal.invariant-loop-used
invariant-loop-used g l =
    Keeps l.initial.world l.world
    × ((n all : ℕ) → n + l.used ≡ all →
    Leads (GoesSweeps g.S.SwitchLogic.rule g.M.ManagerLogic.rule g.H.HostLogic.rule n) l.world
    (GoesSweeps g.S.SwitchLogic.rule g.M.ManagerLogic.rule g.H.HostLogic.rule all) l.initial.world)
