use Rattle.pl_world.specs.Ready.{CanStep}
use Rattle.pl_fabric.proofs.ExecutionSteps.{step_keeps, step_keeps_plan, step_makes}
use Rattle.pl_fabric.proofs.making.make.Goals as goal

pub returns : goal.returns
returns g c = record {
  made =
      step_makes g.S.SwitchLogic.rule g.M.ManagerLogic.rule g.H.HostLogic.rule c.args.world.now c.step.new.self c.args.event.now c.step.result
      c.step.ensures.step c.step.ensures.refused c.step.ensures.memory;
  orderly =
      step_keeps g.S.SwitchLogic.rule g.M.ManagerLogic.rule g.H.HostLogic.rule c.args.world.now c.step.new.self c.args.event.now CanStep c.requires.orderly
      c.step.result c.step.ensures.orderly c.step.ensures.refused c.step.ensures.memory;
  plan =
      step_keeps_plan g.S.SwitchLogic.rule g.M.ManagerLogic.rule g.H.HostLogic.rule c.args.world.now c.step.new.self c.args.event.now c.step.result
      c.step.ensures.step c.step.ensures.refused c.step.ensures.memory;
}
