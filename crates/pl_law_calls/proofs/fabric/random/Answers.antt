use Rattle.std.proofs.Common.{Option}
use Rattle.pl_world.specs.declared.error.StepError.{StepError}
use Rattle.pl_fabric.specs.Draws.{Draws}
use Rattle.pl_law_calls.proofs.Going.{few_then, goes_on, promised}
use Rattle.pl_fabric.proofs.Exports.{ends_weaker}
use Rattle.pl_law_calls.proofs.fabric.random.Goals as goal

pub returns : goal.returns
returns g c =
    let on = λ (end : Option StepError) (done : Draws g.S.SwitchLogic.rule g.M.ManagerLogic.rule g.H.HostLogic.rule c.args.steps c.args.number c.args.world.now end c.random.new.world). goes_on g.S.SwitchLogic.rule g.M.ManagerLogic.rule g.H.HostLogic.rule c.args.world.now c.random.new.world c.requires.moment (c.drawn_steps_are_a_run.ensures c.args.steps c.args.number c.args.world.now c.random.new.world end done) in
    record {
      drawn = c.random.ensures.drawn;
      orderly = c.random.ensures.orderly;
      moment = ends_weaker _ _ on c.random.result c.random.ensures.drawn;
      one_switch = ends_weaker _ _ (λ end done. promised g.S.SwitchLogic.rule g.M.ManagerLogic.rule g.H.HostLogic.rule c.lawful_logic_is_one_switch.ensures c.random.new.world (on end done)
          (few_then g.S.SwitchLogic.rule g.M.ManagerLogic.rule g.H.HostLogic.rule c.args.world.now c.random.new.world c.requires.orderly
          (c.drawn_steps_are_a_run.ensures c.args.steps c.args.number c.args.world.now c.random.new.world end done))) c.random.result c.random.ensures.drawn;
    }
