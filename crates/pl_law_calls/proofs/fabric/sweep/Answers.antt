use Rattle.std.proofs.Common.{Option}
use Rattle.pl_world.specs.declared.error.StepError.{StepError}
use Rattle.pl_fabric.specs.Rounds.{Sweeps}
use Rattle.pl_law_calls.proofs.Going.{few_then, goes_on, promised}
use Rattle.pl_fabric.proofs.Exports.{ends_weaker}
use Rattle.pl_law_calls.proofs.fabric.sweep.Goals as goal

pub returns : goal.returns
returns g c =
    let on = λ (end : Option StepError) (done : Sweeps g.S.SwitchLogic.rule g.M.ManagerLogic.rule g.H.HostLogic.rule c.args.world.now end c.sweep.new.world). goes_on g.S.SwitchLogic.rule g.M.ManagerLogic.rule g.H.HostLogic.rule c.args.world.now c.sweep.new.world c.requires.moment (c.a_sweep_is_a_run.ensures c.args.world.now c.sweep.new.world end done) in
    record {
      swept = c.sweep.ensures.swept;
      orderly = c.sweep.ensures.orderly;
      moment = ends_weaker _ _ on c.sweep.result c.sweep.ensures.swept;
      one_switch = ends_weaker _ _ (λ end done. promised g.S.SwitchLogic.rule g.M.ManagerLogic.rule g.H.HostLogic.rule c.lawful_logic_is_one_switch.ensures c.sweep.new.world (on end done)
          (few_then g.S.SwitchLogic.rule g.M.ManagerLogic.rule g.H.HostLogic.rule c.args.world.now c.sweep.new.world c.requires.orderly
          (c.a_sweep_is_a_run.ensures c.args.world.now c.sweep.new.world end done))) c.sweep.result c.sweep.ensures.swept;
    }
