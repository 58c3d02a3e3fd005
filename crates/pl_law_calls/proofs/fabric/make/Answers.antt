use Rattle.std.proofs.Common.{Option}
use Rattle.pl_world.specs.declared.error.StepError.{StepError}
use Rattle.pl_fabric.specs.Executions.{Makes}
use Rattle.pl_law_calls.proofs.Going.{few_then, goes_on, makes_run, promised}
use Rattle.pl_fabric.proofs.Exports.{ends_weaker}
use Rattle.pl_law_calls.proofs.fabric.make.Goals as goal

pub returns : goal.returns
returns g c =
    let run = λ (end : Option StepError) (done : Makes g.S.SwitchLogic.rule g.M.ManagerLogic.rule g.H.HostLogic.rule c.args.event.now c.args.world.now end c.make.new.world).
    makes_run g.S.SwitchLogic.rule g.M.ManagerLogic.rule g.H.HostLogic.rule c.args.event.now c.args.world.now end c.make.new.world done in
    let on = λ (end : Option StepError) (done : Makes g.S.SwitchLogic.rule g.M.ManagerLogic.rule g.H.HostLogic.rule c.args.event.now c.args.world.now end c.make.new.world).
    goes_on g.S.SwitchLogic.rule g.M.ManagerLogic.rule g.H.HostLogic.rule c.args.world.now c.make.new.world c.requires.moment (run end done) in
    record {
      made = c.make.ensures.made;
      orderly = c.make.ensures.orderly;
      moment = ends_weaker _ _ on c.make.result c.make.ensures.made;
      one_switch = ends_weaker _ _ (λ end done. promised g.S.SwitchLogic.rule g.M.ManagerLogic.rule g.H.HostLogic.rule c.lawful_logic_is_one_switch.ensures c.make.new.world (on end done)
          (few_then g.S.SwitchLogic.rule g.M.ManagerLogic.rule g.H.HostLogic.rule c.args.world.now c.make.new.world c.requires.orderly
          (run end done))) c.make.result c.make.ensures.made;
    }
