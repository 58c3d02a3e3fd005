use Rattle.std.proofs.Common.{◌≡◌, None}
use Rattle.pl_world.specs.Refusals.{refusal}
use Rattle.pl_world.proofs.Exports.{step_is_counted, step_within}
use Rattle.pl_schedule.proofs.world.World.step.Goals as goal

pub returns-in-Ok-clause-orderly : goal.returns-in-Ok-clause-orderly
returns-in-Ok-clause-orderly g c =
    let none : refusal c.args.self.now c.args.event.now ≡ None = let first = c.refusal.ensures in let is = c.in-None.is in cc in
    record {
      counted =
          step_is_counted g.S.SwitchLogic.rule g.M.ManagerLogic.rule g.H.HostLogic.rule g.met.S.SwitchLogic.accounts g.met.H.HostLogic.sends
          c.args.self.now c.args.event.now c.make_step.new.self c.requires.orderly.counted none c.in-Ok.ensures;
      hearing =
          step_within g.S.SwitchLogic.rule g.M.ManagerLogic.rule g.H.HostLogic.rule g.met.M.ManagerLogic.answers
          c.args.self.now c.args.event.now c.make_step.new.self c.requires.orderly.hearing c.in-Ok.ensures;
    }
