use Rattle.std.proofs.lemmas.Result.{err_from_is_err_and}
use Rattle.std.proofs.Common.{◌≡◌, ◌∙◌}
use Rattle.pl_fabric.specs.Executions.{Times}
use Rattle.pl_fabric.specs.Rounds.{Sweeps, TicksAll}
use Rattle.pl_fabric.proofs.ExecutionSteps.{ends_weaker, then_on, then_stops, unless_weaker}
use Rattle.pl_fabric.proofs.rounds.round.Goals as goal

pub returns-in_err-tick_all : goal.returns-in_err-tick_all
returns-in_err-tick_all g c =
    let p = err_from_is_err_and c.from_residual.result c.from_residual.ensures.1 in
    rw (p.1, p.2) (record {
      went = unless_weaker c.in_err-tick_all.field-0.0 _ _
          (then_stops (TicksAll g.S.SwitchLogic.rule g.M.ManagerLogic.rule g.H.HostLogic.rule)
          (Times 4 (Sweeps g.S.SwitchLogic.rule g.M.ManagerLogic.rule g.H.HostLogic.rule)) c.args.world.now c.tick_all.new.world c.in_err-tick_all.field-0.0)
          c.in_err-tick_all.ensures.made;
      orderly = c.in_err-tick_all.ensures.orderly;
      plan = c.in_err-tick_all.ensures.plan;
    })

pub returns : goal.returns
returns g c = record {
  went = ends_weaker _ _
      (λ end. then_on (TicksAll g.S.SwitchLogic.rule g.M.ManagerLogic.rule g.H.HostLogic.rule)
      (Times 4 (Sweeps g.S.SwitchLogic.rule g.M.ManagerLogic.rule g.H.HostLogic.rule)) c.args.world.now c.tick_all.new.world end c.sweep_often.new.world
      c.in_ok-tick_all.ensures.made)
      c.sweep_often.result c.sweep_often.ensures.swept;
  orderly = c.sweep_often.ensures.orderly;
  plan = ends_weaker (λ end. c.sweep_often.new.world.plan ≡ c.tick_all.new.world.plan) (λ end. c.sweep_often.new.world.plan ≡ c.args.world.now.plan)
      (λ end same. same ∙ c.in_ok-tick_all.ensures.plan) c.sweep_often.result c.sweep_often.ensures.plan;
}
