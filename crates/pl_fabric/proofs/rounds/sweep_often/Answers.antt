use Rattle.std.proofs.lemmas.Result.{err_from_is_err_and}
use Rattle.std.proofs.Common.{◌≡◌, ℕ, suc, ◌+◌, ◌-◌, None, refl, ◌∙◌, arith}
use Rattle.pl_fabric.specs.Executions.{Times}
use Rattle.pl_fabric.specs.Rounds.{Sweeps}
use Rattle.pl_fabric.proofs.ExecutionSteps.{leads_all, led_on, led_stops, unless_weaker}
use Rattle.pl_fabric.proofs.rounds.sweep_often.Goals as goal

pub loop-init : goal.loop-init
loop-init g c = (
  record { orderly = c.requires.orderly; plan = refl },
  λ left all. leads_all (λ n. Times n (Sweeps g.S.SwitchLogic.rule g.M.ManagerLogic.rule g.H.HostLogic.rule)) c.args.times left c.args.world.now all,
)

pub loop-preserved : goal.loop-preserved
loop-preserved g c = (
  record {
    orderly = c.in_ok-sweep.ensures.orderly;
    plan = c.in_ok-sweep.ensures.plan ∙ c.loop.invariant.0.plan;
  },
  λ left all. led_on (Sweeps g.S.SwitchLogic.rule g.M.ManagerLogic.rule g.H.HostLogic.rule)
      (Times left (Sweeps g.S.SwitchLogic.rule g.M.ManagerLogic.rule g.H.HostLogic.rule))
      (Times c.args.times (Sweeps g.S.SwitchLogic.rule g.M.ManagerLogic.rule g.H.HostLogic.rule))
      c.loop.world c.sweep.new.world c.args.world.now (c.loop.invariant.1 (suc left) (omega arith)) c.in_ok-sweep.ensures.swept,
)

pub returns-in_err-sweep : goal.returns-in_err-sweep
returns-in_err-sweep g c =
    let p = err_from_is_err_and c.from_residual.result c.from_residual.ensures.1 in
    let left : ℕ = c.args.times - (c.loop.counter + 1) in
    let all : suc left + c.loop.counter ≡ c.args.times = omega arith in
    rw (p.1, p.2) (record {
      swept = unless_weaker c.in_err-sweep.field-0.0 _ _
          (led_stops (Sweeps g.S.SwitchLogic.rule g.M.ManagerLogic.rule g.H.HostLogic.rule)
          (Times left (Sweeps g.S.SwitchLogic.rule g.M.ManagerLogic.rule g.H.HostLogic.rule))
          (Times c.args.times (Sweeps g.S.SwitchLogic.rule g.M.ManagerLogic.rule g.H.HostLogic.rule))
          c.loop.world c.sweep.new.world c.args.world.now c.in_err-sweep.field-0.0 (c.loop.invariant.1 (suc left) all))
          c.in_err-sweep.ensures.swept;
      orderly = c.in_err-sweep.ensures.orderly;
      plan = unless_weaker c.in_err-sweep.field-0.0 _ _ (λ same. same ∙ c.loop.invariant.0.plan) c.in_err-sweep.ensures.plan;
    })

pub returns : goal.returns
returns g c = record {
  swept = (c.loop.invariant.1 0 (omega arith)).on None c.loop.world (refl, refl);
  orderly = c.loop.invariant.0.orderly;
  plan = c.loop.invariant.0.plan;
}
