use Rattle.std.proofs.lemmas.Result.{err_from_is_err_and}
use Rattle.std.proofs.Common.{◌≡◌, ℕ, suc, ◌+◌, ◌-◌, None, replicate, refl, ◌∙◌, arith}
use Rattle.pl_world.specs.declared.event.Event.TheVariants.{Deliver}
use Rattle.pl_fabric.specs.Executions.{Makes, MakesAll}
use Rattle.pl_fabric.proofs.ExecutionSteps.{leads_all, led_on, led_stops, unless_weaker}
use Rattle.pl_fabric.proofs.making.deliver.Goals as goal

pub loop-init : goal.loop-init
loop-init g c = (
  record { orderly = c.requires.orderly; plan = refl },
  λ left all. leads_all (λ n. MakesAll g.S.SwitchLogic.rule g.M.ManagerLogic.rule g.H.HostLogic.rule (replicate n (Deliver c.args.name)))
      c.args.many left c.args.world.now all,
)

pub loop-preserved : goal.loop-preserved
loop-preserved g c = (
  record {
    orderly = c.in_ok-make.ensures.orderly;
    plan = c.in_ok-make.ensures.plan ∙ c.loop.invariant.0.plan;
  },
  λ left all. led_on (Makes g.S.SwitchLogic.rule g.M.ManagerLogic.rule g.H.HostLogic.rule (Deliver c.args.name))
      (MakesAll g.S.SwitchLogic.rule g.M.ManagerLogic.rule g.H.HostLogic.rule (replicate left (Deliver c.args.name)))
      (MakesAll g.S.SwitchLogic.rule g.M.ManagerLogic.rule g.H.HostLogic.rule (replicate c.args.many (Deliver c.args.name)))
      c.loop.world c.make.new.world c.args.world.now (c.loop.invariant.1 (suc left) (omega arith)) c.in_ok-make.ensures.made,
)

pub returns-in_err-make : goal.returns-in_err-make
returns-in_err-make g c =
    let p = err_from_is_err_and c.from_residual.result c.from_residual.ensures.1 in
    let left : ℕ = c.args.many - (c.loop.counter + 1) in
    let all : suc left + c.loop.counter ≡ c.args.many = omega arith in
    rw (p.1, p.2) (record {
      made = unless_weaker c.in_err-make.field-0.0 _ _
          (led_stops (Makes g.S.SwitchLogic.rule g.M.ManagerLogic.rule g.H.HostLogic.rule (Deliver c.args.name))
          (MakesAll g.S.SwitchLogic.rule g.M.ManagerLogic.rule g.H.HostLogic.rule (replicate left (Deliver c.args.name)))
          (MakesAll g.S.SwitchLogic.rule g.M.ManagerLogic.rule g.H.HostLogic.rule (replicate c.args.many (Deliver c.args.name)))
          c.loop.world c.make.new.world c.args.world.now c.in_err-make.field-0.0 (c.loop.invariant.1 (suc left) all))
          c.in_err-make.ensures.made;
      orderly = c.in_err-make.ensures.orderly;
      plan = unless_weaker c.in_err-make.field-0.0 _ _ (λ same. same ∙ c.loop.invariant.0.plan) c.in_err-make.ensures.plan;
    })

pub returns : goal.returns
returns g c = record {
  made = (c.loop.invariant.1 0 (omega arith)).on None c.loop.world (refl, refl);
  orderly = c.loop.invariant.0.orderly;
  plan = c.loop.invariant.0.plan;
}
