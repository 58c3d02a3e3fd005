use Rattle.std.proofs.lemmas.Result.{err_from_is_err_and}
use Rattle.std.proofs.Common.{◌≡◌, ℕ, suc, ◌+◌, ◌-◌, None, map, refl, ◌∙◌, ap, arith}
use Rattle.std.specs.List.{range_with_len}
use Rattle.pl_wiring.specs.Labels.{switch_count}
use Rattle.pl_world.specs.declared.event.Event.TheVariants.{Tick}
use Rattle.pl_world.specs.Changes.{switch_no}
use Rattle.pl_fabric.specs.Executions.{Makes, MakesAll}
use Rattle.pl_fabric.specs.Rounds.{TicksAll}
use Rattle.pl_fabric.proofs.ExecutionSteps.{leads_all, led_on, led_stops, unless_weaker}
use Rattle.pl_fabric.proofs.making.tick_all.Goals as goal

pub loop-s-init : goal.loop-s-init
loop-s-init g c =
    let many : c.switch_count-many.result ≡ switch_count c.args.world.now.plan.k =
    c.switch_count-many.ensures.count ∙ ap (λ plan. switch_count plan.k) c.wiring.ensures in (
      record { orderly = c.requires.orderly; plan = refl },
      λ left all. record {
        on = (leads_all (λ n. MakesAll g.S.SwitchLogic.rule g.M.ManagerLogic.rule g.H.HostLogic.rule (map (λ s. Tick (switch_no s)) (range_with_len 0 n)))
            (switch_count c.args.world.now.plan.k) left c.args.world.now (all ∙ many)).on;
      },
    )

pub loop-s-preserved : goal.loop-s-preserved
loop-s-preserved g c = (
  record {
    orderly = c.in_ok-make.ensures.orderly;
    plan = c.in_ok-make.ensures.plan ∙ c.loop-s.invariant.0.plan;
  },
  λ left all. led_on (Makes g.S.SwitchLogic.rule g.M.ManagerLogic.rule g.H.HostLogic.rule (Tick (switch_no c.loop-s.s)))
      (MakesAll g.S.SwitchLogic.rule g.M.ManagerLogic.rule g.H.HostLogic.rule (map (λ s. Tick (switch_no s)) (range_with_len (c.loop-s.s + 1) left)))
      (TicksAll g.S.SwitchLogic.rule g.M.ManagerLogic.rule g.H.HostLogic.rule)
      c.loop-s.world c.make.new.world c.args.world.now (c.loop-s.invariant.1 (suc left) (omega arith)) c.in_ok-make.ensures.made,
)

pub returns-in_err-make : goal.returns-in_err-make
returns-in_err-make g c =
    let p = err_from_is_err_and c.from_residual.result c.from_residual.ensures.1 in
    let left : ℕ = c.switch_count-many.result - (c.loop-s.s + 1) in
    let all : suc left + c.loop-s.s ≡ c.switch_count-many.result = omega arith in
    rw (p.1, p.2) (record {
      made = unless_weaker c.in_err-make.field-0.0 _ _
          (led_stops (Makes g.S.SwitchLogic.rule g.M.ManagerLogic.rule g.H.HostLogic.rule (Tick (switch_no c.loop-s.s)))
          (MakesAll g.S.SwitchLogic.rule g.M.ManagerLogic.rule g.H.HostLogic.rule (map (λ s. Tick (switch_no s)) (range_with_len (c.loop-s.s + 1) left)))
          (TicksAll g.S.SwitchLogic.rule g.M.ManagerLogic.rule g.H.HostLogic.rule)
          c.loop-s.world c.make.new.world c.args.world.now c.in_err-make.field-0.0 (c.loop-s.invariant.1 (suc left) all))
          c.in_err-make.ensures.made;
      orderly = c.in_err-make.ensures.orderly;
      plan = unless_weaker c.in_err-make.field-0.0 _ _ (λ same. same ∙ c.loop-s.invariant.0.plan) c.in_err-make.ensures.plan;
    })

pub returns : goal.returns
returns g c = record {
  made = (c.loop-s.invariant.1 0 (omega arith)).on None c.loop-s.world (refl, refl);
  orderly = c.loop-s.invariant.0.orderly;
  plan = c.loop-s.invariant.0.plan;
}
