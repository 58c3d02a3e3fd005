use Rattle.std.proofs.lemmas.Result.{err_from_is_err_and}
use Rattle.std.proofs.Common.{◌≡◌, ℕ, suc, ◌+◌, ◌-◌, None, Some, refl, sym, ◌∙◌, ap, subst, arith}
use Rattle.pl_world.specs.Worlds.{WorldView}
use Rattle.pl_fabric.specs.Executions.{Makes}
use Rattle.pl_fabric.specs.Draws.{Draws, drawn, next_number}
use Rattle.pl_fabric.proofs.ExecutionSteps.{Leads, leads_all, led_on, led_stops, unless_weaker}
use Rattle.pl_fabric.proofs.draws.random.Goals as goal

pub loop-init : goal.loop-init
loop-init g c = (
  record { orderly = c.requires.orderly; plan = refl },
  λ left all. leads_all (λ n. Draws g.S.SwitchLogic.rule g.M.ManagerLogic.rule g.H.HostLogic.rule n c.args.number) c.args.steps left c.args.world.now all,
)

pub loop-preserved : goal.loop-preserved
loop-preserved g c =
    let x : c.next_number-x.result ≡ next_number c.loop.x = c.next_number-x.ensures in
    let event : c.drawn-event.result ≡ drawn c.loop.world (next_number c.loop.x) = c.drawn-event.ensures ∙ ap (λ (w : WorldView). drawn w c.next_number-x.result) c.world.ensures ∙ ap (drawn c.loop.world) x in (
      record {
        orderly = c.in_ok-make.ensures.orderly;
        plan = c.in_ok-make.ensures.plan ∙ c.loop.invariant.0.plan;
      },
      λ left all. subst (λ y. Leads (Draws g.S.SwitchLogic.rule g.M.ManagerLogic.rule g.H.HostLogic.rule left y) c.make.new.world
          (Draws g.S.SwitchLogic.rule g.M.ManagerLogic.rule g.H.HostLogic.rule c.args.steps c.args.number) c.args.world.now) (sym x)
          (led_on (Makes g.S.SwitchLogic.rule g.M.ManagerLogic.rule g.H.HostLogic.rule (drawn c.loop.world (next_number c.loop.x)))
          (Draws g.S.SwitchLogic.rule g.M.ManagerLogic.rule g.H.HostLogic.rule left (next_number c.loop.x))
          (Draws g.S.SwitchLogic.rule g.M.ManagerLogic.rule g.H.HostLogic.rule c.args.steps c.args.number)
          c.loop.world c.make.new.world c.args.world.now
          (record { on = (c.loop.invariant.1 (suc left) (omega arith)).on })
          (subst (λ e. Makes g.S.SwitchLogic.rule g.M.ManagerLogic.rule g.H.HostLogic.rule e c.loop.world None c.make.new.world) event c.in_ok-make.ensures.made)),
    )

pub returns-in_err-make : goal.returns-in_err-make
returns-in_err-make g c =
    let p = err_from_is_err_and c.from_residual.result c.from_residual.ensures.1 in
    let x : c.next_number-x.result ≡ next_number c.loop.x = c.next_number-x.ensures in
    let event : c.drawn-event.result ≡ drawn c.loop.world (next_number c.loop.x) = c.drawn-event.ensures ∙ ap (λ (w : WorldView). drawn w c.next_number-x.result) c.world.ensures ∙ ap (drawn c.loop.world) x in
    let left : ℕ = c.args.steps - (c.loop.counter + 1) in
    let all : suc left + c.loop.counter ≡ c.args.steps = omega arith in
    rw (p.1, p.2) (record {
      drawn = unless_weaker c.in_err-make.field-0.0 _ _
          (λ stopped. led_stops (Makes g.S.SwitchLogic.rule g.M.ManagerLogic.rule g.H.HostLogic.rule (drawn c.loop.world (next_number c.loop.x)))
          (Draws g.S.SwitchLogic.rule g.M.ManagerLogic.rule g.H.HostLogic.rule left (next_number c.loop.x))
          (Draws g.S.SwitchLogic.rule g.M.ManagerLogic.rule g.H.HostLogic.rule c.args.steps c.args.number)
          c.loop.world c.make.new.world c.args.world.now c.in_err-make.field-0.0
          (record { on = (c.loop.invariant.1 (suc left) all).on })
          (subst (λ e. Makes g.S.SwitchLogic.rule g.M.ManagerLogic.rule g.H.HostLogic.rule e c.loop.world (Some c.in_err-make.field-0.0) c.make.new.world) event stopped))
          c.in_err-make.ensures.made;
      orderly = c.in_err-make.ensures.orderly;
      plan = unless_weaker c.in_err-make.field-0.0 _ _ (λ same. same ∙ c.loop.invariant.0.plan) c.in_err-make.ensures.plan;
    })

pub returns : goal.returns
returns g c = record {
  drawn = (c.loop.invariant.1 0 (omega arith)).on None c.loop.world (refl, refl);
  orderly = c.loop.invariant.0.orderly;
  plan = c.loop.invariant.0.plan;
}
