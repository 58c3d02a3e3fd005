use Rattle.std.proofs.lemmas.Result.{err_from_is_err_and}
use Rattle.std.proofs.Common.{◌≡◌, ℕ, suc, ◌+◌, ◌-◌, None, map, length, refl, ◌∙◌, ap, arith}
use Rattle.std.specs.List.{range_with_len}
use Rattle.pl_wiring.specs.Plan.{Plan}
use Rattle.pl_world.specs.declared.event.Event.TheVariants as event
use Rattle.pl_world.specs.Changes.{host_no}
use Rattle.pl_script.specs.declared.command.Who.TheVariants as who
use Rattle.pl_fabric.specs.Executions.{Makes, MakesAll}
use Rattle.pl_fabric.proofs.Exports.{leads_all, led_on, led_stops, unless_weaker}
use Rattle.pl_script_rule.specs.Lines.{hosts_meant}
use Rattle.pl_player.proofs.hosts.retry_all.Goals as goal

pub loop-h-init : goal.loop-h-init
loop-h-init g c =
    let many : c.host_count-many.result ≡ length c.args.world.now.plan.hosts =
    c.host_count-many.ensures ∙ ap (λ (plan : Plan). length plan.hosts) c.wiring.ensures in (
      record { orderly = c.requires.orderly; plan = refl },
      λ left all. record {
        on = (leads_all (λ n. MakesAll g.S.SwitchLogic.rule g.M.ManagerLogic.rule g.H.HostLogic.rule (map event.Retry (map host_no (range_with_len 0 n))))
            (length c.args.world.now.plan.hosts) left c.args.world.now (all ∙ many)).on;
      },
    )

pub make-requires : goal.make-requires
make-requires g c = record { orderly = c.loop-h.invariant.0.orderly }

pub loop-h-preserved : goal.loop-h-preserved
loop-h-preserved g c = (
  record {
    orderly = c.in_ok-make.ensures.orderly;
    plan = c.in_ok-make.ensures.plan ∙ c.loop-h.invariant.0.plan;
  },
  λ left all. led_on (Makes g.S.SwitchLogic.rule g.M.ManagerLogic.rule g.H.HostLogic.rule (event.Retry (host_no c.loop-h.h)))
      (MakesAll g.S.SwitchLogic.rule g.M.ManagerLogic.rule g.H.HostLogic.rule (map event.Retry (map host_no (range_with_len (c.loop-h.h + 1) left))))
      (MakesAll g.S.SwitchLogic.rule g.M.ManagerLogic.rule g.H.HostLogic.rule (map event.Retry (hosts_meant c.args.world.now.plan who.All)))
      c.loop-h.world c.make.new.world c.args.world.now (c.loop-h.invariant.1 (suc left) (omega arith)) c.in_ok-make.ensures.made,
)

pub returns-in_err-make : goal.returns-in_err-make
returns-in_err-make g c =
    let p = err_from_is_err_and c.from_residual.result c.from_residual.ensures.1 in
    let left : ℕ = c.host_count-many.result - (c.loop-h.h + 1) in
    let all : suc left + c.loop-h.h ≡ c.host_count-many.result = omega arith in
    rw (p.1, p.2) (record {
      made = unless_weaker c.in_err-make.field-0.0 _ _
          (led_stops (Makes g.S.SwitchLogic.rule g.M.ManagerLogic.rule g.H.HostLogic.rule (event.Retry (host_no c.loop-h.h)))
          (MakesAll g.S.SwitchLogic.rule g.M.ManagerLogic.rule g.H.HostLogic.rule (map event.Retry (map host_no (range_with_len (c.loop-h.h + 1) left))))
          (MakesAll g.S.SwitchLogic.rule g.M.ManagerLogic.rule g.H.HostLogic.rule (map event.Retry (hosts_meant c.args.world.now.plan who.All)))
          c.loop-h.world c.make.new.world c.args.world.now c.in_err-make.field-0.0 (c.loop-h.invariant.1 (suc left) all))
          c.in_err-make.ensures.made;
      orderly = c.in_err-make.ensures.orderly;
    })

pub returns : goal.returns
returns g c = record {
  made = (c.loop-h.invariant.1 0 (omega arith)).on None c.loop-h.world (refl, refl);
  orderly = c.loop-h.invariant.0.orderly;
}
