use Rattle.std.proofs.lemmas.Result.{err_from_is_err_and}
use Rattle.std.proofs.Common.{◌≡◌, ℕ, ◌+◌, None, Some, refl, ◌∙◌, ap, subst}
use Rattle.pl_world.specs.QueueOrder.{queue_at}
use Rattle.pl_fabric.specs.Rounds.{Visits, VisitsAll, queues_from}
use Rattle.pl_fabric.proofs.ExecutionSteps.{then_on, then_stops, unless_weaker}
use Rattle.pl_fabric.proofs.Visiting.{next_is_first, next_visited, none_visited}
use Rattle.pl_fabric.proofs.rounds.sweep.Goals as goal

pub loop-n-init : goal.loop-n-init
loop-n-init g c =
    (record { orderly = c.requires.orderly; plan = refl }, record { on = λ end new rest. rest })

pub loop-n-preserved : goal.loop-n-preserved
loop-n-preserved g c =
    let w = c.loop-n.world in
    let plan = c.args.world.now.plan in
    let n : ℕ = c.in-Some.n in
    let same : w.plan ≡ plan = c.loop-n.invariant.0.plan in
    let first = next_is_first w c.loop-n.from (Some n) c.in-Some.ensures.next in
    let visited = subst (λ name. Visits g.S.SwitchLogic.rule g.M.ManagerLogic.rule g.H.HostLogic.rule name w None c.visit.new.world)
    (c.queue_at-name.ensures.name ∙ ap (λ p. queue_at p n) same) c.in_ok-visit.ensures.made in (
      record {
        orderly = c.in_ok-visit.ensures.orderly;
        plan = c.in_ok-visit.ensures.plan ∙ same;
      },
      record {
        on = λ end new rest. c.loop-n.invariant.1.on end new
            (next_visited g.S.SwitchLogic.rule g.M.ManagerLogic.rule g.H.HostLogic.rule w plan c.loop-n.from n end new same first
            (then_on (Visits g.S.SwitchLogic.rule g.M.ManagerLogic.rule g.H.HostLogic.rule (queue_at plan n))
            (VisitsAll g.S.SwitchLogic.rule g.M.ManagerLogic.rule g.H.HostLogic.rule (queues_from plan (n + 1))) w c.visit.new.world end new visited rest));
      },
    )

pub returns-in_err-visit : goal.returns-in_err-visit
returns-in_err-visit g c =
    let p = err_from_is_err_and c.from_residual.result c.from_residual.ensures.1 in
    let w = c.loop-n.world in
    let plan = c.args.world.now.plan in
    let n : ℕ = c.in-Some.n in
    let same : w.plan ≡ plan = c.loop-n.invariant.0.plan in
    let first = next_is_first w c.loop-n.from (Some n) c.in-Some.ensures.next in
    let is = c.queue_at-name.ensures.name ∙ ap (λ p. queue_at p n) same in
    rw (p.1, p.2) (record {
      swept = unless_weaker c.in_err-visit.field-0.0 _ _
          (λ stopped. c.loop-n.invariant.1.on (Some c.in_err-visit.field-0.0) c.visit.new.world
          (next_visited g.S.SwitchLogic.rule g.M.ManagerLogic.rule g.H.HostLogic.rule w plan c.loop-n.from n (Some c.in_err-visit.field-0.0) c.visit.new.world same first
          (then_stops (Visits g.S.SwitchLogic.rule g.M.ManagerLogic.rule g.H.HostLogic.rule (queue_at plan n))
          (VisitsAll g.S.SwitchLogic.rule g.M.ManagerLogic.rule g.H.HostLogic.rule (queues_from plan (n + 1))) w c.visit.new.world c.in_err-visit.field-0.0
          (subst (λ name. Visits g.S.SwitchLogic.rule g.M.ManagerLogic.rule g.H.HostLogic.rule name w (Some c.in_err-visit.field-0.0) c.visit.new.world) is stopped))))
          c.in_err-visit.ensures.made;
      orderly = c.in_err-visit.ensures.orderly;
      plan = unless_weaker c.in_err-visit.field-0.0 _ _ (λ still. still ∙ same) c.in_err-visit.ensures.plan;
    })

pub returns : goal.returns
returns g c =
    let w = c.loop-n.world in
    record {
      swept = c.loop-n.invariant.1.on None w
          (none_visited g.S.SwitchLogic.rule g.M.ManagerLogic.rule g.H.HostLogic.rule w c.args.world.now.plan c.loop-n.from c.loop-n.invariant.0.plan
          (next_is_first w c.loop-n.from None c.in_default.ensures.next));
      orderly = c.loop-n.invariant.0.orderly;
      plan = c.loop-n.invariant.0.plan;
    }
