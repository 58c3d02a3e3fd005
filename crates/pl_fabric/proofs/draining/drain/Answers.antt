use Rattle.std.proofs.lemmas.Result.{IfOk-weaker, err_from_is_err_and}
use Rattle.std.proofs.Common.{◌≡◌, ℕ, suc, ◌+◌, ◌-◌, None, Some, IfOk, refl, sym, ◌∙◌, subst, arith}
use Rattle.pl_world.specs.Worlds.{WorldView}
use Rattle.pl_fabric.specs.Drains.{Drains, GoesSweeps, IsDrainAnswer, IsDrained}
use Rattle.pl_fabric.specs.Rounds.{Sweeps}
use Rattle.pl_fabric.proofs.ExecutionSteps.{leads_all, then_on, then_stops, unless_weaker}
use Rattle.pl_fabric.proofs.draining.drain.Goals as goal

pub loop-used-init : goal.loop-used-init
loop-used-init g c = (
  record { orderly = c.requires.orderly; plan = refl },
  λ n all is. leads_all (GoesSweeps g.S.SwitchLogic.rule g.M.ManagerLogic.rule g.H.HostLogic.rule) all n c.args.world.now is,
)

pub loop-used-preserved : goal.loop-used-preserved
loop-used-preserved g c =
    let unrest : IsDrained c.loop-used.world → ⊥ = (λ rest. let is = c.drained.ensures.1 (subst IsDrained (sym c.world.ensures) rest) in let not = c.if-drained.false in absurd (cc)) in (
      record {
        orderly = c.in_ok-sweep.ensures.orderly;
        plan = c.in_ok-sweep.ensures.plan ∙ c.loop-used.invariant.0.plan;
      },
      λ n all is. record {
        on = λ end new rest. (c.loop-used.invariant.1 (suc n) all (omega arith)).on end new (
          unrest,
          then_on (Sweeps g.S.SwitchLogic.rule g.M.ManagerLogic.rule g.H.HostLogic.rule)
              (GoesSweeps g.S.SwitchLogic.rule g.M.ManagerLogic.rule g.H.HostLogic.rule n) c.loop-used.world c.sweep.new.world end new
              c.in_ok-sweep.ensures.swept rest,
        );
      },
    )

pub returns-in_err-sweep : goal.returns-in_err-sweep
returns-in_err-sweep g c =
    let p = err_from_is_err_and c.from_residual.result c.from_residual.ensures.1 in
    let unrest : IsDrained c.loop-used.world → ⊥ = (λ rest. let is = c.drained.ensures.1 (subst IsDrained (sym c.world.ensures) rest) in let not = c.if-drained.false in absurd (cc)) in
    let left : ℕ = c.args.sweeps - (c.loop-used.used + 1) in
    let all : suc left + c.loop-used.used ≡ c.args.sweeps = omega arith in
    rw (p.1, p.2) (record {
      drains = tt;
      refused = unless_weaker c.in_err-sweep.field-0.0 _ _
          (λ stopped. (c.loop-used.invariant.1 (suc left) c.args.sweeps all).on (Some c.in_err-sweep.field-0.0) c.sweep.new.world (
            unrest,
            then_stops (Sweeps g.S.SwitchLogic.rule g.M.ManagerLogic.rule g.H.HostLogic.rule)
                (GoesSweeps g.S.SwitchLogic.rule g.M.ManagerLogic.rule g.H.HostLogic.rule left) c.loop-used.world c.sweep.new.world c.in_err-sweep.field-0.0 stopped,
          ))
          c.in_err-sweep.ensures.swept;
      orderly = c.in_err-sweep.ensures.orderly;
      plan = unless_weaker c.in_err-sweep.field-0.0 _ _ (λ same. same ∙ c.loop-used.invariant.0.plan) c.in_err-sweep.ensures.plan;
    })

pub returns-then-drained : goal.returns-then-drained
returns-then-drained g c =
    let rest : IsDrained c.loop-used.world = subst IsDrained c.world.ensures (c.drained.ensures.0 c.if-drained.true) in
    record {
      drains = record {
        used = c.loop-used.used;
        sweeps = (c.loop-used.invariant.1 0 c.loop-used.used (omega arith)).on None c.loop-used.world (refl, refl);
        within = omega arith;
        least = λ less. rest;
        answered = (rest, refl);
      };
      refused = tt;
      orderly = c.loop-used.invariant.0.orderly;
      plan = c.loop-used.invariant.0.plan;
    }

pub returns-clause-drains : goal.returns-clause-drains
returns-clause-drains g c =
    IfOk-weaker c.answer.result (λ answer. IsDrainAnswer c.loop-used.world c.args.sweeps answer)
    (λ answer. Drains g.S.SwitchLogic.rule g.M.ManagerLogic.rule g.H.HostLogic.rule c.args.sweeps c.args.world.now answer c.loop-used.world)
    (λ answer answered. record {
      used = c.args.sweeps;
      sweeps = (c.loop-used.invariant.1 0 c.args.sweeps (omega arith)).on None c.loop-used.world (refl, refl);
      within = omega arith;
      least = λ less. absurd (omega arith);
      answered = answered;
    })
    (subst (λ (w : WorldView). IfOk c.answer.result (λ answer. IsDrainAnswer w c.args.sweeps answer)) c.world-2.ensures c.answer.ensures.ok)
