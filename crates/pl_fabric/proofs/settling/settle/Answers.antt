use Rattle.std.proofs.lemmas.Result.{err_from_is_err_and}
use Rattle.std.proofs.Common.{◌≡◌, ℕ, suc, ◌+◌, ◌-◌, None, Some, refl, sym, ◌∙◌, subst, arith}
use Rattle.pl_world.specs.Flying.{IsCounted}
use Rattle.pl_world.specs.Worlds.{WorldView}
use Rattle.pl_fabric.specs.Rounds.{GoesRound}
use Rattle.pl_fabric.specs.Settlings.{GoesRounds, IsAtRest, IsSettlingAnswer}
use Rattle.pl_fabric.proofs.ExecutionSteps.{leads_all, then_on, then_stops, unless_weaker}
use Rattle.pl_fabric.proofs.settling.settle.Goals as goal

pub is_at_rest-requires : goal.is_at_rest-requires
is_at_rest-requires g c = subst IsCounted (sym c.world.ensures) c.loop-used.invariant.0.orderly.counted

pub answer-requires : goal.answer-requires
answer-requires g c = subst IsCounted (sym c.world-2.ensures) c.loop-used.invariant.0.orderly.counted

pub loop-used-init : goal.loop-used-init
loop-used-init g c = (
  record { orderly = c.requires.orderly; plan = refl },
  λ n all is. leads_all (GoesRounds g.S.SwitchLogic.rule g.M.ManagerLogic.rule g.H.HostLogic.rule) all n c.args.world.now is,
)

pub loop-used-preserved : goal.loop-used-preserved
loop-used-preserved g c =
    let unrest : IsAtRest c.loop-used.world → ⊥ = (λ rest. let is = c.is_at_rest.ensures.1 (subst IsAtRest (sym c.world.ensures) rest) in let not = c.if-is_at_rest.false in absurd (cc)) in (
      record {
        orderly = c.in_ok-round.ensures.orderly;
        plan = c.in_ok-round.ensures.plan ∙ c.loop-used.invariant.0.plan;
      },
      λ n all is. record {
        on = λ end new rest. (c.loop-used.invariant.1 (suc n) all (omega arith)).on end new (
          unrest,
          then_on (GoesRound g.S.SwitchLogic.rule g.M.ManagerLogic.rule g.H.HostLogic.rule)
              (GoesRounds g.S.SwitchLogic.rule g.M.ManagerLogic.rule g.H.HostLogic.rule n) c.loop-used.world c.round.new.world end new
              c.in_ok-round.ensures.went rest,
        );
      },
    )

pub returns-in_err-round : goal.returns-in_err-round
returns-in_err-round g c =
    let p = err_from_is_err_and c.from_residual.result c.from_residual.ensures.1 in
    let unrest : IsAtRest c.loop-used.world → ⊥ = (λ rest. let is = c.is_at_rest.ensures.1 (subst IsAtRest (sym c.world.ensures) rest) in let not = c.if-is_at_rest.false in absurd (cc)) in
    let left : ℕ = c.args.rounds - (c.loop-used.used + 1) in
    let all : suc left + c.loop-used.used ≡ c.args.rounds = omega arith in
    rw (p.1, p.2) (record {
      settles = tt;
      refused = unless_weaker c.in_err-round.field-0.0 _ _
          (λ stopped. (c.loop-used.invariant.1 (suc left) c.args.rounds all).on (Some c.in_err-round.field-0.0) c.round.new.world (
            unrest,
            then_stops (GoesRound g.S.SwitchLogic.rule g.M.ManagerLogic.rule g.H.HostLogic.rule)
                (GoesRounds g.S.SwitchLogic.rule g.M.ManagerLogic.rule g.H.HostLogic.rule left) c.loop-used.world c.round.new.world c.in_err-round.field-0.0 stopped,
          ))
          c.in_err-round.ensures.went;
      orderly = c.in_err-round.ensures.orderly;
      plan = unless_weaker c.in_err-round.field-0.0 _ _ (λ same. same ∙ c.loop-used.invariant.0.plan) c.in_err-round.ensures.plan;
    })

pub returns-then-is_at_rest : goal.returns-then-is_at_rest
returns-then-is_at_rest g c =
    let rest : IsAtRest c.loop-used.world = subst IsAtRest c.world.ensures (c.is_at_rest.ensures.0 c.if-is_at_rest.true) in
    record {
      settles = record {
        used = c.loop-used.used;
        rounds = (c.loop-used.invariant.1 0 c.loop-used.used (omega arith)).on None c.loop-used.world (refl, refl);
        within = omega arith;
        least = λ less. rest;
        answered = (rest.settled, refl);
      };
      refused = tt;
      orderly = c.loop-used.invariant.0.orderly;
      plan = c.loop-used.invariant.0.plan;
    }

pub returns : goal.returns
returns g c = record {
  settles = record {
    used = c.args.rounds;
    rounds = (c.loop-used.invariant.1 0 c.args.rounds (omega arith)).on None c.loop-used.world (refl, refl);
    within = omega arith;
    least = λ less. absurd (omega arith);
    answered = subst (λ (w : WorldView). IsSettlingAnswer w c.args.rounds c.answer.result) c.world-2.ensures c.answer.ensures;
  };
  refused = tt;
  orderly = c.loop-used.invariant.0.orderly;
  plan = c.loop-used.invariant.0.plan;
}
