use Rattle.std.proofs.lemmas.Result.{err_from_is_err_and}
use Rattle.std.proofs.Common.{◌≡◌, ℕ, suc, ◌+◌, ◌-◌, None, refl, arith}
use Rattle.pl_inputs.specs.Records.{records_of}
use Rattle.pl_script_rule.specs.Lines.{AsksNext}
use Rattle.pl_script_rule.specs.Scenes.{Often}
use Rattle.pl_script_rule.proofs.Exports.{unless_weaker}
use Rattle.pl_player.proofs.Stops.{leads_all, led_on, led_stops}
use Rattle.pl_player.proofs.player.Player.ask_often.Goals as goal

pub loop-init : goal.loop-init
loop-init g c = (
  record { orderly = c.requires.orderly },
  λ left all. leads_all (λ n. Often n (AsksNext g.S.SwitchLogic.rule g.M.ManagerLogic.rule g.H.HostLogic.rule (records_of c.args.captures.now) c.args.h c.args.raw)) c.args.times left c.args.self.now all,
)

pub ask_next-requires : goal.ask_next-requires
ask_next-requires g c = record { orderly = c.loop.invariant.0.orderly }

pub loop-preserved : goal.loop-preserved
loop-preserved g c = (
  record { orderly = c.in_ok-ask_next.ensures.orderly },
  λ left all. led_on (AsksNext g.S.SwitchLogic.rule g.M.ManagerLogic.rule g.H.HostLogic.rule (records_of c.args.captures.now) c.args.h c.args.raw)
      (Often left (AsksNext g.S.SwitchLogic.rule g.M.ManagerLogic.rule g.H.HostLogic.rule (records_of c.args.captures.now) c.args.h c.args.raw))
      (Often c.args.times (AsksNext g.S.SwitchLogic.rule g.M.ManagerLogic.rule g.H.HostLogic.rule (records_of c.args.captures.now) c.args.h c.args.raw))
      c.loop.self c.ask_next.new.self c.args.self.now (c.loop.invariant.1 (suc left) (omega arith)) c.in_ok-ask_next.ensures.does,
)

pub returns-in_err-ask_next : goal.returns-in_err-ask_next
returns-in_err-ask_next g c =
    let p = err_from_is_err_and c.from_residual.result c.from_residual.ensures.1 in
    let left : ℕ = c.args.times - (c.loop.counter + 1) in
    let all : suc left + c.loop.counter ≡ c.args.times = omega arith in
    rw (p.1, p.2) (record {
      does = unless_weaker c.in_err-ask_next.field-0.0 _ _
          (led_stops (AsksNext g.S.SwitchLogic.rule g.M.ManagerLogic.rule g.H.HostLogic.rule (records_of c.args.captures.now) c.args.h c.args.raw)
          (Often left (AsksNext g.S.SwitchLogic.rule g.M.ManagerLogic.rule g.H.HostLogic.rule (records_of c.args.captures.now) c.args.h c.args.raw))
          (Often c.args.times (AsksNext g.S.SwitchLogic.rule g.M.ManagerLogic.rule g.H.HostLogic.rule (records_of c.args.captures.now) c.args.h c.args.raw))
          c.loop.self c.ask_next.new.self c.args.self.now c.in_err-ask_next.field-0.0 (c.loop.invariant.1 (suc left) all))
          c.in_err-ask_next.ensures.does;
      orderly = c.in_err-ask_next.ensures.orderly;
    })

pub returns : goal.returns
returns g c = record {
  does = (c.loop.invariant.1 0 (omega arith)).on None c.loop.self (refl, refl);
  orderly = c.loop.invariant.0.orderly;
}
