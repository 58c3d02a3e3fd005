use Rattle.std.proofs.Common.{ℕ, IfOk, IfErr, Some, None, refl, sym, subst, arith}
use Rattle.std.proofs.lemmas.Result.{err_from_is_err_and}
use Rattle.pl_inputs.specs.Loaded.{inputs_of}
use Rattle.pl_inputs.specs.Records.{records_of}
use Rattle.pl_script_rule.specs.Lines.{DoesLines}
use Rattle.pl_script_rule.proofs.Exports.{unless_weaker}
use Rattle.pl_player.specs.Leaving.{left_on}
use Rattle.pl_playing.specs.Networks.{PlaysTo}
use Rattle.pl_playing.specs.Plays.{IsPlayedOver, IsUnplayed, played_over}
use Rattle.pl_playing.proofs.Playing.{plays_over, unplayed}
use Rattle.pl_playing.proofs.played.play_script.Goals as goal

pub begin-requires-clause-few : goal.begin-requires-clause-few
begin-requires-clause-few g c = omega arith

pub play_on-requires : goal.play_on-requires
play_on-requires g c = record { orderly = c.in_ok-fabric.ensures.orderly }

pub returns-in_err-fabric-clause-ok : goal.returns-in_err-fabric-clause-ok
returns-in_err-fabric-clause-ok g c =
    let p = err_from_is_err_and c.from_residual.result c.from_residual.ensures.1 in
    subst (λ r. IfOk r (λ played. IsPlayedOver (PlaysTo g.S.SwitchLogic.rule g.M.ManagerLogic.rule g.H.HostLogic.rule c.args.network) (inputs_of c.args.inputs) (played_over played.0 played.1.items))) (sym p.1) tt

pub returns-in_err-fabric-clause-err : goal.returns-in_err-fabric-clause-err
returns-in_err-fabric-clause-err g c =
    let p = err_from_is_err_and c.from_residual.result c.from_residual.ensures.1 in
    subst (λ r. IfErr r (λ e. IsUnplayed (PlaysTo g.S.SwitchLogic.rule g.M.ManagerLogic.rule g.H.HostLogic.rule c.args.network) (inputs_of c.args.inputs) e)) (sym p.1) (subst (λ e. IsUnplayed (PlaysTo g.S.SwitchLogic.rule g.M.ManagerLogic.rule g.H.HostLogic.rule c.args.network) (inputs_of c.args.inputs) e) (sym p.2) tt)

pub returns-in-Ok-clause-ok : goal.returns-in-Ok-clause-ok
returns-in-Ok-clause-ok g c = record {
  played = plays_over c.args.network g.S.SwitchLogic.rule g.M.ManagerLogic.rule g.H.HostLogic.rule c.args.inputs.wiring c.args.inputs.captures.items c.deref.result.now c.args.inputs.script c.lines.result.now c.in_ok-fabric.fabric c.play_on.new.self None
      c.deref.ensures.value c.lines.ensures c.in_ok-fabric.ensures.scene c.in-Ok.ensures.does;
  captures = refl;
  counted = c.in-Ok.ensures.orderly.counted;
}

pub returns-clause-err : goal.returns-clause-err
returns-clause-err g c =
    let i = inputs_of c.args.inputs in
    let line : ℕ = c.in-Err.stopped.line in
    let stop = c.in-Err.stopped.stop in
    unplayed (PlaysTo g.S.SwitchLogic.rule g.M.ManagerLogic.rule g.H.HostLogic.rule c.args.network) i line stop c.play_on.new.self c.status_of.result c.status_of.ensures
    (unless_weaker stop (DoesLines g.S.SwitchLogic.rule g.M.ManagerLogic.rule g.H.HostLogic.rule (records_of c.deref.result.now) c.lines.result.now (left_on c.args.network c.in_ok-fabric.fabric) (Some (line, stop)) c.play_on.new.self)
    (PlaysTo g.S.SwitchLogic.rule g.M.ManagerLogic.rule g.H.HostLogic.rule c.args.network i (Some (line, stop)) c.play_on.new.self)
    (λ does. plays_over c.args.network g.S.SwitchLogic.rule g.M.ManagerLogic.rule g.H.HostLogic.rule c.args.inputs.wiring c.args.inputs.captures.items c.deref.result.now c.args.inputs.script c.lines.result.now c.in_ok-fabric.fabric c.play_on.new.self (Some (line, stop))
    c.deref.ensures.value c.lines.ensures c.in_ok-fabric.ensures.scene does)
    c.in-Err.ensures.does)
