use Rattle.std.proofs.Common.{arith}
use Rattle.pl_inputs.specs.Loaded.{inputs_of}
use Rattle.pl_inputs.specs.Records.{records_of}
use Rattle.pl_inputs.specs.declared.words.Network.TheVariants.{Fabric}
use Rattle.pl_script_rule.specs.Lines.{DoesLines}
use Rattle.pl_player.specs.Leaving.{left_on}
use Rattle.pl_playing.specs.Networks.{PlaysTo}
use Rattle.pl_playing.proofs.Playing.{plays_over}
use Rattle.pl_playing.proofs.Watching.{ended_before}
use Rattle.pl_playing.proofs.watched.play_before.Goals as goal

pub begin-requires-clause-few : goal.begin-requires-clause-few
begin-requires-clause-few g c = omega arith

pub play_on-played-requires : goal.play_on-played-requires
play_on-played-requires g c = record { orderly = c.in_ok-fabric.ensures.orderly }

pub returns-clause-played : goal.returns-clause-played
returns-clause-played g c =
    ended_before (PlaysTo g.S.SwitchLogic.rule g.M.ManagerLogic.rule g.H.HostLogic.rule Fabric) (inputs_of c.args.inputs) c.play_on-played.new.self
    c.into_parts-world.result.0 c.into_parts-world.ensures.world c.play_on-played.result c.status_after-status.result
    c.status_after-status.ensures.done c.status_after-status.ensures.stopped
    (λ end. DoesLines g.S.SwitchLogic.rule g.M.ManagerLogic.rule g.H.HostLogic.rule (records_of c.deref.result.now) c.lines.result.now (left_on Fabric c.in_ok-fabric.fabric) end c.play_on-played.new.self)
    (λ end does. plays_over Fabric g.S.SwitchLogic.rule g.M.ManagerLogic.rule g.H.HostLogic.rule c.args.inputs.wiring c.args.inputs.captures.items c.deref.result.now
    c.args.inputs.script c.lines.result.now c.in_ok-fabric.fabric c.play_on-played.new.self end
    c.deref.ensures.value c.lines.ensures c.in_ok-fabric.ensures.scene does)
    c.play_on-played.ensures.does
