use Rattle.std.proofs.lemmas.List.{drop_all, drop_more}
use Rattle.std.proofs.Common.{◌+◌, [], drop, arith}
use Rattle.pl_inputs.specs.Records.{records_of}
use Rattle.pl_script_rule.specs.Lines.{DoesLines}
use Rattle.pl_script_rule.proofs.Exports.{unless_weaker}
use Rattle.pl_player.proofs.Played.{from_here, line_at, played_all, played_on, played_up_to}
use Rattle.pl_player.proofs.player.Player.play.Goals as goal

pub play_line-requires : goal.play_line-requires
play_line-requires g c = record { orderly = c.loop-line.invariant.0.orderly }

pub loop-line-init : goal.loop-line-init
loop-line-init g c = (
  record { orderly = c.requires.orderly },
  from_here (DoesLines g.S.SwitchLogic.rule g.M.ManagerLogic.rule g.H.HostLogic.rule (records_of c.args.captures.now) c.args.lines.now) c.args.self.now,
)

pub loop-line-preserved : goal.loop-line-preserved
loop-line-preserved g c = (
  record { orderly = c.in_default.ensures.orderly },
  played_on g.S.SwitchLogic.rule g.M.ManagerLogic.rule g.H.HostLogic.rule (records_of c.args.captures.now) (line_at c.args.lines.now c.loop-line.line-index)
      (drop (c.loop-line.line-index + 1) c.args.lines.now) (drop c.loop-line.line-index c.args.lines.now)
      (drop_more c.args.lines.now c.loop-line.line-index (line_at [] 0) c.loop-line-test.true)
      (DoesLines g.S.SwitchLogic.rule g.M.ManagerLogic.rule g.H.HostLogic.rule (records_of c.args.captures.now) c.args.lines.now) c.loop-line.self c.play_line.new.self c.args.self.now c.loop-line.invariant.1
      c.in_default.ensures.does,
)

pub returns-in-Err : goal.returns-in-Err
returns-in-Err g c = record {
  does = unless_weaker c.in-Err.stop _ _
      (played_up_to g.S.SwitchLogic.rule g.M.ManagerLogic.rule g.H.HostLogic.rule (records_of c.args.captures.now) (line_at c.args.lines.now c.loop-line.line-index)
      (drop (c.loop-line.line-index + 1) c.args.lines.now) (drop c.loop-line.line-index c.args.lines.now)
      (drop_more c.args.lines.now c.loop-line.line-index (line_at [] 0) c.loop-line-test.true)
      (DoesLines g.S.SwitchLogic.rule g.M.ManagerLogic.rule g.H.HostLogic.rule (records_of c.args.captures.now) c.args.lines.now) c.loop-line.self c.play_line.new.self c.args.self.now c.loop-line.invariant.1
      c.in-Err.stop) c.in-Err.ensures.does;
  orderly = c.in-Err.ensures.orderly;
}

pub returns : goal.returns
returns g c = record {
  does = played_all g.S.SwitchLogic.rule g.M.ManagerLogic.rule g.H.HostLogic.rule (records_of c.args.captures.now) (drop c.loop-line.line-index c.args.lines.now)
      (DoesLines g.S.SwitchLogic.rule g.M.ManagerLogic.rule g.H.HostLogic.rule (records_of c.args.captures.now) c.args.lines.now) c.loop-line.self c.args.self.now
      (drop_all c.loop-line.line-index c.args.lines.now (omega arith)) c.loop-line.invariant.1;
  orderly = c.loop-line.invariant.0.orderly;
}
