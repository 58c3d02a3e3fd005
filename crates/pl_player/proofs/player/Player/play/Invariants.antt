use Rattle.std.proofs.Common.{drop}
use Rattle.pl_inputs.specs.Records.{records_of}
use Rattle.pl_script_rule.specs.Lines.{DoesLines}
use Rattle.pl_player.proofs.Played.{PlaysOn}
use Rattle.pl_player.proofs.Stops.{Keeps}
use Rattle.pl_player.proofs.player.Player.play.Given as goal

abbrev pub invariant-loop-line : goal.invariant-loop-line
invariant-loop-line g l =
    Keeps l.self
    × PlaysOn (DoesLines g.S.SwitchLogic.rule g.M.ManagerLogic.rule g.H.HostLogic.rule (records_of l.captures) (drop l.line-index l.lines)) l.self (DoesLines g.S.SwitchLogic.rule g.M.ManagerLogic.rule g.H.HostLogic.rule (records_of l.captures) l.lines) l.initial.self
