use Rattle.std.proofs.Common.{◌≡◌, ℕ, ◌+◌}
use Rattle.pl_inputs.specs.Records.{records_of}
use Rattle.pl_script_rule.specs.Lines.{AsksNext}
use Rattle.pl_script_rule.specs.Scenes.{Often}
use Rattle.pl_player.proofs.Stops.{Keeps, Leads}
use Rattle.pl_player.proofs.player.Player.ask_often.Given as goal

abbrev pub invariant-loop : goal.invariant-loop
invariant-loop g l =
    Keeps l.self
    × ((left : ℕ) → left + l.counter ≡ l.times →
    Leads (Often left (AsksNext g.S.SwitchLogic.rule g.M.ManagerLogic.rule g.H.HostLogic.rule (records_of l.captures) l.h l.raw)) l.self
    (Often l.times (AsksNext g.S.SwitchLogic.rule g.M.ManagerLogic.rule g.H.HostLogic.rule (records_of l.captures) l.h l.raw)) l.initial.self)
