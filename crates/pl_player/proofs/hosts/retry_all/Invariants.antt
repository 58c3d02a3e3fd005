use Rattle.std.proofs.Common.{◌≡◌, ℕ, ◌+◌, map}
use Rattle.std.specs.List.{range_with_len}
use Rattle.pl_world.specs.declared.event.Event.TheVariants as event
use Rattle.pl_world.specs.Changes.{host_no}
use Rattle.pl_script.specs.declared.command.Who.TheVariants as who
use Rattle.pl_fabric.specs.Executions.{MakesAll}
use Rattle.pl_fabric.proofs.Exports.{Keeps, Leads}
use Rattle.pl_script_rule.specs.Lines.{hosts_meant}
use Rattle.pl_player.proofs.hosts.retry_all.Given as goal

abbrev pub invariant-loop-h : goal.invariant-loop-h
invariant-loop-h g l =
    Keeps l.initial.world l.world
    × ((left : ℕ) → left + l.h ≡ l.many →
    Leads (MakesAll g.S.SwitchLogic.rule g.M.ManagerLogic.rule g.H.HostLogic.rule (map event.Retry (map host_no (range_with_len l.h left)))) l.world
    (MakesAll g.S.SwitchLogic.rule g.M.ManagerLogic.rule g.H.HostLogic.rule (map event.Retry (hosts_meant l.initial.world.plan who.All))) l.initial.world)
