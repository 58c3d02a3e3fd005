use Rattle.std.proofs.Common.{sym, ap, ◌∙◌}
use Rattle.std.specs.List.{filter}
use Rattle.pl_forward.proofs.Groups.{behind_source}
use Rattle.pl_forward.proofs.group_hosts.host_ports.Goals as goal

pub returns-then-is_local : goal.returns-then-is_local
returns-then-is_local g c =
    c.without_port.ensures ∙ ap (filter _) c.reached_ports-reached.ensures
    ∙ behind_source (g.F.SwitchFacts.view c.args.facts.now) c.args.group c.args.source (sym c.is_local.ensures ∙ c.if-is_local.true)
