use Rattle.std.proofs.Common.{sym, ap, ◌∙◌}
use Rattle.std.specs.Option.{option_copied}
use Rattle.pl_forward.proofs.Groups.{none_up}
use Rattle.pl_forward.proofs.group_tree.group_port_up.Goals as goal

pub returns-in-None : goal.returns-in-None
returns-in-None g c =
    c.empty.ensures ∙ sym (none_up (g.F.SwitchFacts.view c.args.facts.now) c.args.group (sym c.part.ensures ∙ ap option_copied c.in-None.is))
