use Rattle.std.proofs.Common.{◌∙◌, ap}
use Rattle.std.specs.List.{list_any}
use Rattle.std.specs.Ordering.{is_eq}
use Rattle.pl_switch_rule.specs.Intake.{member_cmp}
use Rattle.pl_bridge_rule.specs.BridgeRule.{stands_at}
use Rattle.pl_bridge.proofs.Entries.{found_at}
use Rattle.pl_bridge.proofs.bridge_table.BridgeTable.is_at.Goals as goal

pub returns : goal.returns
returns c =
    c.contains.ensures
    ∙ ap (λ x. list_any (λ m. is_eq (member_cmp x m)) c.self.inside.learnt.keys) c.entry.ensures.entry
    ∙ found_at c.args.port c.args.mac c.self.inside.learnt.keys c.entry.ensures.mac c.self.invariant.at_ports
    ∙ ap (λ xs. stands_at xs c.args.mac c.args.port) c.self.view_is
