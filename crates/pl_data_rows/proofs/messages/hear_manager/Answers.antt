use Rattle.std.proofs.Common.{OnOk, subst, sym}
use Rattle.pl_node.specs.declared.messages.ToSwitch.{ToSwitch}
use Rattle.pl_steps.specs.Taken.{IsTaken}
use Rattle.pl_switch_rule.specs.Messages.{hears_manager}
use Rattle.pl_switch_rule.specs.SwitchRule.{by_flow}
use Rattle.pl_data_rows.proofs.messages.hear_manager.Goals as goal

pub returns-in-Flood-clause-taken : goal.returns-in-Flood-clause-taken
returns-in-Flood-clause-taken g c =
    subst (λ (says : ToSwitch). OnOk c.flood.result (IsTaken (hears_manager by_flow (g.S.SwitchFacts.view c.args.switch.now) says) (g.S.SwitchFacts.view c.args.switch.now) c.args.out.now c.flood.new.out))
    (sym c.in-Flood.is) c.flood.ensures
