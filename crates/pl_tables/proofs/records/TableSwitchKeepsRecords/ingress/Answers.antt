use Rattle.std.proofs.Common.{IfOk, subst}
use Rattle.pl_node.specs.SwitchViews.{SwitchView}
use Rattle.pl_edge.specs.Begun.{left_to_do}
use Rattle.pl_steps.specs.Taken.{IsTakenUpTo}
use Rattle.pl_switch_rule.specs.Forwarding.{Choice}
use Rattle.pl_switch_rule.specs.Intake.{takes_in}
use Rattle.pl_tables.proofs.records.TableSwitchKeepsRecords.ingress.Goals as goal

pub returns-clause-begun : goal.returns-clause-begun
returns-clause-begun c =
    subst (λ (v : SwitchView). IfOk c.ingress.result (λ act. (choose : Choice) → IsTakenUpTo (left_to_do choose act c.ingress.new.frame c.ingress.new.self) (takes_in choose c.args.port c.args.frame.now v) c.args.out.now c.ingress.new.out))
    c.self.view_is c.ingress.ensures.begun
