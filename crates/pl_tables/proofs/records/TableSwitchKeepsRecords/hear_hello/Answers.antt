use Rattle.std.proofs.Common.{OnOk, subst}
use Rattle.pl_node.specs.SwitchViews.{SwitchView}
use Rattle.pl_steps.specs.Taken.{IsTaken}
use Rattle.pl_switch_rule.specs.Reporting.{hears_hello}
use Rattle.pl_tables.proofs.records.TableSwitchKeepsRecords.hear_hello.Goals as goal

pub returns-clause-taken : goal.returns-clause-taken
returns-clause-taken c =
    subst (λ (v : SwitchView). OnOk c.greet.result (IsTaken (hears_hello v c.args.epoch) c.greet.new.state c.args.out.now c.greet.new.out)) c.self.view_is
    c.greet.ensures.taken
