use Rattle.std.proofs.Common.{OnOk, subst}
use Rattle.pl_node.specs.Gains.{Gains}
use Rattle.pl_node.specs.SwitchInputs.{Tick}
use Rattle.pl_switch_rule.specs.SwitchRule.{Exact}
use Rattle.pl_tables.proofs.Ticked.{ticked}
use Rattle.pl_tables.proofs.switch_logic.TableSwitchSwitchLogic.tick.Goals as goal

pub returns-clause-step : goal.returns-clause-step
returns-clause-step c =
    subst (λ v. OnOk c.keep_up.result (Gains c.args.out.now c.tick-done.new.out (Exact v Tick c.keep_up.new.state))) c.self.view_is
    (ticked c.tick-done.result c.keep_up.result c.self.inside.state c.tick-done.new.self c.keep_up.new.state c.args.out.now c.tick-done.new.out
    c.tick-done.ensures.taken c.keep_up.ensures.done c.keep_up.ensures.same)
