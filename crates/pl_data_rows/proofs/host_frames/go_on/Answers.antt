use Rattle.std.proofs.Common.{ℕ, List, Some, OnOk, subst, sym}
use Rattle.pl_edge.specs.Begun.{left_to_do}
use Rattle.pl_edge.specs.declared.edge_act.EdgeAct.{EdgeAct}
use Rattle.pl_steps.specs.Taken.{IsTaken}
use Rattle.pl_switch_rule.specs.declared.came.Came.TheVariants.{FromHost}
use Rattle.pl_switch_rule.specs.GroupForwarding.{forwards_group}
use Rattle.pl_switch_rule.specs.SwitchRule.{by_flow}
use Rattle.pl_data_rows.proofs.host_frames.go_on.Goals as goal

pub returns-in-Group : goal.returns-in-Group
returns-in-Group g c =
    subst (λ (act : EdgeAct). OnOk c.forward_to_group.result (IsTaken (left_to_do by_flow act c.args.frame (g.S.SwitchFacts.view c.args.switch.now)) (g.S.SwitchFacts.view c.args.switch.now) c.args.out.now c.forward_to_group.new.out))
    (sym c.in-Group.is)
    (subst (λ (f : List ℕ). OnOk c.forward_to_group.result (IsTaken (forwards_group (g.S.SwitchFacts.view c.args.switch.now) (Some FromHost) f) (g.S.SwitchFacts.view c.args.switch.now) c.args.out.now c.forward_to_group.new.out))
    c.bytes.ensures c.forward_to_group.ensures)
