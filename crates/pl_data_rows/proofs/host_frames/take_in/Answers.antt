use Rattle.pl_switch_rule.specs.SwitchRule.{by_flow}
use Rattle.pl_data_rows.proofs.HostRows.{taken_in}
use Rattle.pl_data_rows.proofs.host_frames.take_in.Goals as goal

pub returns-clause-taken : goal.returns-clause-taken
returns-clause-taken g c =
    taken_in (g.S.SwitchFacts.view c.args.switch.now) c.args.port c.args.frame c.in_ok-act.act c.ingress.new.frame (g.S.SwitchFacts.view c.ingress.new.self) c.args.out.now c.ingress.new.out c.go_on.new.out
    (c.in_ok-act.ensures.begun by_flow) c.in_ok-go_on.ensures
