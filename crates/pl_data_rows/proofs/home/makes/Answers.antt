use Rattle.std.proofs.Common.{length}
use Rattle.pl_switch_rule.specs.Delivering.{makes}
use Rattle.pl_switch_rule.specs.SwitchRule.{by_flow}
use Rattle.pl_data_rows.proofs.HomeRows.{sent_on, still_long}
use Rattle.pl_data_rows.proofs.home.makes.Goals as goal

pub send_on-requires : goal.send_on-requires
send_on-requires g c = still_long (length c.args.frame) c.in_ok-sent.sent c.in_ok-sent.ensures.length c.requires.long

pub returns : goal.returns
returns g c =
    sent_on (makes by_flow c.args.frame) c.edge.result.now (g.S.SwitchFacts.view c.args.switch.now) c.in_ok-sent.sent c.args.out.now c.begin.new.out c.send_on.new.out
    c.edge.ensures.part (c.in_ok-sent.ensures.taken by_flow (g.S.SwitchFacts.view c.args.switch.now) (c.edge.ensures.may c.requires.edge)) c.in_ok-send_on.ensures
