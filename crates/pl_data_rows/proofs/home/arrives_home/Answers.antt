use Rattle.pl_switch_rule.specs.SwitchRule.{by_flow}
use Rattle.pl_data_rows.proofs.HomeRows.{reply_long, told_behind}
use Rattle.pl_data_rows.proofs.home.arrives_home.Goals as goal

pub make_any-requires-clause-long : goal.make_any-requires-clause-long
make_any-requires-clause-long g c = reply_long c.in_ok-reply.reply c.in_ok-reply.ensures.length

pub returns : goal.returns
returns g c =
    told_behind c.args.frame c.bytes.result.now c.in_ok-reply.reply c.edge.result.now (g.S.SwitchFacts.view c.args.switch.now) c.args.out.now c.come_home.new.out c.make_any.new.out
    c.bytes.ensures c.edge.ensures.part (c.in_ok-reply.ensures.tells by_flow (g.S.SwitchFacts.view c.args.switch.now) (c.edge.ensures.may c.requires.edge))
    c.in_ok-come_home.ensures c.in_ok-make_any.ensures
