use Rattle.std.proofs.Common.{◌∙◌}
use Rattle.pl_data_rows.proofs.MessageRows.{sent_to_all}
use Rattle.pl_data_rows.proofs.messages.send_to_all.Goals as goal

pub returns : goal.returns
returns g c =
    sent_to_all (g.S.SwitchFacts.view c.args.switch.now) c.in_ok-made.made c.bytes-2.result.now c.args.frame.now c.args.out.now c.push.new.self c.forward_to_group.new.out
    (c.in_ok-made.ensures ∙ c.bytes.ensures) c.bytes-2.ensures c.in_ok-push.ensures.ok c.in_ok-forward_to_group.ensures
