use Rattle.pl_manager.proofs.Renewals.{one_renewed}
use Rattle.pl_manager.proofs.telling.renew.Goals as goal

pub returns : goal.returns
returns c =
    one_renewed c.args.reports.now c.args.group c.args.groups.now c.renew.new.self c.args.out.now c.tell_parts.new.out c.in_ok-changed.changed
    c.in_ok-changed.ensures.changed c.in_ok-changed.ensures.parts c.in_ok-changed.ensures.others c.renew.ensures.members c.in_ok-tell_parts.ensures
