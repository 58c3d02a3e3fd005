use Rattle.pl_manager.proofs.Renewals.{group_at_place, no_group_there}
use Rattle.pl_manager.proofs.renewing.renew_nth.Goals as goal

pub returns-in_ok-renew-in-Some : goal.returns-in_ok-renew-in-Some
returns-in_ok-renew-in-Some c =
    group_at_place c.args.reports.now c.args.groups.now c.renew.new.groups c.args.n c.in-Some.group c.args.out.now c.renew.new.out
    c.in-Some.ensures c.in_ok-renew-in-Some.ensures

pub returns-in-None : goal.returns-in-None
returns-in-None c = λ g also. no_group_there c.args.groups.now c.args.n c.in-None.ensures g also
