use Rattle.std.proofs.Common.{ap, arith, subst, take_all}
use Rattle.pl_node.specs.ManagerFacts.{groups}
use Rattle.pl_manager_rule.proofs.Exports.{groups_rise}
use Rattle.pl_groups.specs.Kept.{members_in}
use Rattle.pl_manager.specs.Telling.{AreTreesRenewed, listed_groups}
use Rattle.pl_manager.proofs.Renewals.{group_listed, none_renewed}
use Rattle.pl_manager.proofs.renewing.renew_all.Goals as goal

pub loop-n-init : goal.loop-n-init
loop-n-init c = none_renewed c.args.reports.now c.args.groups.now c.args.out.now

pub loop-n-preserved : goal.loop-n-preserved
loop-n-preserved c =
    group_listed c.args.reports.now (listed_groups c.args.groups.now) c.loop-n.n c.args.groups.now c.loop-n.groups c.renew_nth.new.groups
    c.args.out.now c.loop-n.out c.renew_nth.new.out (groups_rise (members_in c.args.groups.now)) (omega (arith, c.len-n-end.ensures, c.loop-n-test.true))
    (ap groups c.loop-n.invariant.members) c.in_ok-renew_nth.ensures c.loop-n.invariant

pub returns : goal.returns
returns c =
    subst (λ some. AreTreesRenewed c.args.reports.now some c.args.groups.now c.loop-n.groups c.args.out.now c.loop-n.out)
    (take_all c.loop-n.n (listed_groups c.args.groups.now) (omega (arith, c.len-n-end.ensures, c.loop-n-test.false)))
    c.loop-n.invariant
