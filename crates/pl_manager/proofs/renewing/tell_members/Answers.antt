use Rattle.std.proofs.Common.{◌∷◌, [], subst}
use Rattle.pl_node.specs.ManagerViews.{Told}
use Rattle.pl_manager.specs.Telling.{AreTreesRenewed}
use Rattle.pl_manager.proofs.Changes.{members_kept, members_now, members_said}
use Rattle.pl_manager.proofs.renewing.tell_members.Goals as goal

pub returns-clause-members : goal.returns-clause-members
returns-clause-members c =
    members_now c.args.matrix.now.told c.args.matrix.now c.args.edge c.args.group c.args.any c.args.groups.now c.set.new.self c.renew.new.groups
    c.args.out.now c.renew.new.out c.requires c.in_ok-set.ensures.members c.set.ensures.parts
    (subst (λ (t : Told). AreTreesRenewed t (c.args.group ∷ []) c.set.new.self c.renew.new.groups c.args.out.now c.renew.new.out) c.reports.ensures c.in_ok-renew.ensures)

pub returns-clause-current : goal.returns-clause-current
returns-clause-current c =
    members_kept c.args.matrix.now.told c.args.matrix.now c.args.edge c.args.group c.args.any c.args.groups.now c.set.new.self c.renew.new.groups
    c.args.out.now c.renew.new.out c.requires c.in_ok-set.ensures.members c.set.ensures.parts
    (subst (λ (t : Told). AreTreesRenewed t (c.args.group ∷ []) c.set.new.self c.renew.new.groups c.args.out.now c.renew.new.out) c.reports.ensures c.in_ok-renew.ensures)

pub returns-clause-acts : goal.returns-clause-acts
returns-clause-acts c =
    members_said c.args.matrix.now.told c.args.matrix.now c.args.edge c.args.group c.args.any c.args.groups.now c.set.new.self c.renew.new.groups
    c.args.out.now c.renew.new.out c.requires c.in_ok-set.ensures.members c.set.ensures.parts
    (subst (λ (t : Told). AreTreesRenewed t (c.args.group ∷ []) c.set.new.self c.renew.new.groups c.args.out.now c.renew.new.out) c.reports.ensures c.in_ok-renew.ensures)
