use Rattle.std.proofs.Common.{◌≡◌, ◌∙◌, ◌++◌, ap, subst, sym}
use Rattle.pl_lemmas.proofs.Exports.{still_is}
use Rattle.pl_frame.specs.declared.address.SwitchId.{SwitchId}
use Rattle.pl_node.specs.AvoidLists.{avoid_list}
use Rattle.pl_faults.specs.Kept.{handed}
use Rattle.pl_node.specs.ManagerViews.{Told, is_alive}
use Rattle.pl_manager_rule.specs.ManagerRule.{avoid_acts, with_link}
use Rattle.pl_manager.specs.Routing.{AreOf, routed, trees_told_anew}
use Rattle.pl_manager.specs.Telling.{AreTreesRenewed, listed_groups}
use Rattle.pl_manager.proofs.Changes.{changes_kept, changes_said, trees_silent, trees_still}
use Rattle.pl_manager.proofs.SameTrees.{tree_stays}
use Rattle.pl_groups.specs.Kept.{members_in}
use Rattle.pl_manager.proofs.renewing.tell_link.Goals as goal

pub returns-clause-told : goal.returns-clause-told
returns-clause-told c = c.in_ok-tell_new_lists.ensures.told ∙ c.in_ok-report.ensures.told

pub returns-clause-members : goal.returns-clause-members
returns-clause-members c = c.in_ok-renew_all.ensures.members

pub returns-clause-current : goal.returns-clause-current
returns-clause-current c =
    let told = c.args.matrix.now.told in let lists = c.in_ok-tell_new_lists.ensures in
    let was : AreOf told c.report.new.self c.args.groups.now =
    record { lists = λ s. c.in_ok-report.ensures.handed s ∙ c.requires.lists s; parts = c.requires.parts } in
    changes_kept told c.report.new.self c.tell_new_lists.new.matrix c.args.groups.now c.renew_all.new.groups
    c.args.out.now c.tell_new_lists.new.out c.renew_all.new.out was lists.told lists.handed (lists.acts told was.lists)
    (subst (λ (t : Told). AreTreesRenewed t (listed_groups c.args.groups.now) c.args.groups.now c.renew_all.new.groups c.tell_new_lists.new.out c.renew_all.new.out)
    c.reports-3.ensures c.in_ok-renew_all.ensures)

pub returns-clause-acts : goal.returns-clause-acts
returns-clause-acts c =
    let told = c.args.matrix.now.told in let before = c.args.groups.now in let lists = c.in_ok-tell_new_lists.ensures in
    let was : AreOf told c.report.new.self before =
    record { lists = λ s. c.in_ok-report.ensures.handed s ∙ c.requires.lists s; parts = c.requires.parts } in
    changes_said told c.report.new.self c.tell_new_lists.new.matrix before c.renew_all.new.groups
    c.args.out.now c.tell_new_lists.new.out c.renew_all.new.out was lists.told lists.handed (lists.acts told was.lists)
    (subst (λ (t : Told). AreTreesRenewed t (listed_groups before) before c.renew_all.new.groups c.tell_new_lists.new.out c.renew_all.new.out)
    c.reports-3.ensures c.in_ok-renew_all.ensures)
    ∙ (λ i. c.args.out.now ++ (avoid_acts told (sym lists.told i)
    ++ trees_told_anew (routed told before) (record { told = sym lists.told i; members = sym c.in_ok-renew_all.ensures.members i })))

-- where the link is as alive as it was
pub returns-then-is_still-clause-told : goal.returns-then-is_still-clause-told
returns-then-is_still-clause-told c = c.in_ok-tell_new_lists.ensures.told ∙ c.in_ok-report.ensures.told

pub returns-then-is_still-clause-current : goal.returns-then-is_still-clause-current
returns-then-is_still-clause-current c =
    let told = c.args.matrix.now.told in let s = c.args.switch in let u = c.args.neighbour in let linked = c.in_ok-report.ensures.told in
    let as_alive : is_alive (with_link told s u c.args.usable) s u ≡ is_alive told s u =
    ap (λ (t : Told). is_alive t s u) (sym (c.reports-2.ensures ∙ linked)) ∙ sym c.is_alive-now.ensures
    ∙ still_is c.is_alive-now.result c.is_alive-was.result (sym c.is_still.ensures ∙ c.if-is_still.true)
    ∙ c.is_alive-was.ensures ∙ ap (λ (t : Told). is_alive t s u) c.reports.ensures in
    trees_still told (with_link told s u c.args.usable) c.args.groups.now
    (λ g t. tree_stays told s u c.args.usable as_alive (members_in c.args.groups.now) g t)
    c.tell_new_lists.new.matrix (c.in_ok-tell_new_lists.ensures.told ∙ linked)
    (subst (λ (t : Told). (x : SwitchId) → handed c.tell_new_lists.new.matrix x ≡ avoid_list t x) linked c.in_ok-tell_new_lists.ensures.handed)
    c.requires.parts

pub returns-then-is_still-clause-acts : goal.returns-then-is_still-clause-acts
returns-then-is_still-clause-acts c =
    let told = c.args.matrix.now.told in let s = c.args.switch in let u = c.args.neighbour in let linked = c.in_ok-report.ensures.told in
    let after = c.in_ok-tell_new_lists.ensures.told ∙ linked in
    let as_alive : is_alive (with_link told s u c.args.usable) s u ≡ is_alive told s u =
    ap (λ (t : Told). is_alive t s u) (sym (c.reports-2.ensures ∙ linked)) ∙ sym c.is_alive-now.ensures
    ∙ still_is c.is_alive-now.result c.is_alive-was.result (sym c.is_still.ensures ∙ c.if-is_still.true)
    ∙ c.is_alive-was.ensures ∙ ap (λ (t : Told). is_alive t s u) c.reports.ensures in
    trees_silent told (with_link told s u c.args.usable) c.args.groups.now
    (λ g t. tree_stays told s u c.args.usable as_alive (members_in c.args.groups.now) g t)
    c.args.out.now c.tell_new_lists.new.out
    (c.in_ok-tell_new_lists.ensures.acts told (λ x. c.in_ok-report.ensures.handed x ∙ c.requires.lists x)
    ∙ ap (λ (t : Told). c.args.out.now ++ avoid_acts told t) linked)
    ∙ ap (λ (t : Told). c.args.out.now ++ (avoid_acts told t ++ trees_told_anew (routed told c.args.groups.now) (routed t c.args.groups.now))) (sym after)
