use Rattle.std.proofs.Common.{◌∙◌, ap, subst}
use Rattle.std.specs.BTreeMap.{insert_entry}
use Rattle.pl_node.specs.ManagerViews.{link_cmp}
use Rattle.pl_reports.specs.Kept.{RenewedAt, RenewedBeside}
use Rattle.pl_reports.proofs.Entered.{reports_linked}
use Rattle.pl_reports.proofs.reports.keep_link.Goals as goal

pub returns-clause-all : goal.returns-clause-all
returns-clause-all c told links are kept =
    let now = c.in_ok-insert.ensures.entries ∙ ap (λ ls. insert_entry link_cmp ls (c.args.switch, c.args.neighbour) c.args.usable) links in
    reports_linked told c.args.switch c.args.neighbour c.args.usable c.args.speakers.now.items c.enter.new.speakers.items c.args.all.now.items
    c.enter.new.all.items c.add_neighbour.new.all.items c.renew_alive.new.all.items c.renew_beside.new.all.items c.in_ok-at.at are kept
    c.in_ok-at.ensures.at c.in_ok-at.ensures.all c.in_ok-at.ensures.there c.in_ok-add_neighbour.ensures.added
    (subst (λ ls. RenewedAt ls c.add_neighbour.new.all.items c.in_ok-at.at c.args.switch c.renew_alive.new.all.items) now c.in_ok-renew_alive.ensures.renewed)
    (subst (λ ls. RenewedBeside ls c.enter.new.speakers.items c.renew_alive.new.all.items c.args.neighbour c.renew_beside.new.all.items) now
    (subst (λ xs. RenewedBeside c.insert.new.self.entries xs c.renew_alive.new.all.items c.args.neighbour c.renew_beside.new.all.items)
    c.as_slice.ensures.value c.in_ok-renew_beside.ensures))
