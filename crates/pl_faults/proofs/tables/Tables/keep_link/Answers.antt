use Rattle.std.proofs.Common.{◌∙◌, ap, subst, sym}
use Rattle.pl_lemmas.proofs.Exports.{still_is}
use Rattle.pl_node.specs.ManagerViews.{Told, is_alive, neighbours}
use Rattle.pl_manager_rule.proofs.Exports.{known_among}
use Rattle.pl_faults.specs.Kept.{AreTablesOf, IsLinkWord}
use Rattle.pl_faults.proofs.Unchanged.{known_kept}
use Rattle.pl_faults.proofs.Words.{word_of_link}
use Rattle.pl_faults.proofs.tables.Tables.keep_link.Goals as goal

pub returns-clause-told : goal.returns-clause-told
returns-clause-told c =
    (c.in_ok-renew_near.ensures c.args.self.now.reports
    (subst (IsLinkWord c.args.switch c.args.neighbour c.args.self.now.reports) (sym c.in_ok-report.ensures.ok)
    (word_of_link c.args.self.now.reports c.args.switch c.args.neighbour c.args.usable)) c.requires).told
    ∙ c.in_ok-report.ensures.ok

pub returns-clause-kept : goal.returns-clause-kept
returns-clause-kept c =
    (c.in_ok-renew_near.ensures c.args.self.now.reports
    (subst (IsLinkWord c.args.switch c.args.neighbour c.args.self.now.reports) (sym c.in_ok-report.ensures.ok)
    (word_of_link c.args.self.now.reports c.args.switch c.args.neighbour c.args.usable)) c.requires).kept

pub returns-clause-handed : goal.returns-clause-handed
returns-clause-handed c s =
    (c.in_ok-renew_near.ensures c.args.self.now.reports
    (subst (IsLinkWord c.args.switch c.args.neighbour c.args.self.now.reports) (sym c.in_ok-report.ensures.ok)
    (word_of_link c.args.self.now.reports c.args.switch c.args.neighbour c.args.usable)) c.requires).handed s

pub returns-then-is_still-clause-kept : goal.returns-then-is_still-clause-kept
returns-then-is_still-clause-kept c =
    let old = c.args.self.now in let told = old.reports in let s = c.args.switch in let u = c.args.neighbour in
    subst (λ (t : Told). AreTablesOf t old) (sym c.in_ok-report.ensures.ok)
    (known_kept told s u c.args.usable (known_among u (neighbours told s) (sym c.knows-known.ensures ∙ c.if-known.true))
    (ap (λ (t : Told). is_alive t s u) (sym c.in_ok-report.ensures.ok) ∙ sym c.is_alive-now.ensures
    ∙ still_is c.is_alive-now.result c.is_alive-was.result (sym c.is_still.ensures ∙ c.if-is_still.true) ∙ c.is_alive-was.ensures)
    old.leading old.lists.entries old.before.entries c.requires)
