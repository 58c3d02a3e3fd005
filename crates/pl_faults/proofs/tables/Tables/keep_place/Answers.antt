use Rattle.std.proofs.Common.{◌∙◌, subst, sym}
use Rattle.pl_node.specs.ManagerViews.{Told}
use Rattle.pl_faults.specs.Kept.{AreTablesOf, IsPlaceWord}
use Rattle.pl_faults.proofs.Unchanged.{place_kept}
use Rattle.pl_faults.proofs.Words.{word_of_place}
use Rattle.pl_faults.proofs.tables.Tables.keep_place.Goals as goal

pub returns-clause-told : goal.returns-clause-told
returns-clause-told c =
    (c.in_ok-renew_placed.ensures c.args.self.now.reports
    (subst (IsPlaceWord c.args.switch c.args.self.now.reports) (sym c.in_ok-set_place.ensures.ok)
    (word_of_place c.args.self.now.reports c.args.switch c.args.place)) c.requires).told
    ∙ c.in_ok-set_place.ensures.ok

pub returns-clause-kept : goal.returns-clause-kept
returns-clause-kept c =
    (c.in_ok-renew_placed.ensures c.args.self.now.reports
    (subst (IsPlaceWord c.args.switch c.args.self.now.reports) (sym c.in_ok-set_place.ensures.ok)
    (word_of_place c.args.self.now.reports c.args.switch c.args.place)) c.requires).kept

pub returns-clause-handed : goal.returns-clause-handed
returns-clause-handed c s =
    (c.in_ok-renew_placed.ensures c.args.self.now.reports
    (subst (IsPlaceWord c.args.switch c.args.self.now.reports) (sym c.in_ok-set_place.ensures.ok)
    (word_of_place c.args.self.now.reports c.args.switch c.args.place)) c.requires).handed s

pub returns-then-known-clause-kept : goal.returns-then-known-clause-kept
returns-then-known-clause-kept c =
    let told = c.is_told_place-known.ensures c.if-known.true in let old = c.args.self.now in
    subst (λ (t : Told). AreTablesOf t old) (sym c.in_ok-set_place.ensures.ok)
    (place_kept old.reports c.args.switch c.args.place told.0 told.1 old.leading old.lists.entries old.before.entries c.requires)
