use Rattle.std.proofs.Common.{◌≤◌, ◌∙◌, ap, length, sym, subst}
use Rattle.pl_node.specs.ManagerViews.{Told, switches}
use Rattle.pl_reports.proofs.Podding.{few_places}
use Rattle.pl_reports.proofs.reports.Reports.places_told.Goals as goal

pub returns-clause-many : goal.returns-clause-many
returns-clause-many c = c.len.ensures.len ∙ ap (λ (t : Told). length t.places) c.self.view_is

pub returns-clause-few : goal.returns-clause-few
returns-clause-few c =
    let told : Told = record { places = c.self.inside.places.entries; links = c.self.inside.links.entries } in
    subst (λ (t : Told). c.len.result ≤ length (switches t)) c.self.view_is
    (subst (λ n. n ≤ length (switches told)) (sym c.len.ensures.len) (few_places told c.len.ensures.ordered))
