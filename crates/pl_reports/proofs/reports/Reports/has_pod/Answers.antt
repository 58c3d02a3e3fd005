use Rattle.std.proofs.Common.{◌∙◌, ap}
use Rattle.pl_node.specs.ManagerViews.{Told, is_told_pod}
use Rattle.pl_reports.proofs.Podding.{any_place}
use Rattle.pl_reports.proofs.reports.Reports.has_pod.Goals as goal

pub returns : goal.returns
returns c =
    c.has_pod.ensures ∙ any_place c.self.inside.places.entries c.args.pod ∙ ap (λ (t : Told). is_told_pod t c.args.pod) c.self.view_is
