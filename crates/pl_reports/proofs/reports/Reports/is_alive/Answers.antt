use Rattle.std.proofs.Common.{◌∙◌, sym, ap}
use Rattle.std.specs.List.{list_any}
use Rattle.std.specs.BTreeMap.{is_at}
use Rattle.pl_node.specs.ManagerViews.{id_cmp}
use Rattle.pl_reports.specs.declared.switch_report.SwitchReport.{SwitchReport}
use Rattle.pl_reports.proofs.Liveness.{any_alive}
use Rattle.pl_reports.proofs.reports.Reports.is_alive.Goals as goal

pub returns-in-Some : goal.returns-in-Some
returns-in-Some c =
    c.contains.ensures ∙ ap (λ (r : SwitchReport). list_any (is_at (id_cmp c.args.b)) r.alive) c.in-Some.ensures.some
    ∙ any_alive c.args.self.now c.args.a c.args.b

pub returns-in-None : goal.returns-in-None
returns-in-None c =
    sym (ap (λ (r : SwitchReport). list_any (is_at (id_cmp c.args.b)) r.alive) c.in-None.ensures.none)
    ∙ any_alive c.args.self.now c.args.a c.args.b
