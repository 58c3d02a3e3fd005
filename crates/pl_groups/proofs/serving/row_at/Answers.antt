use Rattle.std.proofs.Common.{◌∙◌, ap, sym}
use Rattle.pl_reports.specs.declared.switch_report.SwitchReport.{SwitchReport}
use Rattle.pl_groups.proofs.Placed.{serves_these}
use Rattle.pl_groups.proofs.serving.row_at.Goals as goal

pub returns : goal.returns
returns c told s is =
    serves_these told c.args.needed.now s c.args.report.now is c.in_ok-row.row (sym c.is_on_level.ensures ∙ c.if-not-is_on_level.false)
    (c.in_ok-row.ensures told s (c.as_slice.ensures.items ∙ ap (λ (r : SwitchReport). r.alive) is))
