use Rattle.std.proofs.Common.{◌≡◌, ◌<◌, ◌≤◌, ◌∙◌, ap, arith, get_or, length, map, refl}
use Rattle.std.proofs.lemmas.List.{length-map, take_all, take_more}
use Rattle.pl_frame.specs.declared.address.SwitchId.{SwitchId}
use Rattle.pl_node.specs.ManagerViews.{switches}
use Rattle.pl_reports.specs.Kept.{report_of}
use Rattle.pl_groups.specs.Serving.{served_at}
use Rattle.pl_groups.proofs.Placed.{mapped_next, report_is}
use Rattle.pl_groups.proofs.serving.served_edges.Goals as goal

pub loop-report-preserved : goal.loop-report-preserved
loop-report-preserved c =
    let told = c.args.reports.now in let ss = switches told in let i = c.loop-report.report-index in let d : SwitchId = record { 0 = 0 } in
    let items = c.of_switches-report-items.result.now in
    let same : length items ≡ length ss = ap length c.of_switches-report-items.ensures ∙ length-map ss (report_of told) in
    let within : i < length ss = omega (arith, same, c.loop-report-test.true) in
    mapped_next (served_at told c.args.needed.now) ss i (get_or ss i d) c.loop-report.served.items c.push.new.self.items c.in_ok-row.row
    (take_more ss i d within) c.loop-report.invariant c.in_ok-push.ensures.items
    (c.in_ok-row.ensures told (get_or ss i d) (c.report-item.is ∙ report_is told items ss i c.report-item.result d c.of_switches-report-items.ensures refl within))

pub returns : goal.returns
returns c =
    let told = c.args.reports.now in let ss = switches told in let i = c.loop-report.report-index in
    let same : length c.of_switches-report-items.result.now ≡ length ss = ap length c.of_switches-report-items.ensures ∙ length-map ss (report_of told) in
    let past : length ss ≤ i = omega (arith, same, c.loop-report-test.false) in
    c.loop-report.invariant ∙ ap (map (served_at told c.args.needed.now)) (take_all i ss past)
