use Rattle.std.proofs.Common.{◌≡◌, ◌∙◌, ◌&&◌, Some, ap, sym}
use Rattle.std.specs.Option.{option_map}
use Rattle.pl_layouts.specs.Placement.{is_known}
use Rattle.pl_node.specs.ManagerViews.{edge_at, has_level, is_alive}
use Rattle.pl_node.specs.Trees.{edge_part}
use Rattle.pl_reports.specs.declared.switch_report.SwitchReport.{SwitchReport}
use Rattle.pl_groups.proofs.Branches.{linked_is, of_aggregation, of_edge}
use Rattle.pl_groups.proofs.parts.part_under.Goals as goal

pub returns-then-is_under : goal.returns-then-is_under
returns-then-is_under c =
    let told = c.args.reports.now in let root = c.args.root.now in let s = c.args.switch in
    let under : c.is_under.result ≡ (has_level told s 1 && is_alive told s root.core) =
    c.is_under.ensures ∙ (λ i. is_known (c.requires.report i).place.level 1 && linked_is told root s c.requires.root i) in
    ap Some c.in_ok-part.ensures
    ∙ of_aggregation told c.args.needed.now s root.core (sym c.eq.ensures ∙ c.if-eq.false) (sym under ∙ c.if-is_under.true)

pub returns : goal.returns
returns c =
    let told = c.args.reports.now in let root = c.args.root.now in let s = c.args.switch in
    let under : c.is_under.result ≡ (has_level told s 1 && is_alive told s root.core) =
    c.is_under.ensures ∙ (λ i. is_known (c.requires.report i).place.level 1 && linked_is told root s c.requires.root i) in
    c.edge_part.ensures
    ∙ ap (λ (report : SwitchReport). option_map (edge_part told root.core) (edge_at s report.place)) c.requires.report
    ∙ of_edge told c.args.needed.now s root.core (sym c.eq.ensures ∙ c.if-eq.false) (sym under ∙ c.if-is_under.false)
