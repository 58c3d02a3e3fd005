use Rattle.std.proofs.Common.{◌∙◌, ◌<◌, ◌&&◌, ap, arith, get_or, length}
use Rattle.pl_layouts.specs.Placement.{is_known}
use Rattle.pl_node.specs.ManagerViews.{is_alive}
use Rattle.pl_faults.specs.declared.edges.Edge.{Edge}
use Rattle.pl_faults.specs.Rows.{leads_down}
use Rattle.pl_faults.proofs.Filled.{filled_all, filled_more}
use Rattle.pl_faults.proofs.row.linked_down.Goals as goal

pub loop-i-preserved : goal.loop-i-preserved
loop-i-preserved c =
    let told = c.args.reports.now in let edges = c.args.edges.now in let s = c.args.switch in
    let d : Edge = record { switch = record { 0 = 0 }; pod = 0; position = 0 } in
    let i = c.loop-i.i in let e = get_or edges i d in
    let within : i < length edges = omega arith in
    c.set_if.ensures
    ∙ filled_more (λ x. leads_down told x s) edges c.loop-i.row i d c.is_linked_down-leads.result within
    (c.is_linked_down-leads.ensures ∙ ap (λ p. is_known p.pod e.pod && is_alive told s e.switch) c.place_of-place.ensures)
    c.loop-i.invariant

pub returns : goal.returns
returns c =
    c.loop-i.invariant ∙ filled_all (λ x. leads_down c.args.reports.now x c.args.switch) c.args.edges.now c.loop-i.i (omega arith)
