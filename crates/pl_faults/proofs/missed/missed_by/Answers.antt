use Rattle.std.proofs.Common.{◌≡◌, ◌∙◌, ◌<◌, sym, ap, length, get_or, arith}
use Rattle.std.proofs.lemmas.List.{take_all}
use Rattle.pl_node.specs.AvoidLists.{leads_to}
use Rattle.pl_faults.specs.declared.edges.Edge.{Edge}
use Rattle.pl_faults.specs.Missed.{missed_by, with_unled}
use Rattle.pl_faults.specs.Rows.{leads_at, row_or_none, value_of}
use Rattle.pl_faults.proofs.Missing.{missed_more}
use Rattle.pl_faults.proofs.Reaching.{leads_by_rows}
use Rattle.pl_faults.proofs.missed.missed_by.Goals as goal

pub loop-i-preserved : goal.loop-i-preserved
loop-i-preserved c reach =
    let told = c.args.reports.now in let edges = c.args.edges.now in let u = c.args.switch in let known = c.args.reach.now in
    let d : Edge = record { switch = record { 0 = 0 }; pod = 0; position = 0 } in
    let i = c.loop-i.i in let e = get_or edges i d in
    let within : i < length edges = omega arith in
    let leads : c.leads_at-leads.result ≡ leads_to told e.pod e.switch u =
    c.leads_at-leads.ensures
    ∙ (λ j. leads_at (c.place_of-place.ensures j) e (value_of (row_or_none (c.down-down.ensures j)) i)
    (value_of (row_or_none (c.core-core.ensures j)) i) (value_of (row_or_none (c.up-up.ensures j)) i))
    ∙ leads_by_rows told edges known reach u i d within in
    c.in_ok-add.ensures
    ∙ (λ j. with_unled (leads j) (c.loop-i.invariant reach j) e)
    ∙ sym (missed_more told edges u i d within)

pub returns : goal.returns
returns c reach =
    c.loop-i.invariant reach ∙ ap (λ es. missed_by c.args.reports.now es c.args.switch) (take_all c.loop-i.i c.args.edges.now (omega arith))
