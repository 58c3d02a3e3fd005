use Rattle.std.proofs.Common.{◌∙◌, ap, subst}
use Rattle.std.specs.Prelude.{fold}
use Rattle.pl_faults.specs.Listed.{with_all, with_beside}
use Rattle.pl_faults.specs.Rows.{AreRowsRenewed, leads_by, leads_down, row_at_level}
use Rattle.pl_faults.specs.declared.reach.Reach.{Reach}
use Rattle.pl_faults.proofs.Nearby.{reach_renewed}
use Rattle.pl_faults.proofs.reach.renew_reach.Goals as goal

pub returns : goal.returns
returns c told word reach =
    let after = c.args.reports.now in let edges = c.args.edges.now in let ends = c.args.ends.now in
    let low = c.in_ok-turned.turned in let cores = c.in_ok-cores.cores in let above = c.in_ok-above.above in
    let asked = c.in_ok-asked.asked in let asked_above = c.in_ok-asked_above.asked_above in
    let old = c.args.reach.now in
    let new : Reach = record { down = c.renew_down.new.rows; core = c.renew_by.new.rows; up = c.renew_by-2.new.rows } in
    reach_renewed ends told after word edges old new low cores asked above asked_above c.put_all-2.new.list reach
    (subst (λ xs. AreRowsRenewed (row_at_level after 1 (leads_down after) edges) xs old.down.entries new.down.entries low)
    c.as_slice.ensures.items c.in_ok-turned.ensures)
    (c.in_ok-asked.ensures ∙ ap (fold (with_beside after) ends) c.as_slice-2.ensures.items)
    (λ f h.
    subst (λ xs. AreRowsRenewed (row_at_level after 2 (leads_by after 1 f) edges) xs old.core.entries new.core.entries cores)
    c.as_slice-3.ensures.items (c.in_ok-cores.ensures f h))
    (c.in_ok-asked_above.ensures ∙ ap (fold (with_beside after) ends) c.as_slice-5.ensures.items)
    (λ f h.
    subst (λ xs. AreRowsRenewed (row_at_level after 1 (leads_by after 2 f) edges) xs old.up.entries new.up.entries above)
    c.as_slice-6.ensures.items (c.in_ok-above.ensures f h))
    (c.in_ok-put_all-2.ensures
    ∙ (λ i. with_all ((c.in_ok-put_all.ensures ∙ ap (with_all low) c.as_slice-4.ensures.items) i) (c.as_slice-7.ensures.items i)))
