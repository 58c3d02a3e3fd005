use Rattle.std.proofs.Common.{take, sym, subst, []}
use Rattle.std.proofs.lemmas.List.{take_all}
use Rattle.pl_frame.specs.declared.address.SwitchId.{SwitchId}
use Rattle.pl_faults.specs.Rows.{AreRowsRenewed, leads_by, row_at_level}
use Rattle.pl_faults.proofs.Reaching.{none_rows, rows_done, rows_more}
use Rattle.pl_faults.proofs.reach.renew_by.Goals as goal

pub loop-switch-init : goal.loop-switch-init
loop-switch-init c f h =
    let told = c.args.reports.now in let rows = c.args.rows.now.entries in
    let fresh = row_at_level told c.args.own (leads_by told c.args.level f) c.args.edges.now in
    subst (AreRowsRenewed fresh [] rows rows) (sym c.new-changed.ensures) (none_rows fresh rows)

pub loop-switch-preserved : goal.loop-switch-preserved
loop-switch-preserved c f h =
    let told = c.args.reports.now in let d : SwitchId = record { 0 = 0 } in
    rows_more (row_at_level told c.args.own (leads_by told c.args.level f) c.args.edges.now) c.args.asked.now c.loop-switch.switch-index d
    c.loop-switch-test.true c.args.rows.now.entries c.loop-switch.rows.entries c.put_row.new.rows.entries c.loop-switch.changed c.put_row.new.changed
    c.in_ok-row.row (c.loop-switch.invariant f h) (c.in_ok-row.ensures f h) c.in_ok-put_row.ensures.now c.in_ok-put_row.ensures.stays c.in_ok-put_row.ensures.same

pub returns : goal.returns
returns c f h =
    let told = c.args.reports.now in let ss = c.args.asked.now in let i = c.loop-switch.switch-index in
    rows_done (row_at_level told c.args.own (leads_by told c.args.level f) c.args.edges.now) (take i ss) ss c.args.rows.now.entries
    c.loop-switch.rows.entries c.loop-switch.changed (take_all i ss c.loop-switch-test.false) (c.loop-switch.invariant f h)
