use Rattle.pl_faults.specs.Rows.{AreLevelRows, RowOfSwitch, leads_by, leads_down}
use Rattle.pl_faults.proofs.Reaching.{rows_whole}
use Rattle.pl_faults.proofs.reach.reach_of.Goals as goal

pub returns : goal.returns
returns c =
    let told = c.args.reports.now in let edges = c.args.edges.now in let all = c.switches-all.result.now in
    let down_leads : RowOfSwitch = leads_down told in
    let core_leads : RowOfSwitch = leads_by told 1 down_leads in
    let down : AreLevelRows told 1 edges down_leads c.renew_down.new.rows.entries =
    rows_whole told 1 edges down_leads all c.new-down.result.entries c.renew_down.new.rows.entries _ c.switches-all.ensures c.new-down.ensures.empty
    c.in_ok-renew_down.ensures in
    let core : AreLevelRows told 2 edges core_leads c.renew_by.new.rows.entries =
    rows_whole told 2 edges core_leads all c.new-core.result.entries c.renew_by.new.rows.entries _ c.switches-all.ensures c.new-core.ensures.empty
    (c.in_ok-renew_by.ensures down_leads down) in
    record {
      by_link = down;
      by_core = core;
      by_two =
          rows_whole told 1 edges (leads_by told 2 core_leads) all c.new-up.result.entries c.renew_by-2.new.rows.entries _ c.switches-all.ensures
          c.new-up.ensures.empty (c.in_ok-renew_by-2.ensures core_leads core);
    }
