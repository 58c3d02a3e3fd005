use Rattle.std.proofs.Common.{sym}
use Rattle.pl_output.proofs.SummaryText.{summary_is}
use Rattle.pl_output.proofs.summary.summary.Goals as goal

pub returns : goal.returns
returns c =
    let tallied = c.in_ok-tally.ensures in
    rw (sym c.as_slice-entries.ensures)
    (summary_is c.args.wiring.now c.as_slice-entries.result.now c.args.steps c.args.rests.now c.args.settled _ _ _ _ _ _
    tallied.totals
    c.hosts-hosts.ensures.hosts
    c.in_ok-text.ensures
    (c.in_ok-add_cause_lines.ensures _ _ tallied)
    (c.in_ok-add_host_lines.ensures _ tallied)
    c.in_ok-add_last_lines.ensures)
