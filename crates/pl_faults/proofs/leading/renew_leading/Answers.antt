use Rattle.std.proofs.Common.{sym, subst}
use Rattle.pl_faults.specs.Missed.{AreMissesRenewed}
use Rattle.pl_faults.specs.Rows.{IsReach}
use Rattle.pl_faults.proofs.Missing.{misses_whole}
use Rattle.pl_faults.proofs.Touched.{stays_heard, still_all_heard}
use Rattle.pl_faults.proofs.leading.renew_leading.Goals as goal

pub returns : goal.returns
returns c s told word was =
    let after = c.args.reports.now in let edges = c.in_ok-edges.edges.items in let known = c.in_ok-reach.reach in let old = c.args.leading.now in
    let reach : IsReach after edges known = subst (λ es. IsReach after es known) c.as_slice.ensures.value c.in_ok-reach.ensures in
    let first = old.misses.entries in let fresh = c.renew_misses.new.misses.entries in let all = c.switches.result.now in
    let turned = c.in_ok-turned.turned in
    let r : AreMissesRenewed after edges all first fresh turned =
    subst (λ es. AreMissesRenewed after es all first fresh turned) c.as_slice-2.ensures.value
    (c.in_ok-turned.ensures (subst (λ es. IsReach after es known) (sym c.as_slice-2.ensures.value) reach)) in
    record {
      leading = record {
        placed = c.in_ok-edges.ensures;
        reach = reach;
        missed_are =
            misses_whole told after old.edges.items edges first fresh all c.switches.ensures was.missed_are (stays_heard s told after word.word) r.now;
        heard = still_all_heard told after word old.hearers.entries was.heard;
      };
      same = r.same;
    }
