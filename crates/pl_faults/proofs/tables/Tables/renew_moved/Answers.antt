use Rattle.std.specs.Prelude.{fold}
use Rattle.pl_faults.specs.Listed.{with_below}
use Rattle.pl_faults.proofs.Touched.{near_kept}
use Rattle.pl_faults.proofs.Within.{first, first_told, itself_first, place_lists}
use Rattle.pl_faults.proofs.tables.Tables.renew_moved.Goals as goal

pub returns : goal.returns
returns c told word kept =
    let old = c.args.self.now in let after = old.reports in let s = c.args.switch in
    let t = c.in_ok-turned.ensures told word kept.leading in let known = c.place_leading.new.leading in
    let hearers = known.hearers.entries in let heard = t.leading.heard in
    near_kept s told old c.renew_around.new.self word.word known c.in_ok-turned.turned (first s told after word hearers heard) t
    (place_lists s told after word hearers heard) (itself_first s told after word hearers heard) (first_told s told after word hearers heard)
    (fold (with_below after hearers) c.in_ok-touched.touched c.as_slice.result.now) kept
    (λ i. fold (with_below after hearers) (c.in_ok-touched.ensures i) (c.as_slice.ensures.items i))
    (c.in_ok-renew_around.ensures t.leading)
