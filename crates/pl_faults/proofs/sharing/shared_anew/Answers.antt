use Rattle.std.proofs.Common.{◌∙◌}
use Rattle.pl_faults.specs.Missed.{missed_above}
use Rattle.pl_faults.proofs.sharing.shared_anew.Goals as goal

pub returns : goal.returns
returns c =
    let is = c.in_ok-list.ensures ∙ (λ i. missed_above c.args.reports.now c.args.leading.now.misses.entries (c.place_of-level.ensures i).level c.args.switch) in
    (record { list = is }, is)
