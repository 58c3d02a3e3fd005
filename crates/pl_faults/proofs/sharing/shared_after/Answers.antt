use Rattle.std.proofs.Common.{subst}
use Rattle.pl_faults.specs.Sharing.{MayBeShared}
use Rattle.pl_faults.proofs.sharing.shared_after.Goals as goal

pub returns-in_ok-shared-in-Some : goal.returns-in_ok-shared-in-Some
returns-in_ok-shared-in-Some c known = c.in_ok-shared-in-Some.ensures (subst (MayBeShared c.args.reports.now c.args.leading.now) c.in-Some.is known)

pub returns-in_ok-shared-in-None : goal.returns-in_ok-shared-in-None
returns-in_ok-shared-in-None c known = c.in_ok-shared-in-None.ensures
