use Rattle.pl_law_invariant.proofs.GrantsInRuns.{stay_granted}
use Rattle.pl_law_invariant.proofs.address_laws.what_was_granted_stays_granted_in_every_run.Goals as goal

pub returns : goal.returns
returns g c = λ plan limits moments more old new can run rest.
    stay_granted g.H.HostLogic.rule g.met.H.HostLogic.sends g.met.H.HostLogic.owns plan limits can moments more old new run rest
