use Rattle.pl_law_addresses.proofs.AddressesInRuns.{since_then}
use Rattle.pl_law_addresses.proofs.runs_in_order.what_was_granted_stays_granted.Goals as goal

pub returns : goal.returns
returns g c = λ plan limits moments more old new can grounded run rest.
    (since_then g.H.HostLogic.rule g.met.H.HostLogic.sends g.met.H.HostLogic.owns plan limits can grounded moments more old new run rest).since
