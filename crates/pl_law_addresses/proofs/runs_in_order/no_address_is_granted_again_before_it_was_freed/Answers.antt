use Rattle.pl_law_addresses.proofs.AddressesInRuns.{granted_at_most_once, run_in_order}
use Rattle.pl_law_addresses.proofs.runs_in_order.no_address_is_granted_again_before_it_was_freed.Goals as goal

pub returns : goal.returns
returns g c = λ plan limits moments new x can grounded run.
    granted_at_most_once new (run_in_order g.H.HostLogic.rule g.met.H.HostLogic.sends g.met.H.HostLogic.owns plan limits can grounded moments new run).once x
