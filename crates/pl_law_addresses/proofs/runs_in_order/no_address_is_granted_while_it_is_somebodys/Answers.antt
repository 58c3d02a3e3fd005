use Rattle.pl_law_addresses.proofs.AddressesInRuns.{since_then}
use Rattle.pl_law_addresses.proofs.runs_in_order.no_address_is_granted_while_it_is_somebodys.Goals as goal

pub returns : goal.returns
returns g c = λ plan limits moments more old new x can grounded run rest given freed.
    (since_then g.H.HostLogic.rule g.met.H.HostLogic.sends g.met.H.HostLogic.owns plan limits can grounded moments more old new run rest).given x given freed
