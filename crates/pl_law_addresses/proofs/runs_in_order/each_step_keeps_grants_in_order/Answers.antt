use Rattle.pl_law_addresses.proofs.AddressesInRuns.{one_step}
use Rattle.pl_law_addresses.proofs.runs_in_order.each_step_keeps_grants_in_order.Goals as goal

pub returns : goal.returns
returns g c = λ old event new counted know apart step o.
    one_step g.H.HostLogic.rule g.met.H.HostLogic.sends g.met.H.HostLogic.owns g.M.ManagerLogic.rule old event new counted know apart step o
