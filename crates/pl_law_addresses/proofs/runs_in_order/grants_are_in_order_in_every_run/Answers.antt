use Rattle.pl_law_addresses.proofs.AddressesInRuns.{ordered, run_in_order}
use Rattle.pl_law_addresses.proofs.TurnsKeepAddresses.{no_moment}
use Rattle.pl_law_addresses.proofs.runs_in_order.grants_are_in_order_in_every_run.Goals as goal

pub returns : goal.returns
returns g c = λ plan limits moments new can grounded run.
    ordered no_moment new (run_in_order g.H.HostLogic.rule g.met.H.HostLogic.sends g.met.H.HostLogic.owns plan limits can grounded moments new run)
