use Rattle.pl_law_addresses.proofs.Exports.{granted_once}
use Rattle.pl_law_invariant.proofs.KeepingControl.{runs_are_grounded}
use Rattle.pl_law_invariant.proofs.address_laws.no_two_edge_switches_grant_one_address_in_any_run.Goals as goal

pub returns : goal.returns
returns g c = λ plan limits moments new s t v u x can run found also live other.
    granted_once new.switches
    (runs_are_grounded g.H.HostLogic.rule g.met.H.HostLogic.sends g.met.H.HostLogic.owns plan limits can moments new run).apart s t v u x found also live other
