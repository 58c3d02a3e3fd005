use Rattle.pl_law_registration.proofs.StoodRuns.{run_stood}
use Rattle.pl_law_registration.proofs.stood_laws.addresses_are_granted_where_hosts_stood.Goals as goal

pub returns : goal.returns
returns g c = run_stood g.H.HostLogic.rule g.met.H.HostLogic.sends g.met.H.HostLogic.owns
