use Rattle.pl_law_registration.proofs.StoodRuns.{run_apart}
use Rattle.pl_law_registration.proofs.being_registered_laws.no_two_hosts_stand_at_one_place.Goals as goal

pub returns : goal.returns
returns g c = run_apart g.H.HostLogic.rule g.met.H.HostLogic.sends g.met.H.HostLogic.owns
