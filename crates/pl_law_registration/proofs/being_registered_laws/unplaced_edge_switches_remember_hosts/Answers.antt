use Rattle.pl_law_registration.proofs.Registered.{run_remembers}
use Rattle.pl_law_registration.proofs.being_registered_laws.unplaced_edge_switches_remember_hosts.Goals as goal

pub returns : goal.returns
returns g c = run_remembers g.H.HostLogic.rule g.met.H.LawfulHost.lawful g.met.H.HostLogic.sends g.met.H.HostLogic.owns
