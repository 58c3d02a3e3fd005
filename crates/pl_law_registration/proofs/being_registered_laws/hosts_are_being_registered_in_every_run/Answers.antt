use Rattle.pl_law_registration.proofs.Registered.{run_being_registered}
use Rattle.pl_law_registration.proofs.being_registered_laws.hosts_are_being_registered_in_every_run.Goals as goal

pub returns : goal.returns
returns g c = run_being_registered g.H.HostLogic.rule g.met.H.LawfulHost.lawful g.met.H.HostLogic.sends g.met.H.HostLogic.owns
