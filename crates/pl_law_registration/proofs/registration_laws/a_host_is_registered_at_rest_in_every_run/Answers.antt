use Rattle.pl_law_registration.proofs.Registered.{run_registers}
use Rattle.pl_law_registration.proofs.registration_laws.a_host_is_registered_at_rest_in_every_run.Goals as goal

pub returns : goal.returns
returns g c = run_registers g.H.HostLogic.rule g.met.H.LawfulHost.lawful g.met.H.HostLogic.sends g.met.H.HostLogic.owns
