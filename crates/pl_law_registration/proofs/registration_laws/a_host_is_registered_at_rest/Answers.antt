use Rattle.pl_law_registration.proofs.Registered.{registered_at_rest}
use Rattle.pl_law_registration.proofs.registration_laws.a_host_is_registered_at_rest.Goals as goal

pub returns : goal.returns
returns c = λ w kept being_registered nothing h host attachment v at placed reached room. registered_at_rest w kept being_registered nothing h host attachment v at placed reached room
