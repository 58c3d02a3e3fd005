use Rattle.pl_law_arrival.proofs.GoingOn.{from_core}
use Rattle.pl_law_arrival.proofs.forwarding_laws.a_frame_comes_down_from_a_core_switch.Goals as goal

pub returns : goal.returns
returns c = λ w g x order settled to s top. from_core w g x order settled to s top
