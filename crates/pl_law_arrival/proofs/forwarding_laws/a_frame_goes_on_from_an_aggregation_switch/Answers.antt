use Rattle.pl_law_arrival.proofs.GoingOn.{down, up, within}
use Rattle.pl_law_arrival.proofs.forwarding_laws.a_frame_goes_on_from_an_aggregation_switch.Goals as goal

pub returns-clause-up : goal.returns-clause-up
returns-clause-up c = λ w g x order settled to s first. up w g x order settled to s first

pub returns-clause-within : goal.returns-clause-within
returns-clause-within c = λ w g x order settled to s last. within w g x order settled to s last

pub returns-clause-down : goal.returns-clause-down
returns-clause-down c = λ w g x order settled to s last. down w g x order settled to s last
