use Rattle.pl_law_arrival.proofs.Following.{unchanged}
use Rattle.pl_law_arrival.proofs.arrival_laws.no_link_and_no_place_changes_between_settled_moments.Goals as goal

pub returns : goal.returns
returns g c = λ old event new order later settled still none step. unchanged g.H.HostLogic.rule old new event order later settled still none step
