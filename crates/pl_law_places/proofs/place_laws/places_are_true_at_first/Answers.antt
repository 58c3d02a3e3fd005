use Rattle.pl_law_places.proofs.PlacesAtFirst.{placed_at_first}
use Rattle.pl_law_places.proofs.place_laws.places_are_true_at_first.Goals as goal

pub returns : goal.returns
returns c = λ plan limits can. placed_at_first plan limits can.is_plan
