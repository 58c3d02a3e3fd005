use Rattle.std.proofs.lemmas.Bool.{and_parts}
use Rattle.pl_journal.specs.Causes.{goes_to_group}
use Rattle.pl_journal.specs.Flights.{are_adjacent, is_good_leg, leg}
use Rattle.pl_journal.proofs.Trails.{good_leg}
use Rattle.pl_journal.proofs.frame_laws.legs_are_good.Goals as goal

pub returns-clause-good : goal.returns-clause-good
returns-clause-good c = λ plan past id run trail.
    (and_parts (is_good_leg (goes_to_group past id) plan.k (leg past id)) (are_adjacent plan (leg past id)) (good_leg plan past id run trail)).0

pub returns-clause-adjacent : goal.returns-clause-adjacent
returns-clause-adjacent c = λ plan past id run trail.
    (and_parts (is_good_leg (goes_to_group past id) plan.k (leg past id)) (are_adjacent plan (leg past id)) (good_leg plan past id run trail)).1
