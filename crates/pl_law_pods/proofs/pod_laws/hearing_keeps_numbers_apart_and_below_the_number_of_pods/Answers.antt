use Rattle.pl_law_due.proofs.Exports.{ids_apart}
use Rattle.pl_law_pods.proofs.GivingApart.{asked_gives, placed_gives}
use Rattle.pl_law_pods.proofs.pod_laws.hearing_keeps_numbers_apart_and_below_the_number_of_pods.Goals as goal

pub returns-clause-asked : goal.returns-clause-asked
returns-clause-asked c = λ plane pods told s id is placed apart gives named position unknown.
    asked_gives plane is placed apart told pods gives s id named position unknown (λ t there. ids_apart plane.plan is t s id there named)

pub returns-clause-placed : goal.returns-clause-placed
returns-clause-placed c = λ plane pods told s id place is placed apart gives named own again.
    placed_gives plane is placed apart told pods gives s id named place own again (λ t there. ids_apart plane.plan is t s id there named)
