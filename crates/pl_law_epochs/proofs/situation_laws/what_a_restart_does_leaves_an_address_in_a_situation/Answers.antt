use Rattle.std.proofs.Common.{[]}
use Rattle.pl_law_epochs.proofs.Lives.{greeted, restarts}
use Rattle.pl_law_epochs.proofs.situation_laws.what_a_restart_does_leaves_an_address_in_a_situation.Goals as goal

pub returns-clause-restarts : goal.returns-clause-restarts
returns-clause-restarts c = λ later t at. restarts later t at []

pub returns-clause-greeted : goal.returns-clause-greeted
returns-clause-greeted c = greeted
