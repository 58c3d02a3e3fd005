use Rattle.pl_law_records.proofs.Pairing.{due_links, restart_links}
use Rattle.pl_law_records.proofs.Strangers.{due_neighbours, restart_neighbours}
use Rattle.pl_law_records.proofs.record_laws.each_step_keeps_links.Goals as goal

pub returns-clause-links : goal.returns-clause-links
returns-clause-links c = due_links

pub returns-clause-others : goal.returns-clause-others
returns-clause-others c = due_neighbours

pub returns-clause-restarts : goal.returns-clause-restarts
returns-clause-restarts c = λ old new is restarts. (restart_links old new is restarts, restart_neighbours old new is restarts)
