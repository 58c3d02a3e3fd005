use Rattle.pl_law_due.proofs.Exports.{restart_due}
use Rattle.pl_law_pods.proofs.WordsDue.{truly_anew, truly_at_first, truly_kept}
use Rattle.pl_law_pods.proofs.pod_laws.what_is_due_is_true_of_pods.Goals as goal

pub returns-clause-first : goal.returns-clause-first
returns-clause-first c = truly_at_first

pub returns-clause-steps : goal.returns-clause-steps
returns-clause-steps c = truly_kept

pub returns-clause-restarts : goal.returns-clause-restarts
returns-clause-restarts c = λ old new is restarts. truly_anew old new (restart_due old new is restarts)
