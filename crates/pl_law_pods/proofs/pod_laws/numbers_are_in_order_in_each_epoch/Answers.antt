use Rattle.pl_law_pods.proofs.NumberingGround.{numbered_anew, numbered_at_first}
use Rattle.pl_law_pods.proofs.NumberingKept.{numbered_kept}
use Rattle.pl_law_pods.proofs.pod_laws.numbers_are_in_order_in_each_epoch.Goals as goal

pub returns-clause-first : goal.returns-clause-first
returns-clause-first c = numbered_at_first

pub returns-clause-steps : goal.returns-clause-steps
returns-clause-steps c = numbered_kept

pub returns-clause-restarts : goal.returns-clause-restarts
returns-clause-restarts c = numbered_anew
