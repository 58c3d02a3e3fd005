use Rattle.pl_law_ledger.proofs.HoldsInRuns.{holds_step}
use Rattle.pl_law_ledger.proofs.ledger_laws.each_step_keeps_the_ledger.Goals as goal

pub returns : goal.returns
returns g c = λ old event new kept kept_then none step holds. holds_step g.H.HostLogic.rule old event new kept kept_then holds none step
