use Rattle.pl_law_ledger.proofs.LedgerInRuns.{places_grow}
use Rattle.pl_law_ledger.proofs.run_laws.what_is_known_of_places_is_known_later.Goals as goal

pub returns : goal.returns
returns g c = λ old event new kept none step. places_grow g.H.HostLogic.rule old event new kept none step
