use Rattle.pl_law_ledger.proofs.LedgerAtFirst.{boot_ledger}
use Rattle.pl_law_ledger.proofs.ledger_laws.the_ledger_begins_empty.Goals as goal

pub returns : goal.returns
returns c = λ plan limits. boot_ledger plan limits
