-- What other crates may name of these proofs.
pub use Rattle.pl_law_ledger.proofs.AddressTables.{held_somewhere, IsAlike, IsLast, of_edge, same_says, Says, spent_there}
pub use Rattle.pl_law_ledger.proofs.HoldsInRuns.{boot_holds, holds_in_run, holds_mark, holds_step, numbers_last, numbers_suffice, numbers_sufficed}
pub use Rattle.pl_law_ledger.proofs.Leading.{are_led}
pub use Rattle.pl_law_ledger.proofs.LedgerInRuns.{formed, grounds, in_bounds, kept_in_run, places_grow}
pub use Rattle.pl_law_ledger.proofs.Numbering.{behind_first, first_or, numberings}
pub use Rattle.pl_law_ledger.proofs.StepsKeepLedger.{fits_there}
pub use Rattle.pl_law_ledger.proofs.TellsNumbers.{IsDue, IsNumberOf, numbers_due}
pub use Rattle.pl_law_ledger.proofs.TurnsKeepLedger.{due_is_hosts, source_is}
