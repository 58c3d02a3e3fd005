-- What other crates may name of these proofs.
pub use Rattle.pl_law_records.proofs.Last.{current_at_rest}
pub use Rattle.pl_law_records.proofs.LinkRuns.{names_neighbours, run_holds, run_links, run_neighbours}
pub use Rattle.pl_law_records.proofs.Pairing.{links_at_rest}
pub use Rattle.pl_law_records.proofs.Questions.{question_ends_none, question_reports_nothing, reply_orders_nothing}
pub use Rattle.pl_law_records.proofs.Recording.{one_switch}
pub use Rattle.pl_law_records.proofs.RecordsInRuns.{run_ordered, run_reported}
pub use Rattle.pl_law_records.proofs.Strangers.{neighbour_is, neighbours_at_rest}
pub use Rattle.pl_law_records.proofs.ToldInTurns.{parts_then, tells_right}
