-- What other crates may name of these proofs.
pub use Rattle.pl_log_lines.proofs.Printing.{ends_joined, prints_nothing, prints_then}
pub use Rattle.pl_log_lines.proofs.Telling.{tells_nothing, tells_then}
