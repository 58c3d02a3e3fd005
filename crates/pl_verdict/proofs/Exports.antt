-- What other crates may name of these proofs.
pub use Rattle.pl_verdict.proofs.Fitting.{bad_line_fits, illegal_fits}
pub use Rattle.pl_verdict.proofs.Following.{back, legal_is_run, whole}
