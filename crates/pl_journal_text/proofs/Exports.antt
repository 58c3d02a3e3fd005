-- What other crates may name of these proofs.
pub use Rattle.pl_journal_text.proofs.Cuts.{cut_once, never_cut}
pub use Rattle.pl_journal_text.proofs.Lines.{begun_once, one_journal, some_line}
pub use Rattle.pl_journal_text.proofs.Printed.{front_of, front_printed, line_is, no_newline}
