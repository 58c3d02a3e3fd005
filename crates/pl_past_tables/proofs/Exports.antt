-- What other crates may name of these proofs.
pub use Rattle.pl_past_tables.proofs.Said.{and_else, and_then, none_by}
pub use Rattle.pl_past_tables.proofs.Rows.{group_by_row, group_of_row, no_row, none_is_not_some, one_more_row, one_row, some_is_not_none}
