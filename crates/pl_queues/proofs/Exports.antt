-- What other crates may name of these proofs.
pub use Rattle.pl_queues.proofs.Items.{all_items_at, no_items}
