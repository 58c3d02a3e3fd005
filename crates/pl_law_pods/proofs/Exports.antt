-- What other crates may name of these proofs.
pub use Rattle.pl_law_pods.proofs.NumberingGround.{first_knows, known_below, numbered_at_first, one_pod, one_zero, wish_words}
pub use Rattle.pl_law_pods.proofs.NumberingKept.{numbered_on, numbers_told, pods_below}
