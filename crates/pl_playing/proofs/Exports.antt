-- What other crates may name of these proofs.
pub use Rattle.pl_playing.proofs.Stopped.{no_stop}
