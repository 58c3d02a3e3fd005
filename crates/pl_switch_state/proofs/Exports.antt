-- What other crates may name of these proofs.
pub use Rattle.pl_switch_state.proofs.HostsKnown.{known_host}
