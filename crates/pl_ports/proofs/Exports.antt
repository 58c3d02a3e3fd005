-- What other crates may name of these proofs.
pub use Rattle.pl_ports.proofs.PortSets.{set_further}
