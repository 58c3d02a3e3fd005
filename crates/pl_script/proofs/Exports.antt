-- What other crates may name of these proofs.
pub use Rattle.pl_script.proofs.BridgeLines.{bridge_script_repairs_none}
