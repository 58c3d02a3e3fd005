-- What other crates may name of these proofs.
pub use Rattle.pl_world_parts.proofs.Stepping.{acts_fit, can_come, can_hear, coming_at, formed_stepped, manager_moved}
pub use Rattle.pl_world_parts.proofs.Switching.{first_ports, pending_seen}
