-- What other crates may name of these proofs.
pub use Rattle.pl_steps.proofs.Parts.{all_left, nothing_left, rest_done, taken_rests, taken_then, then_up_to}
pub use Rattle.pl_steps.proofs.Ports.{passed_next, passing_ports_more, ports_more}
