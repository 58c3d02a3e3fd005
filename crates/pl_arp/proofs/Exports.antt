-- What other crates may name of these proofs.
pub use Rattle.pl_arp.proofs.Lengths.{length-layout}
pub use Rattle.pl_arp.proofs.Spelling.{arp_in-layout}
pub use Rattle.pl_arp.proofs.Tables.{hardware_of-others, hardware_of-with_pair}
