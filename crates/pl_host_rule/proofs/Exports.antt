-- What other crates may name of these proofs.
pub use Rattle.pl_host_rule.proofs.HostOwn
pub use Rattle.pl_host_rule.proofs.HostFrames.{packet_in-addresses}
pub use Rattle.pl_host_rule.proofs.HostOwn.{boot_holds_own, keeps_frames, sends_own}
pub use Rattle.pl_host_rule.proofs.HostSends.{joins_by_sending, owes_sends}
pub use Rattle.pl_host_rule.proofs.Lawful.{host_rule_is_lawful}
