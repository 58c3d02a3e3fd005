-- What other crates may name of these proofs.
pub use Rattle.pl_law_members.proofs.MembersInRuns.{joined_at_first, lawful_hosts_keep, members_are, run_joined}
