-- What other crates may name of these proofs.
pub use Rattle.pl_law_votes.proofs.AggregationTurns.{answer_to, learnt, proposal_stance, same_stance, vote_elsewhere, vote_here, vote_said}
pub use Rattle.pl_law_votes.proofs.Aside.{aside_ages, aside_data, aside_manager, changes, LeavesVotes, LeavesVotesAndPlace, votes_left, manager_leaves_votes, Stance, stance}
pub use Rattle.pl_law_votes.proofs.VotesAtFirst.{votes_at_first}
pub use Rattle.pl_law_votes.proofs.Differing.{fixed_are_apart, fixed_are_held}
pub use Rattle.pl_law_votes.proofs.EdgeTurns.{vote_holds}
pub use Rattle.pl_law_votes.proofs.Granted.{has_new}
pub use Rattle.pl_law_votes.proofs.Holding.{after_proposal, freed_is}
pub use Rattle.pl_law_votes.proofs.Majority.{one_port_to}
pub use Rattle.pl_law_votes.proofs.Messages.{SaysPlace, SaysProposal, sends_none, tick_says, TickSays}
pub use Rattle.pl_law_votes.proofs.StepsKeepVotes.{votes_on}
pub use Rattle.pl_law_votes.proofs.Wired.{ids_differ, is_there, leads_up, levels_apart, number_there, same_end}
