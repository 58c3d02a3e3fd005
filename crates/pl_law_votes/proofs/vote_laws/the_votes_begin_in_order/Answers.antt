use Rattle.pl_law_votes.proofs.VotesAtFirst.{votes_at_first}
use Rattle.pl_law_votes.proofs.vote_laws.the_votes_begin_in_order.Goals as goal

pub returns : goal.returns
returns c = votes_at_first
