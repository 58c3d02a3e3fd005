-- What would come of the proposal of an edge switch, if it sent it once more, by the rows of proposals and votes.
use Rattle.std.specs.Prelude.{◌≡◌, ℕ, true, [], Some, None}
use Rattle.pl_frame.specs.declared.address.SwitchId.{SwitchId}
use Rattle.pl_layouts.specs.declared.control.Proposal.{Proposal}
use Rattle.pl_layouts.specs.declared.control.Vote.{Vote}
use Rattle.pl_node.specs.PortRecords.{is_usable_to}
use Rattle.pl_node.specs.SwitchFacts.{hold_at}
use Rattle.pl_node.specs.SwitchViews.{SwitchView}
use Rattle.pl_switch_rule.specs.Positions.{after_vote, frees_others, hears_proposal, vote_on}

-- the present proposal of a switch
abbrev pub proposal_of : SwitchView → Proposal
proposal_of v = record { attempt = v.attempt; position = v.proposed }

-- how an aggregation switch votes that answers a proposal: first it frees what else it holds for that edge switch
abbrev pub vote_of : SwitchView → SwitchId → Proposal → Vote
vote_of u edge p = vote_on edge p (hold_at (frees_others u edge p.position) p.position)

-- The proposal of v comes at port q of u. It leaves what u knows as it is, and if u answers, so does its vote what v knows, which comes at the port
-- of v.
pub record LeavesBoth (v : SwitchView) (port : ℕ) (u : SwitchView) (q : ℕ) : Type 0 where
  pub holder : (hears_proposal u q v.id (proposal_of v)).view ≡ u
  pub proposer : ((hears_proposal u q v.id (proposal_of v)).acts ≡ [] → ⊥) → after_vote v port (vote_of u v.id (proposal_of v)) ≡ v

-- So it is where v proposes out of the port: it has level 0 and no position, and a neighbour there that it knows to have level 1.
abbrev pub IsAgreed : SwitchView → ℕ → SwitchView → ℕ → Type 0
IsAgreed v port u q = is_usable_to v 1 port ≡ true → v.place.level ≡ Some 0 → v.place.position ≡ None → LeavesBoth v port u q
