-- What an aggregation switch holds for the edge switches of its pod, as the part of what it knows.
use Rattle.std.specs.Prelude.{◌≡◌, ◌≢◌, ◌<◌, ℕ, ◌^◌, ◌&&◌, not, true, false, if◌then◌else◌, List, length, Option, Some, slice_index_or, None, is_none, is_some}
use Rattle.pl_frame.specs.declared.address.SwitchId.{SwitchId}
use Rattle.pl_layouts.specs.declared.control.Proposal.{Proposal}
use Rattle.pl_layouts.specs.declared.control.Vote.{Vote}
use Rattle.pl_node.specs.declared.switch_records.Hold.{Hold}
use Rattle.pl_node.specs.SwitchViews.{SwitchView}
use Rattle.pl_switch_rule.specs.Positions.{is_free_for, is_held_for}

-- a view with this part: one hold or none for each position
abbrev pub with_holds : List (Option Hold) → SwitchView → SwitchView
with_holds holds v = record v { holds = holds }

abbrev pub hold_in : List (Option Hold) → ℕ → Option Hold
hold_in holds position = slice_index_or holds position None

-- What one edge switch says of a position changes its own holds alone.
pub record HoldsFor (edge : SwitchId) (position : ℕ) (before after : List (Option Hold)) : Type 0 where
  -- what another edge switch holds, it still holds, marked as it was
  pub kept : (at : ℕ) (hold : Hold) → hold.edge ≢ edge → hold_in before at ≡ Some hold → hold_in after at ≡ Some hold
  -- and it holds no more than before
  pub no_more : (at : ℕ) (hold : Hold) → hold.edge ≢ edge → hold_in after at ≡ Some hold → hold_in before at ≡ Some hold
  -- this one holds no other position
  pub alone : (at : ℕ) → at ≢ position → is_held_for edge (hold_in after at) ≡ false
  pub many : length after ≡ length before

-- A vote answers the attempt and the position that were proposed. A grant says that the position is held for the edge switch; a refusal
-- names the other one that holds it, and whether it is marked.
pub record AnswersProposal (edge : SwitchId) (p : Proposal) (holds : List (Option Hold)) (vote : Vote) : Type 0 where
  pub attempt : vote.attempt ≡ p.attempt
  pub position : vote.position ≡ p.position
  pub grant : vote.granted ≡ true → is_held_for edge (hold_in holds p.position) ≡ true
  pub refusal : vote.granted ≡ false → (hold : Hold) × (hold_in holds p.position ≡ Some hold) × (hold.edge ≢ edge)
      × (vote.holder ≡ Some hold.edge) × (vote.fixed ≡ hold.fixed)

-- a grant names no holder and no mark, a refusal names the holder: so it can be told
abbrev pub NamesHolderDuly : Vote → Type 0
NamesHolderDuly vote = (if vote.granted then is_none vote.holder && not vote.fixed else is_some vote.holder) ≡ true

-- the position is marked for the edge switch, where no other one holds it
abbrev pub IsMarked : SwitchId → ℕ → List (Option Hold) → List (Option Hold) → Type 0
IsMarked edge position before after =
    is_free_for edge (hold_in before position) ≡ true → hold_in after position ≡ Some (record { edge = edge; fixed = true })

-- an id of 48 bits that is not 0
abbrev pub IsSwitchId : SwitchId → Type 0
IsSwitchId id = (0 < id.0) × (id.0 < 2 ^ 48)

-- all holders have such ids, so that they can be told
abbrev pub AreHeldByIds : List (Option Hold) → Type 0
AreHeldByIds holds = (at : ℕ) (hold : Hold) → hold_in holds at ≡ Some hold → IsSwitchId hold.edge
