-- What an edge switch keeps of its attempts to get a position, as the part of what it knows.
use Rattle.std.specs.Prelude.{◌≡◌, ◌<◌, ◌≤◌, ℕ, ◌/◌, if◌then◌else◌, List, [], Option, Some, None, is_none, IfSome, refl}
use Rattle.pl_frame.specs.declared.address.SwitchId.{SwitchId}
use Rattle.pl_layouts.specs.declared.control.Proposal.{Proposal}
use Rattle.pl_node.specs.SwitchFacts.{IsTreeSize, switch_at_boot}
use Rattle.pl_node.specs.SwitchViews.{SwitchView}

-- of a switch of k ports: the position once it is fixed, the present attempt, the position that it proposes, and the ports that granted it
pub record Candidacy : Type 0 where
  pub k : ℕ
  pub position : Option ℕ
  pub attempt : ℕ
  pub proposed : ℕ
  pub granted : List ℕ

-- a view with this part
abbrev pub with_candidacy : Candidacy → SwitchView → SwitchView
with_candidacy c v = record v {
  place = record v.place { position = c.position };
  attempt = c.attempt;
  proposed = c.proposed;
  granted = c.granted;
}

-- attempt 1 is at position 0
abbrev pub first_candidacy : ℕ → Candidacy
first_candidacy k = record { k = k; position = None; attempt = 1; proposed = 0; granted = [] }

-- there is nothing to propose once the position is fixed
abbrev pub proposal_of : Candidacy → Option Proposal
proposal_of c = if is_none c.position then Some (record { attempt = c.attempt; position = c.proposed }) else None

-- an attempt's number is not 0, and there are k/2 positions
pub record IsCandidacy (k : ℕ) (position : Option ℕ) (attempt proposed : ℕ) : Type 0 where
  pub size : IsTreeSize k
  pub begun : 1 ≤ attempt
  pub within : proposed < k / 2
  pub fixed : IfSome position (λ p. p < k / 2)

-- a switch at its beginning has this part
a_switch_begins_with_attempt_1 : (id : SwitchId) (k : ℕ) → with_candidacy (first_candidacy k) (switch_at_boot id k) ≡ switch_at_boot id k
a_switch_begins_with_attempt_1 id k = refl
