-- The votes between an edge switch and an aggregation switch of its pod: what each has, and the messages between them.
use Rattle.std.specs.Prelude.{◌≡◌, ◌≤◌, ℕ, Bool, true, List, [], ◌∷◌, Option, Some}
use Rattle.std.specs.List.{AllByRecursion}
use Rattle.pl_frame.specs.declared.address.SwitchId.{SwitchId}
use Rattle.pl_layouts.specs.declared.control.Control.{Control}
use Rattle.pl_layouts.specs.declared.control.Control.TheVariants.{Ldm, Proposal, Vote}
use Rattle.pl_node.specs.declared.switch_records.Hold.{Hold}
use Rattle.pl_node.specs.SwitchFacts.{has_granted}
use Rattle.pl_node.specs.SwitchViews.{SwitchView}
use Rattle.pl_switch_rule.specs.Positions.{is_held_for}

-- What an edge switch makes of votes: its fixed position, if any, its present proposal, and whether a port has granted that.
pub record Voter : Type 0 where
  pub id : SwitchId
  pub position : Option ℕ
  pub attempt : ℕ
  pub proposed : ℕ
  pub granted : Bool

abbrev pub voter_of : SwitchView → ℕ → Voter
voter_of v port = record {
  id = v.id;
  position = v.place.position;
  attempt = v.attempt;
  proposed = v.proposed;
  granted = has_granted v port;
}

-- A message of an edge switch names it. A proposal is of no later attempt than the present one, and one of the present attempt is for the
-- present position. A position that is told is fixed.
abbrev pub IsFromVoter : Voter → Control → Type 0
IsFromVoter e (Ldm id m) = (id ≡ e.id) × ((q : ℕ) → m.place.position ≡ Some q → e.position ≡ Some q)
IsFromVoter e (Proposal id p) = (id ≡ e.id) × (1 ≤ p.attempt) × (p.attempt ≤ e.attempt) × (p.attempt ≡ e.attempt → p.position ≡ e.proposed)
IsFromVoter e (Vote id v) = Unit {0}

abbrev pub IsNotBefore : ℕ → Control → Type 0
IsNotBefore attempt (Proposal id p) = attempt ≤ p.attempt
IsNotBefore attempt message = Unit {0}

abbrev pub IsNoProposal : Control → Type 0
IsNoProposal (Proposal id p) = ⊥
IsNoProposal message = Unit {0}

-- the attempts of proposals never fall, and no proposal stays_placed behind a message that tells a position
abbrev pub IsRising : List Control → Type 0
IsRising [] = Unit {0}
IsRising (Ldm id m ∷ rest) = ((q : ℕ) → m.place.position ≡ Some q → AllByRecursion IsNoProposal rest) × IsRising rest
IsRising (Proposal id p ∷ rest) = AllByRecursion (IsNotBefore p.attempt) rest × IsRising rest
IsRising (Vote id v ∷ rest) = IsRising rest

-- a message proposes or tells this position, or none
abbrev pub Names : ℕ → Control → Type 0
Names position (Ldm id m) = (q : ℕ) → m.place.position ≡ Some q → q ≡ position
Names position (Proposal id p) = p.position ≡ position
Names position (Vote id v) = Unit {0}

-- a position is held for an edge switch, and each message of it that is on its way is for that position
pub record IsSecure (id : SwitchId) (position : ℕ) (holds : ℕ → Option Hold) (up : List Control) : Type 0 where
  pub held : is_held_for id (holds position) ≡ true
  pub named : AllByRecursion (Names position) up

-- a vote is of no later attempt than the present one, and where it grants the present attempt, the present position is secure
abbrev pub IsSoundVote : Voter → (ℕ → Option Hold) → List Control → Control → Type 0
IsSoundVote e holds up (Vote id v) = (v.attempt ≤ e.attempt) × (v.granted ≡ true → v.attempt ≡ e.attempt → IsSecure e.id e.proposed holds up)
IsSoundVote e holds up message = Unit {0}

-- An edge switch, what an aggregation switch of its pod holds, and the messages from the one to the other and back.
pub record IsGoodPair (e : Voter) (holds : ℕ → Option Hold) (up down : List Control) : Type 0 where
  -- a fixed position is the one that was proposed last
  pub fixed : (q : ℕ) → e.position ≡ Some q → q ≡ e.proposed
  pub sent : AllByRecursion (IsFromVoter e) up
  pub rising : IsRising up
  pub sound : AllByRecursion (IsSoundVote e holds up) down
  -- where a grant is counted, the present position is secure
  pub counted : e.granted ≡ true → IsSecure e.id e.proposed holds up
  -- where a position is marked as fixed for the edge switch, it is
  pub marks : (q : ℕ) (hold : Hold) → holds q ≡ Some hold → hold.edge.0 ≡ e.id.0 → hold.fixed ≡ true → e.position ≡ Some q
