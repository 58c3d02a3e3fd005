-- In which order the edge switches of a pod come to its positions: one goes on from a position only where another one keeps it, and so none goes
-- past the last.
use Rattle.std.specs.Prelude.{◌≡◌, ◌<◌, ◌≤◌, ◌+◌, ℕ, List, Option, Some, None}
use Rattle.std.specs.List.{AllByRecursion}
use Rattle.pl_frame.specs.declared.address.SwitchId.{SwitchId}
use Rattle.pl_layouts.specs.declared.control.Control.{Control}
use Rattle.pl_layouts.specs.declared.control.Control.TheVariants.{Ldm, Proposal, Vote}
use Rattle.pl_wiring.specs.declared.label.Label.TheVariants.{Aggregation, Edge}
use Rattle.pl_wiring.specs.Labels.{IsLabel}
use Rattle.pl_wiring.specs.Plan.{Plan}
use Rattle.pl_node.specs.declared.switch_records.Hold.{Hold}
use Rattle.pl_node.specs.SwitchFacts.{hold_at}
use Rattle.pl_node.specs.SwitchViews.{SwitchView}
use Rattle.pl_law_control_plane.specs.ControlPlanes.{ControlPlane}
use Rattle.pl_law_votes.specs.Voting.{aggregation_no, edge_no}

-- A position of a pod is kept from a switch of this id: it is fixed for an edge switch of the pod, or one with a smaller id is there.
pub data IsKeptFrom (k : ℕ) (view : ℕ → SwitchView) (pod position : ℕ) (id : SwitchId) : Type 0 where
  IsFixed : (i : ℕ) → IsLabel k (Edge pod i) → (view (edge_no k pod i)).place.position ≡ Some position → IsKeptFrom k view pod position id
  IsTried : (i : ℕ) → IsLabel k (Edge pod i) → (view (edge_no k pod i)).proposed ≡ position → (view (edge_no k pod i)).id.0 < id.0 →
      IsKeptFrom k view pod position id

-- an edge switch of the pod that has this id came as far as this position
pub record HasComeTo (k : ℕ) (view : ℕ → SwitchView) (pod position : ℕ) (id : SwitchId) : Type 0 where
  pub i : ℕ
  pub edge : IsLabel k (Edge pod i)
  pub named : (view (edge_no k pod i)).id ≡ id
  pub far : position ≤ (view (edge_no k pod i)).proposed

-- so did the holder whom a refusal names
abbrev pub NamesOneThere : ℕ → (ℕ → SwitchView) → ℕ → ℕ → Option SwitchId → Type 0
NamesOneThere k view pod position None = Unit {0}
NamesOneThere k view pod position (Some id) = HasComeTo k view pod position id

abbrev pub IsVoteOfOneThere : ℕ → (ℕ → SwitchView) → ℕ → Control → Type 0
IsVoteOfOneThere k view pod (Vote id v) = NamesOneThere k view pod v.position v.holder
IsVoteOfOneThere k view pod (Ldm id m) = Unit {0}
IsVoteOfOneThere k view pod (Proposal id p) = Unit {0}

-- a proposal is for no later position than this
abbrev pub IsNotPast : ℕ → Control → Type 0
IsNotPast position (Proposal id p) = p.position ≤ position
IsNotPast position (Ldm id m) = Unit {0}
IsNotPast position (Vote id v) = Unit {0}

-- each position is tried at one attempt, and a fixed one is the present one
pub record IsInTurn (v : SwitchView) : Type 0 where
  pub attempt : v.attempt ≡ v.proposed + 1
  pub fixed : (x : ℕ) → v.place.position ≡ Some x → x ≡ v.proposed

pub record AreParkedBy (plan : Plan) (view : ℕ → SwitchView) (says : ℕ → ℕ → List Control) : Type 0 where
  pub turns : (s : ℕ) → IsInTurn (view s)
  -- each position that an edge switch left is kept from it
  pub kept : (pod i q : ℕ) → IsLabel plan.k (Edge pod i) → q < (view (edge_no plan.k pod i)).proposed →
      IsKeptFrom plan.k view pod q (view (edge_no plan.k pod i)).id
  -- what is held for an edge switch, or refused for its sake, is no later position than its present one, and so is what it proposed
  pub held : (pod j q : ℕ) (hold : Hold) → IsLabel plan.k (Aggregation pod j) → hold_at (view (aggregation_no plan.k pod j)) q ≡ Some hold →
      HasComeTo plan.k view pod q hold.edge
  pub said : (pod j port : ℕ) → IsLabel plan.k (Aggregation pod j) → AllByRecursion (IsVoteOfOneThere plan.k view pod) (says (aggregation_no plan.k pod j) port)
  pub proposals : (s port : ℕ) → AllByRecursion (IsNotPast (view s).proposed) (says s port)

abbrev pub AreParked : ControlPlane → Type 0
AreParked f = AreParkedBy f.plan f.view f.says
