-- How edge switches try one position after the other: why an aggregation switch refuses one, and why an edge switch went on to the next.
use Rattle.std.specs.Prelude.{◌≡◌, ◌<◌, ◌≤◌, ◌*◌, ℕ, Bool, true, false, List, Option, Some, None, length}
use Rattle.std.specs.List.{AllByRecursion}
use Rattle.pl_frame.specs.declared.address.SwitchId.{SwitchId}
use Rattle.pl_layouts.specs.declared.control.Control.{Control}
use Rattle.pl_layouts.specs.declared.control.Control.TheVariants.{Ldm, Proposal, Vote}
use Rattle.pl_wiring.specs.declared.label.Label.TheVariants.{Aggregation, Edge}
use Rattle.pl_wiring.specs.Labels.{IsLabel}
use Rattle.pl_wiring.specs.Plan.{Plan}
use Rattle.pl_node.specs.declared.switch_records.Hold.{Hold}
use Rattle.pl_node.specs.SwitchFacts.{hold_at}
use Rattle.pl_node.specs.SwitchViews.{SwitchView}
use Rattle.pl_switch_rule.specs.Positions.{half}
use Rattle.pl_law_control_plane.specs.ControlPlanes.{ControlPlane}
use Rattle.pl_law_votes.specs.Voting.{aggregation_no, edge_no}

-- An edge switch of the pod that knows its level has this id. Where the position is said to be fixed for it, it is.
pub record IsHolder (k : ℕ) (view : ℕ → SwitchView) (pod position : ℕ) (id : SwitchId) (fixed : Bool) : Type 0 where
  pub i : ℕ
  pub edge : IsLabel k (Edge pod i)
  pub named : (view (edge_no k pod i)).id ≡ id
  pub level : (view (edge_no k pod i)).place.level ≡ Some 0
  pub so : fixed ≡ true → (view (edge_no k pod i)).place.position ≡ Some position

-- a vote names such a switch as the holder, or none
abbrev pub NamesSomeHolder : ℕ → (ℕ → SwitchView) → ℕ → ℕ → Bool → Option SwitchId → Type 0
NamesSomeHolder k view pod position fixed None = fixed ≡ false
NamesSomeHolder k view pod position fixed (Some id) = IsHolder k view pod position id fixed

abbrev pub IsTrueVote : ℕ → (ℕ → SwitchView) → ℕ → Control → Type 0
IsTrueVote k view pod (Vote id v) = NamesSomeHolder k view pod v.position v.fixed v.holder
IsTrueVote k view pod (Ldm id m) = Unit {0}
IsTrueVote k view pod (Proposal id p) = Unit {0}

-- Why an edge switch of this id went on from the first position of its pod: it is fixed for one of them, or one with a smaller id is there.
pub data HasReason (k : ℕ) (view : ℕ → SwitchView) (pod : ℕ) (id : SwitchId) : Type 0 where
  IsTaken : (i : ℕ) → IsLabel k (Edge pod i) → (view (edge_no k pod i)).place.position ≡ Some 0 → HasReason k view pod id
  IsBehind : (i : ℕ) → IsLabel k (Edge pod i) → (view (edge_no k pod i)).place.level ≡ Some 0 → (view (edge_no k pod i)).id.0 < id.0 → HasReason k view pod id

-- the first attempt is for position 0, and as long as no position is fixed at most half of those above have granted the present one
pub record IsTrying (v : SwitchView) : Type 0 where
  pub first : v.attempt ≡ 1 → v.proposed ≡ 0
  pub few : v.place.position ≡ None → 2 * length v.granted ≤ half v.k

pub record AreTryingBy (plan : Plan) (view : ℕ → SwitchView) (says : ℕ → ℕ → List Control) : Type 0 where
  -- an aggregation switch holds positions for edge switches of its pod, and refuses them for their sake
  pub held : (pod j q : ℕ) (hold : Hold) → IsLabel plan.k (Aggregation pod j) → hold_at (view (aggregation_no plan.k pod j)) q ≡ Some hold →
      IsHolder plan.k view pod q hold.edge hold.fixed
  pub said : (pod j port : ℕ) → IsLabel plan.k (Aggregation pod j) → AllByRecursion (IsTrueVote plan.k view pod) (says (aggregation_no plan.k pod j) port)
  pub trying : (s : ℕ) → IsTrying (view s)
  -- an edge switch went on from its first attempt for a reason
  pub reasons : (pod i : ℕ) → IsLabel plan.k (Edge pod i) → 1 < (view (edge_no plan.k pod i)).attempt →
      HasReason plan.k view pod (view (edge_no plan.k pod i)).id

abbrev pub AreTrying : ControlPlane → Type 0
AreTrying f = AreTryingBy f.plan f.view f.says
