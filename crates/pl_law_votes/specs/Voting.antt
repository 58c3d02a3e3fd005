-- The votes of all pods.
use Rattle.std.specs.Prelude.{◌≡◌, ◌<◌, ℕ, List, Some, slice_index_or}
use Rattle.std.specs.List.{AllByRecursion}
use Rattle.pl_frame.specs.declared.address.SwitchId.{SwitchId}
use Rattle.pl_layouts.specs.declared.control.Control.{Control}
use Rattle.pl_layouts.specs.Control.{sender_of}
use Rattle.pl_ldp.specs.Writable.{IsWritableId, IsWritableControl}
use Rattle.pl_wiring.specs.declared.label.Label.TheVariants.{Aggregation, Edge}
use Rattle.pl_wiring.specs.Labels.{IsLabel, label_of, number_of, switch_count}
use Rattle.pl_wiring.specs.Plan.{IsPlan, Plan}
use Rattle.pl_node.specs.declared.switch_records.Hold.{Hold}
use Rattle.pl_node.specs.PortRecords.{id_at}
use Rattle.pl_node.specs.SwitchFacts.{hold_at}
use Rattle.pl_node.specs.SwitchViews.{SwitchView}
use Rattle.pl_law_control_plane.specs.ControlPlanes.{AreAdjacent, ControlPlane}
use Rattle.pl_law_control_plane.specs.Discovery.{CanBeTold, CanPropose}
use Rattle.pl_law_votes.specs.Counting.{IsCounting, IsHeldByMost}
use Rattle.pl_law_votes.specs.Pairs.{IsGoodPair, voter_of}

abbrev pub edge_no : ℕ → ℕ → ℕ → ℕ
edge_no k pod i = number_of k (Edge pod i)

abbrev pub aggregation_no : ℕ → ℕ → ℕ → ℕ
aggregation_no k pod j = number_of k (Aggregation pod j)

pub record IsVoting (plan : Plan) (view : ℕ → SwitchView) (says : ℕ → ℕ → List Control) : Type 0 where
  -- each switch has the id that the wiring gives it, and each message names its sender
  pub ids : (s : ℕ) → (view s).id ≡ slice_index_or plan.ids s (record { 0 = 0 })
  pub named : (s port : ℕ) → AllByRecursion (λ c. sender_of c ≡ (view s).id) (says s port)
  -- a position is held for a switch that has an id
  pub holders : (s q : ℕ) (hold : Hold) → hold_at (view s) q ≡ Some hold → IsWritableId hold.edge
  -- votes are in order between each edge and each aggregation switch of a pod
  pub pairs : (pod i j p q : ℕ) → IsLabel plan.k (Edge pod i) → IsLabel plan.k (Aggregation pod j) →
      AreAdjacent plan (edge_no plan.k pod i) p (aggregation_no plan.k pod j) q →
      IsGoodPair (voter_of (view (edge_no plan.k pod i)) p) (hold_at (view (aggregation_no plan.k pod j)))
      (says (edge_no plan.k pod i) p) (says (aggregation_no plan.k pod j) q)
  -- and each edge switch counts them
  pub counting : (pod i : ℕ) → IsLabel plan.k (Edge pod i) → IsCounting plan pod (edge_no plan.k pod i) (view (edge_no plan.k pod i))

-- the votes of a control plane are in order
abbrev pub AreVoting : ControlPlane → Type 0
AreVoting f = IsVoting f.plan f.view f.says

-- What votes need of places: what waits over a link can be read as it was written, and so can be what each switch would tell.
pub record CanTell (f : ControlPlane) : Type 0 where
  pub plan : IsPlan f.plan
  pub written : (s p t q : ℕ) → AreAdjacent f.plan s p t q → AllByRecursion IsWritableControl (f.says s p)
  pub places : (s : ℕ) → s < switch_count f.plan.k → CanBeTold (f.view s).place
  pub proposals : (s : ℕ) → s < switch_count f.plan.k → CanPropose (f.view s).attempt (f.view s).proposed
  pub echoes : (s port : ℕ) (id : SwitchId) → s < switch_count f.plan.k → id_at (f.view s) port ≡ Some id → IsWritableId id

-- a position that is fixed for an edge switch is held for it by more than half of the aggregation switches of its pod
abbrev pub FixedAreHeld : Plan → (ℕ → SwitchView) → Type 0
FixedAreHeld plan view = (pod i q : ℕ) → IsLabel plan.k (Edge pod i) → (view (edge_no plan.k pod i)).place.position ≡ Some q →
    IsHeldByMost plan.k view pod (view (edge_no plan.k pod i)).id q

-- two edge switches of a pod with one fixed position are one
abbrev pub FixedAreApart : Plan → (ℕ → SwitchView) → Type 0
FixedAreApart plan view = (pod i j q s t : ℕ) → label_of plan.k s ≡ Edge pod i → label_of plan.k t ≡ Edge pod j →
    (view s).place.position ≡ Some q → (view t).place.position ≡ Some q → s ≡ t
