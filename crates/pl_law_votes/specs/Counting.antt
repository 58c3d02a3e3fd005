-- What an edge switch has counted, and how many aggregation switches of its pod hold a position for it.
use Rattle.std.specs.Prelude.{◌≡◌, ◌<◌, ◌*◌, ℕ, List, [], ◌∷◌, length, Some}
use Rattle.std.specs.List.{AllByRecursion, filter, range_with_len}
use Rattle.pl_frame.specs.declared.address.SwitchId.{SwitchId}
use Rattle.pl_wiring.specs.declared.label.Label.TheVariants.{Aggregation}
use Rattle.pl_wiring.specs.declared.link.Peer.TheVariants.{Switch}
use Rattle.pl_wiring.specs.Labels.{number_of}
use Rattle.pl_wiring.specs.Peers.{peer_of}
use Rattle.pl_wiring.specs.Plan.{Plan}
use Rattle.pl_node.specs.SwitchFacts.{hold_at}
use Rattle.pl_node.specs.SwitchViews.{SwitchView}
use Rattle.pl_switch_rule.specs.Positions.{half, is_held_for}

-- the port of a switch leads to an aggregation switch of a pod
abbrev pub LeadsToAggregation : Plan → ℕ → ℕ → ℕ → Type 0
LeadsToAggregation plan pod s port = (j : ℕ) × (j < half plan.k) × (q : ℕ) × (peer_of plan s port ≡ Switch (record { 0 = number_of plan.k (Aggregation pod j) }) q)

-- each number is larger than those before it
abbrev pub AreNumbersRising : List ℕ → Type 0
AreNumbersRising [] = Unit {0}
AreNumbersRising (n ∷ ns) = AllByRecursion (λ m. n < m) ns × AreNumbersRising ns

-- An edge switch of a pod counts each grant once, of the aggregation switches of its pod alone. Once its position is fixed, more than half of
-- them have granted it.
pub record IsCounting (plan : Plan) (pod s : ℕ) (v : SwitchView) : Type 0 where
  pub once : AreNumbersRising v.granted
  pub leads : AllByRecursion (LeadsToAggregation plan pod s) v.granted
  pub most : (q : ℕ) → v.place.position ≡ Some q → half plan.k < 2 * length v.granted

-- the aggregation switches of a pod that hold a position for an edge switch, by their numbers in the pod
abbrev pub holders : ℕ → (ℕ → SwitchView) → ℕ → SwitchId → ℕ → List ℕ
holders k view pod id position =
    filter (λ j. is_held_for id (hold_at (view (number_of k (Aggregation pod j))) position)) (range_with_len 0 (half k))

-- they are more than half of those of the pod
abbrev pub IsHeldByMost : ℕ → (ℕ → SwitchView) → ℕ → SwitchId → ℕ → Type 0
IsHeldByMost k view pod id position = half k < 2 * length (holders k view pod id position)
