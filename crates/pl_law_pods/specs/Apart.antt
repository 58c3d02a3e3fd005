-- That numbers of pods stay apart through all epochs: those that edge switches with position 0 know, and those that the manager gave in the present one.
use Rattle.std.specs.Prelude.{◌≡◌, ◌⊎◌, ℕ, Bool, true, false, List, Option, Some}
use Rattle.pl_frame.specs.declared.address.SwitchId.{SwitchId}
use Rattle.pl_layouts.specs.Equality.{same_switch}
use Rattle.pl_node.specs.declared.messages.ToManager.{ToManager}
use Rattle.pl_node.specs.declared.messages.ToManager.TheVariants.{Place}
use Rattle.pl_node.specs.declared.pod_given.PodGiven.{PodGiven}
use Rattle.pl_node.specs.ManagerViews.{Told, place_of, pod_given}

-- By number of a switch its id, and the pod that it knows as an edge switch with position 0; the places that the manager was told, and the numbers that it
-- gave: each number is of one switch. One that is known stands in the place that its switch told last, or was given to it: so the manager takes it for
-- no free one.
pub record NumbersApart (id : ℕ → SwitchId) (known : ℕ → Option ℕ) (told : Told) (pods : List PodGiven) : Type 0 where
  pub one : (s n m : ℕ) → known s ≡ Some n → pod_given pods (id s) ≡ Some m → n ≡ m
  pub knowers : (s t n : ℕ) → known s ≡ Some n → known t ≡ Some n → s ≡ t
  pub askers : (a b : SwitchId) (n : ℕ) → pod_given pods a ≡ Some n → pod_given pods b ≡ Some n → a.0 ≡ b.0
  pub both : (s n : ℕ) (b : SwitchId) → known s ≡ Some n → pod_given pods b ≡ Some n → (id s).0 ≡ b.0
  pub stands : (s n : ℕ) → known s ≡ Some n → ((place_of told (id s)).pod ≡ Some n) ⊎ (pod_given pods (id s) ≡ Some n)

-- no switch of this id knows a pod
abbrev pub KnowsNone : (ℕ → SwitchId) → (ℕ → Option ℕ) → SwitchId → Type 0
KnowsNone id known asker = (s n : ℕ) → known s ≡ Some n → (id s).0 ≡ asker.0 → ⊥

-- A word in which a switch tells its place; and one of it has the pod that the switch knows.
abbrev pub tells_place : SwitchId → SwitchId → ToManager → Bool
tells_place t switch (Place place) = same_switch switch t
tells_place t switch word = false

abbrev pub HasPod : SwitchId → ℕ → SwitchId → ToManager → Type 0
HasPod t n switch (Place place) = same_switch switch t ≡ true → place.pod ≡ Some n
HasPod t n switch word = Unit {0}
