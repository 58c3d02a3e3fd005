-- How a frame for one address goes through a fat tree: up, and then down, by what the switches on its way know of their places.
use Rattle.std.specs.Prelude.{◌≡◌, ℕ, zero, suc, nat_lt, if◌then◌else◌, List, [], ◌∷◌, map, Some}
use Rattle.pl_pmac.specs.declared.pmac.Pmac.{Pmac}
use Rattle.pl_wiring.specs.declared.label.Label.TheVariants.{Aggregation, Core, Edge}
use Rattle.pl_wiring.specs.Labels.{label_of}
use Rattle.pl_layouts.specs.declared.place.Place.{Place}
use Rattle.pl_journal.specs.Flights.{level_of}

-- an edge switch that knows its pod and its position, and they are not those of the address
pub record IsElsewhere (place : Place) (to : Pmac) : Type 0 where
  pub pod : ℕ
  pub position : ℕ
  pub knows_pod : place.pod ≡ Some pod
  pub knows_position : place.position ≡ Some position
  pub another : pod ≡ to.pod → position ≡ to.position → ⊥

-- an aggregation switch that knows its pod, and it is not that of the address
pub record IsOfOtherPod (place : Place) (to : Pmac) : Type 0 where
  pub pod : ℕ
  pub knows : place.pod ≡ Some pod
  pub another : pod ≡ to.pod → ⊥

-- A frame for an address is between switches s and t, and these are the switches that it crossed, s first: it climbs from an edge switch,
-- leaves the pod, falls from a core switch, turns within the pod, or enters the edge switch of another pod.
pub data Route (k : ℕ) (place : ℕ → Place) (to : Pmac) (leg : List ℕ) (s t : ℕ) : Type 0 where
  Climbs : (p i j : ℕ) → label_of k s ≡ Edge p i → label_of k t ≡ Aggregation p j → leg ≡ s ∷ [] → IsElsewhere (place s) to →
      Route k place to leg s t
  Leaves : (e p i j m : ℕ) → label_of k e ≡ Edge p i → label_of k s ≡ Aggregation p j → label_of k t ≡ Core j m → leg ≡ s ∷ e ∷ [] →
      IsOfOtherPod (place s) to → Route k place to leg s t
  Falls : (e a p i j m q : ℕ) → label_of k e ≡ Edge p i → label_of k a ≡ Aggregation p j → label_of k s ≡ Core j m →
      label_of k t ≡ Aggregation q j → leg ≡ s ∷ a ∷ e ∷ [] → IsOfOtherPod (place a) to → (place t).pod ≡ Some to.pod → Route k place to leg s t
  Turns : (e p i j x : ℕ) → label_of k e ≡ Edge p i → label_of k s ≡ Aggregation p j → label_of k t ≡ Edge p x → leg ≡ s ∷ e ∷ [] →
      (e ≡ t → ⊥) → (place s).pod ≡ Some to.pod → (place t).position ≡ Some to.position → Route k place to leg s t
  Enters : (e a c p i j m q x : ℕ) → label_of k e ≡ Edge p i → label_of k a ≡ Aggregation p j → label_of k c ≡ Core j m →
      label_of k s ≡ Aggregation q j → label_of k t ≡ Edge q x → leg ≡ s ∷ c ∷ a ∷ e ∷ [] → (p ≡ q → ⊥) → (place s).pod ≡ Some to.pod →
      (place t).position ≡ Some to.position → Route k place to leg s t

-- The levels of the switches that a frame of a group has crossed, the last first. It rises to a core switch and then falls: so they are at a switch
-- of this level on its way up, and on its way down.
abbrev pub risen : ℕ → List ℕ
risen zero = 0 ∷ []
risen (suc zero) = 1 ∷ 0 ∷ []
risen (suc (suc n)) = 2 ∷ 1 ∷ 0 ∷ []

abbrev pub fallen : ℕ → List ℕ
fallen zero = 0 ∷ 1 ∷ 2 ∷ 1 ∷ 0 ∷ []
fallen (suc zero) = 1 ∷ 2 ∷ 1 ∷ 0 ∷ []
fallen (suc (suc n)) = 2 ∷ 1 ∷ 0 ∷ []

-- between a switch of one level and one of another it is on its way up, or down
abbrev pub risen_or_fallen : ℕ → ℕ → List ℕ
risen_or_fallen here next = if nat_lt here next then risen here else fallen here

abbrev pub levels : ℕ → List ℕ → List ℕ
levels k switches = map (level_of k) switches
