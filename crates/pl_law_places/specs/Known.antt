-- What a switch knows of itself agrees with what it heard.
use Rattle.std.specs.Prelude.{◌≡◌, ℕ, ◌/◌, ◌<◌, ◌≤◌, ◌⊎◌, true, List, Option, Some, None, slice_index_or}
use Rattle.pl_layouts.specs.declared.place.Place.{Place}
use Rattle.pl_ldp.specs.Writable.{IsWritableId}
use Rattle.pl_wiring.specs.declared.label.Label.{Label}
use Rattle.pl_wiring.specs.declared.label.Label.TheVariants.{Aggregation, Core, Edge}
use Rattle.pl_wiring.specs.Labels.{label_of}
use Rattle.pl_node.specs.declared.neighbour.PortRecord.{PortRecord}
use Rattle.pl_node.specs.declared.switch_records.Hold.{Hold}
use Rattle.pl_node.specs.PortRecords.{heard_place, new_port}
use Rattle.pl_node.specs.SwitchFacts.{hold_at}
use Rattle.pl_node.specs.SwitchViews.{SwitchView}
use Rattle.pl_law_control_plane.specs.Homes.{HasHomes}
use Rattle.pl_journal.specs.Flights.{label_level}

-- the pod of the tree that a label is in; a core switch is in none
abbrev pub pod_of : Label → Option ℕ
pod_of (Edge pod i) = Some pod
pod_of (Aggregation pod j) = Some pod
pod_of (Core group m) = None

-- a known level is the label's; an edge switch alone has a position, one of the pod, and no core switch knows a pod
pub record IsPlaceOfLabel (k : ℕ) (label : Label) (place : Place) : Type 0 where
  pub level : (x : ℕ) → place.level ≡ Some x → x ≡ label_level label
  pub position : (x : ℕ) → place.position ≡ Some x → (place.level ≡ Some 0) × (x < k / 2)
  pub pod : (x : ℕ) → place.pod ≡ Some x → ((place.level ≡ Some 0) ⊎ (place.level ≡ Some 1)) × (x < 65535)

-- z is the edge switch of position 0 of the pod in which s is, and knows this number of the pod
pub record IsZeroOf (k : ℕ) (view : ℕ → SwitchView) (s n z : ℕ) : Type 0 where
  pub pod : ℕ
  pub i : ℕ
  pub of_pod : pod_of (label_of k s) ≡ Some pod
  pub edge : label_of k z ≡ Edge pod i
  pub position : (view z).place.position ≡ Some 0
  pub number : (view z).place.pod ≡ Some n

abbrev pub HasPod : ℕ → (ℕ → SwitchView) → ℕ → ℕ → Type 0
HasPod k view s n = (z : ℕ) × IsZeroOf k view s n z

-- the place that was told last at a port
abbrev pub told_at : List PortRecord → ℕ → Place
told_at ports p = heard_place (slice_index_or ports p new_port).heard

-- A place holds all that the present records give.
pub record HasAllGiven (place : Place) (ports : List PortRecord) : Type 0 where
  -- a host makes an edge switch
  pub host : (p : ℕ) → (slice_index_or ports p new_port).host ≡ true → place.level ≡ Some 0
  -- an edge switch below makes an aggregation switch, two aggregation switches of different pods a core switch
  pub one : (p : ℕ) → (told_at ports p).level ≡ Some 0 → place.level ≡ None → ⊥
  pub two : (p q x y : ℕ) → (told_at ports p).level ≡ Some 1 → (told_at ports q).level ≡ Some 1 →
      (told_at ports p).pod ≡ Some x → (told_at ports q).pod ≡ Some y → (x ≡ y → ⊥) → place.level ≡ None → ⊥
  -- within a pod the pod is told, up and down
  pub up : (p x : ℕ) → place.level ≡ Some 1 → (told_at ports p).level ≡ Some 0 → (told_at ports p).pod ≡ Some x → place.pod ≡ None → ⊥
  pub down : (p x : ℕ) → place.level ≡ Some 0 → (told_at ports p).level ≡ Some 1 → (told_at ports p).pod ≡ Some x → place.pod ≡ None → ⊥

-- the attempt can be written, and the position is one of the pod
pub record IsAble (k attempt proposed : ℕ) : Type 0 where
  pub begun : 1 ≤ attempt
  pub within : attempt ≤ 4294967295
  pub position : proposed < k / 2

-- All of these, of a switch with an id; it knows hosts at host ports alone.
pub record IsSoundView (v : SwitchView) : Type 0 where
  pub named : IsWritableId v.id
  pub full : HasAllGiven v.place v.ports
  pub able : IsAble v.k v.attempt v.proposed
  pub holders : (position : ℕ) (hold : Hold) → hold_at v position ≡ Some hold → IsWritableId hold.edge
  pub homes : HasHomes v
