-- The numbers of pods in each epoch of the manager: those that switches know, those that the manager gave, what it was told of them and what is due.
use Rattle.std.specs.Prelude.{◌≡◌, ◌<◌, ◌⊎◌, ℕ, Bool, true, false, List, [], ◌∷◌, ◌++◌, map, Option, Some, slice_get}
use Rattle.std.specs.List.{AllByRecursion, IsDistinct}
use Rattle.pl_frame.specs.declared.address.SwitchId.{SwitchId}
use Rattle.pl_layouts.specs.declared.place.Place.{Place}
use Rattle.pl_layouts.specs.Equality.{same_switch}
use Rattle.pl_wiring.specs.Plan.{Plan}
use Rattle.pl_gathering.specs.Gathering.{is_among, is_whole, kept_of}
use Rattle.pl_gathering.specs.Orderly.{begins}
use Rattle.pl_node.specs.declared.messages.ToManager.{ToManager}
use Rattle.pl_node.specs.declared.messages.ToManager.TheVariants.{Begin, Place as TellPlace, PodWanted}
use Rattle.pl_node.specs.declared.pod_given.PodGiven.{PodGiven}
use Rattle.pl_node.specs.ManagerViews.{Told, pod_given}
use Rattle.pl_node.specs.SwitchViews.{SwitchView}
use Rattle.pl_manager_rule.specs.WholeRule.{gathered}
use Rattle.pl_law_control_plane.specs.ControlPlanes.{ControlPlane}
use Rattle.pl_law_due.specs.Due.{due_plane, is_silent, read}
use Rattle.pl_law_pods.specs.Apart.{NumbersApart}
use Rattle.pl_law_pods.specs.Pods.{IsPodGiven, id_of}
use Rattle.pl_law_pods.specs.Ways.{HaveOneWay, own_pod}

-- the pods that edge switches with position 0 know, by switch
abbrev pub own_pods : (ℕ → SwitchView) → ℕ → Option ℕ
own_pods view s = own_pod (view s).place

-- a number was given to an edge switch with position 0, and is below the number of pods
pub record IsGivenPod (plan : Plan) (view : ℕ → SwitchView) (given : PodGiven) : Type 0 where
  pub switch : ℕ
  pub named : slice_get plan.ids switch ≡ Some given.switch
  pub position : (view switch).place.position ≡ Some 0
  pub below : given.pod < plan.k

-- a place that was told has no other pod than its switch
pub record IsToldPlace (plan : Plan) (view : ℕ → SwitchView) (told : SwitchId × Place) : Type 0 where
  pub switch : ℕ
  pub named : slice_get plan.ids switch ≡ Some told.0
  pub pod : (n : ℕ) → told.1.pod ≡ Some n → (view switch).place.pod ≡ Some n

-- What the manager gave and was told, while no report is missing: each switch was given one number at most, and no number is of two switches, whether they
-- know it or were given it.
pub record GivesApart (plan : Plan) (view : ℕ → SwitchView) (told : Told) (pods : List PodGiven) : Type 0 where
  pub apart : NumbersApart (id_of plan) (own_pods view) told pods
  pub once : IsDistinct same_switch (map (λ g. g.switch) pods)
  pub given : AllByRecursion (IsGivenPod plan view) pods
  pub places : AllByRecursion (IsToldPlace plan view) told.places

-- a switch that tells its wish has position 0, and the pod of a place that it tells is its own
abbrev pub IsWordOf : Place → ToManager → Type 0
IsWordOf place PodWanted = place.position ≡ Some 0
IsWordOf place (TellPlace told) = (n : ℕ) → told.pod ≡ Some n → place.pod ≡ Some n
IsWordOf place word = Unit {0}

-- a place that is told has this pod
abbrev pub IsPlaceWith : ℕ → ToManager → Type 0
IsPlaceWith n (TellPlace told) = told.pod ≡ Some n
IsPlaceWith n word = Unit {0}

-- What is due of a switch is true, and one that knows a number that it was not given in this epoch tells it in each place.
pub record IsTrulyDue (pods : List PodGiven) (id : SwitchId) (place : Place) (due : List ToManager) : Type 0 where
  pub words : AllByRecursion (IsWordOf place) due
  pub again : (n : ℕ) → own_pod place ≡ Some n → (pod_given pods id ≡ Some n) ⊎ AllByRecursion (IsPlaceWith n) due

-- and a number that waits for a switch is the one that it was given
pub record AreTrulyDue (f : ControlPlane) : Type 0 where
  pub said : (s : ℕ) → AllByRecursion (IsPodGiven f.manager.pods (id_of f.plan s)) (f.orders s)
  pub due : (s : ℕ) (id : SwitchId) → slice_get f.plan.ids s ≡ Some id → IsTrulyDue f.manager.pods id (f.view s).place (f.reports s)

-- While a report is missing: of the report of a switch its place comes first. It was kept before all else of the switch, or it is the next word that
-- waits, or it stands behind the `Begin`.
pub data PlaceComesFirst (epoch : ℕ) (begun ended : Bool) (kept queue : List ToManager) : Type 0 where
  WasKept : (place : Place) (rest : List ToManager) → kept ≡ TellPlace place ∷ rest → PlaceComesFirst epoch begun ended kept queue
  IsNext : (place : Place) (rest : List ToManager) → begun ≡ true → ended ≡ false → kept ≡ [] → queue ≡ TellPlace place ∷ rest →
      PlaceComesFirst epoch begun ended kept queue
  IsBehind : (place : Place) (old rest : List ToManager) → begun ≡ false → AllByRecursion (λ r. begins epoch r ≡ false) (read old) →
      queue ≡ old ++ Begin epoch ∷ TellPlace place ∷ rest → PlaceComesFirst epoch begun ended kept queue

-- of each switch that has heard that the manager began anew
abbrev pub PlacesComeFirst : ControlPlane → Type 0
PlacesComeFirst f = is_whole (gathered f.manager) ≡ false → (s : ℕ) (id : SwitchId) → slice_get f.plan.ids s ≡ Some id → is_silent f.orders s ≡ false →
    PlaceComesFirst f.manager.epoch (is_among id f.manager.begun) (is_among id f.manager.ended) (kept_of id f.manager.kept) (f.reports s)

-- The numbers of pods are in order, in each epoch of the manager.
pub record AreNumbered (f : ControlPlane) : Type 0 where
  -- an edge switch with position 0 that is not silent is on one way to the number of its pod, and any other switch on none
  pub ways : HaveOneWay (due_plane f)
  -- what is due is true of them
  pub truly : AreTrulyDue (due_plane f)
  -- no two such switches know one number, and each is below how many pods there are
  pub knowers : (s t n : ℕ) → own_pods f.view s ≡ Some n → own_pods f.view t ≡ Some n → s ≡ t
  pub below : (s n : ℕ) → own_pods f.view s ≡ Some n → n < f.plan.k
  -- those that the manager gives are apart from these, and from each other; before it may give one, each place comes first
  pub gives : is_whole (gathered f.manager) ≡ true → GivesApart f.plan f.view f.manager.told f.manager.pods
  pub first : PlacesComeFirst f
