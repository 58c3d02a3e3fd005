-- How an edge switch with position 0 comes to the number of its pod: it asks the manager, the manager answers, and it knows the number.
use Rattle.std.specs.Prelude.{◌≡◌, ℕ, ◌+◌, Bool, true, false, if◌then◌else◌, List, length, Option, Some, None, is_some, slice_get}
use Rattle.std.specs.List.{filter}
use Rattle.pl_frame.specs.declared.address.SwitchId.{SwitchId}
use Rattle.pl_layouts.specs.declared.place.Place.{Place}
use Rattle.pl_layouts.specs.Placement.{is_known}
use Rattle.pl_node.specs.declared.messages.ToManager.{ToManager}
use Rattle.pl_node.specs.declared.messages.ToManager.TheVariants.{PodWanted}
use Rattle.pl_node.specs.declared.messages.ToSwitch.{ToSwitch}
use Rattle.pl_node.specs.declared.messages.ToSwitch.TheVariants.{Pod}
use Rattle.pl_law_control_plane.specs.ControlPlanes.{ControlPlane}
use Rattle.pl_law_due.specs.Due.{is_silent}

abbrev pub is_wish : ToManager → Bool
is_wish PodWanted = true
is_wish told = false

abbrev pub is_number : ToSwitch → Bool
is_number (Pod n) = true
is_number says = false

abbrev pub how_many : {X : Type 0} → (X → Bool) → List X → ℕ
how_many p xs = length (filter p xs)

abbrev pub one_if : Bool → ℕ
one_if true = 1
one_if false = 0

-- the pod that an edge switch with position 0 knows; the other switches of its pod have it from this one
abbrev pub own_pod : Place → Option ℕ
own_pod place = if is_known place.position 0 then place.pod else None

-- On how many ways a switch is to the number of its pod: its wish is due, the number waits for it, or it knows it.
abbrev pub ways : Place → List ToManager → List ToSwitch → ℕ
ways place due orders = how_many is_wish due + how_many is_number orders + one_if (is_some (own_pod place))

-- an edge switch with position 0 is on one, and any other switch on none
abbrev pub HasOneWay : Place → List ToManager → List ToSwitch → Type 0
HasOneWay place due orders = ways place due orders ≡ one_if (is_known place.position 0)

-- of each switch that is not silent, by what is due of it
abbrev pub HaveOneWay : ControlPlane → Type 0
HaveOneWay f = (s : ℕ) (id : SwitchId) → slice_get f.plan.ids s ≡ Some id → is_silent f.orders s ≡ false →
    HasOneWay (f.view s).place (f.reports s) (f.orders s)
