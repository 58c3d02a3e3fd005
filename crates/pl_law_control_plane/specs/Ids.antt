-- Each switch has the id that the wiring gives it.
use Rattle.std.specs.Prelude.{◌≡◌, ℕ, Some, slice_get}
use Rattle.pl_frame.specs.declared.address.SwitchId.{SwitchId}
use Rattle.pl_law_control_plane.specs.ControlPlanes.{ControlPlane}

abbrev pub HasIds : ControlPlane → Type 0
HasIds f = (s : ℕ) (id : SwitchId) → slice_get f.plan.ids s ≡ Some id → (f.view s).id ≡ id
