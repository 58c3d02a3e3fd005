-- The location discovery message that a switch sends out of a port.
use Rattle.std.specs.Prelude.{ℕ, ◌&&◌, if◌then◌else◌, List}
use Rattle.pl_layouts.specs.declared.control.Control.TheVariants as control
use Rattle.pl_layouts.specs.Control.{control_frame}
use Rattle.pl_node.specs.PortRecords.{id_at, place_at}
use Rattle.pl_layouts.specs.Placement.{is_known}
use Rattle.pl_node.specs.SwitchViews.{SwitchView}

-- Which way the neighbour at a port lies: 1 up, 2 down, 0 unknown.
abbrev pub direction_of : SwitchView → ℕ → ℕ
direction_of v port =
    if is_known v.place.level 0 then 1
    else if is_known v.place.level 2 then 2
    else if is_known v.place.level 1 && is_known (place_at v port).level 2 then 1
    else if is_known v.place.level 1 && is_known (place_at v port).level 0 then 2
    else 0

-- the location discovery message out of a port: this switch's place, the direction, and the id last heard there
abbrev pub announcement : SwitchView → ℕ → List ℕ
announcement v port = control_frame (control.Ldm v.id (record { place = v.place; direction = direction_of v port; echo = id_at v port }))
