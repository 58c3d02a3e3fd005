-- How many items are stale in the queue out of each port.
use Rattle.std.specs.Prelude.{◌≡◌, ◌<◌, ℕ, ◌&&◌, not, if◌then◌else◌, Bool, false, bytes_eq, List, length, Option, slice_get, slice_index_or}
use Rattle.pl_wiring.specs.Index.{port_index}
use Rattle.pl_layouts.specs.declared.control.Control.TheVariants as control
use Rattle.pl_layouts.specs.Control.{control_frame}
use Rattle.pl_layouts.specs.Placement.{is_known}
use Rattle.pl_node.specs.Announcements.{direction_of}
use Rattle.pl_node.specs.PortRecords.{id_at, port_of}
use Rattle.pl_node.specs.SwitchViews.{SwitchView}
use Rattle.pl_queues.specs.Queues.{items_at}
use Rattle.pl_world.specs.declared.item.Item.{Item}
use Rattle.pl_world.specs.declared.item.Item.TheVariants.{Control, Data}
use Rattle.pl_world.specs.Pending.{SwitchesView, stale_in}
use Rattle.pl_world_parts.specs.declared.said.Said.{Said}

-- which way a neighbour of this level lies from a switch of that one
abbrev pub direction_by : Option ℕ → Option ℕ → ℕ
direction_by level heard =
    if is_known level 0 then 1
    else if is_known level 2 then 2
    else if is_known level 1 && is_known heard 2 then 1
    else if is_known level 1 && is_known heard 0 then 2
    else 0

-- what a switch announces out of a port
abbrev pub said_at : SwitchView → ℕ → Said
said_at v port = record {
  host = (port_of v port).host;
  id = v.id;
  ldm = record { place = v.place; direction = direction_of v port; echo = id_at v port };
}

-- an item is stale where that is announced
unfoldable pub is_stale_under : Said → Item → Bool
is_stale_under said (Control frame) = not (not said.host && bytes_eq frame (control_frame (control.Ldm said.id said.ldm)))
is_stale_under said (Data id frame) = false

-- a number is kept for each port that is how many items are stale there
pub record KeepsEach (f : SwitchesView) (counts : List ℕ) : Type 0 where
  pub many : length counts ≡ length f.out
  pub are : (s port : ℕ) → port < f.k →
      slice_index_or counts (port_index f.k s port) 0 ≡ stale_in (slice_get f.switches s) port (items_at f.out (port_index f.k s port))
