-- A switch as its rule sees it, by its parts, and how the parts agree.
use Rattle.std.specs.Prelude.{◌≡◌, ℕ, ◌&&◌, Bool, List, length, Option, is_some}
use Rattle.pl_frame.specs.declared.address.SwitchId.{SwitchId}
use Rattle.pl_layouts.specs.declared.place.Place.{Place}
use Rattle.pl_layouts.specs.Placement.{is_known, is_placed}
use Rattle.pl_node.specs.declared.messages.TreePart.{TreePart}
use Rattle.pl_node.specs.declared.switch_records.Hold.{Hold}
use Rattle.pl_node.specs.SwitchViews.{SwitchView}
use Rattle.pl_switch_rule.specs.Positions.{half}
use Rattle.pl_migrate.specs.AddressTables.{AddressTableView}
use Rattle.pl_position.specs.Candidacy.{Candidacy}
use Rattle.pl_position.specs.Holding.{AreHeldByIds}
use Rattle.pl_ports.specs.PortsViews.{PortsView}
use Rattle.pl_edge.specs.EdgeViews.{EdgeView, freed_by, grants_by, place_by, trapped_by, used_by}

abbrev pub state_view : PortsView → Candidacy → List (Option Hold) → EdgeView → List (SwitchId × ℕ × ℕ) → List (ℕ × TreePart) → ℕ → SwitchView
state_view ports candidacy holds edge avoid parts epoch = record {
  id = ports.id;
  k = ports.k;
  place = ports.place;
  ports = ports.ports;
  attempt = candidacy.attempt;
  proposed = candidacy.proposed;
  granted = candidacy.granted;
  holds = holds;
  grants = grants_by edge.address_table edge.k;
  used = used_by edge.address_table;
  trapped = trapped_by edge.address_table;
  freed = freed_by edge.address_table edge.k;
  remembered = edge.remembered;
  members = edge.members;
  avoid = avoid;
  parts = parts;
  epoch = epoch;
}

-- an edge switch that can forward frames
abbrev pub is_placed_edge : Place → Bool
is_placed_edge place = is_known place.level 0 && is_placed place

-- An edge switch has an address table exactly where it is placed, and it is the address table of that place.
pub record HasAddressTableAt (address_table : Option AddressTableView) (place : Place) : Type 0 where
  pub booked : is_some address_table ≡ is_placed_edge place
  pub at : place_by address_table place ≡ place

-- The parts are those of one switch.
pub record AreOfOne (ports : PortsView) (candidacy : Candidacy) (holds : List (Option Hold)) (edge : EdgeView) : Type 0 where
  pub hosts : edge.k ≡ ports.k
  pub votes : candidacy.k ≡ ports.k
  pub positions : length holds ≡ half ports.k
  pub holders : AreHeldByIds holds
  pub position : candidacy.position ≡ ports.place.position
  pub address_table : HasAddressTableAt edge.address_table ports.place
