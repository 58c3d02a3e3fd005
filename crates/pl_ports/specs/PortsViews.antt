-- What a switch knows of itself and of its ports: a part of all that it knows.
use Rattle.std.specs.Prelude.{ℕ, List}
use Rattle.pl_frame.specs.declared.address.SwitchId.{SwitchId}
use Rattle.pl_layouts.specs.declared.place.Place.{Place}
use Rattle.pl_node.specs.declared.neighbour.PortRecord.{PortRecord}
use Rattle.pl_node.specs.SwitchFacts.{switch_at_boot}
use Rattle.pl_node.specs.SwitchViews.{SwitchView}

pub record PortsView : Type 0 where
  pub id : SwitchId
  pub k : ℕ
  pub place : Place
  -- one for each port
  pub ports : List PortRecord

-- what a switch knows, with this part of it put in
abbrev pub put_ports : PortsView → SwitchView → SwitchView
put_ports p v = record v { id = p.id; k = p.k; place = p.place; ports = p.ports }

-- a switch that knows this, and else what it knew at its start
abbrev pub ports_alone : PortsView → SwitchView
ports_alone p = put_ports p (switch_at_boot p.id p.k)
