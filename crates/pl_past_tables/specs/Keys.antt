-- The keys of the tables.
use Rattle.std.specs.Prelude.{ℕ, ◌==◌, ◌&&◌, Bool}
use Rattle.pl_wiring.specs.declared.label.SwitchNo.{SwitchNo}
use Rattle.pl_wiring.specs.declared.host.HostNo.{HostNo}
use Rattle.pl_pmac.specs.declared.pmac.Pmac.{Pmac}
use Rattle.pl_journal.specs.Places.{EdgePort, at_port}
use Rattle.pl_past_tables.specs.declared.keys.Point.{Point}
use Rattle.pl_past_tables.specs.declared.keys.Stay.{Stay}
use Rattle.pl_past_tables.specs.declared.keys.PodPosition.{PodPosition}
use Rattle.pl_past_tables.specs.declared.keys.Ends.{Ends}
use Rattle.pl_past_tables.specs.declared.keys.Arrival.{Arrival}
use Rattle.pl_past_tables.specs.declared.keys.Member.{Member}
use Rattle.pl_past_tables.specs.declared.keys.Term.{Term}

abbrev pub edge_port_at : Point → EdgePort
edge_port_at p = at_port p.edge.0 p.port

abbrev pub point : SwitchNo → ℕ → Point
point edge port = record { edge = edge; port = port }

abbrev pub same_point : Point → Point → Bool
same_point a b = (a.edge.0 == b.edge.0) && (a.port == b.port)

abbrev pub same_stay : Stay → Stay → Bool
same_stay a b = (a.host.0 == b.host.0) && same_point a.point b.point

abbrev pub pod_position : Pmac → PodPosition
pod_position x = record { pod = x.pod; position = x.position }

abbrev pub same_pod_position : PodPosition → PodPosition → Bool
same_pod_position a b = (a.pod == b.pod) && (a.position == b.position)

abbrev pub same_link : Ends → Ends → Bool
same_link a b = (a.lower.0 == b.lower.0) && (a.upper.0 == b.upper.0)

abbrev pub same_arrival : Arrival → Arrival → Bool
same_arrival a b = (a.root == b.root) && same_point a.point b.point

abbrev pub same_member : Member → Member → Bool
same_member a b = (a.host.0 == b.host.0) && (a.group == b.group)

abbrev pub same_term : Term → Term → Bool
same_term a b = (a.address == b.address) && (a.place == b.place)

abbrev pub same_host : HostNo → HostNo → Bool
same_host a b = a.0 == b.0

abbrev pub same_switch : SwitchNo → SwitchNo → Bool
same_switch a b = a.0 == b.0
