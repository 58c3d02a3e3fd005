-- What the way of frames needs of the other parts: that what switches know of places is so.
use Rattle.std.specs.Prelude.{◌≡◌, ◌<◌, ◌^◌, ℕ, true, false, Contains, List, [], length, None, Some, reverse, slice_get, ◌&&◌}
use Rattle.pl_wiring.specs.declared.label.Label.TheVariants.{Aggregation, Edge}
use Rattle.pl_wiring.specs.declared.label.SwitchNo.{SwitchNo}
use Rattle.pl_frame.specs.declared.address.Mac.{Mac}
use Rattle.pl_frame.specs.Ethernet.{source_of}
use Rattle.pl_pmac.specs.declared.pmac.Pmac.{Pmac}
use Rattle.pl_pmac.specs.Pmac.{PmacFits, mac_of, pmac_number}
use Rattle.pl_wiring.specs.declared.link.Peer.TheVariants.{HostPort, Switch}
use Rattle.pl_wiring.specs.Labels.{label_of}
use Rattle.pl_wiring.specs.Peers.{peer_of}
use Rattle.pl_wiring.specs.Plan.{Plan}
use Rattle.pl_layouts.specs.declared.place.Place.{Place}
use Rattle.pl_journal.specs.Flights.{level_of}
use Rattle.pl_layouts.specs.Memberships.{is_group}
use Rattle.pl_journal.specs.Lossy.{IsNewer, mac_of_host}
use Rattle.pl_journal.specs.declared.entry.Entry.{Entry}
use Rattle.pl_journal.specs.Places.{at_port, granted_at, has_stood, is_host_port, is_of_edge, is_spent, EdgePort, are_live_there, is_live, edge_port}
use Rattle.pl_node.specs.declared.switch_records.Grant.{Grant}
use Rattle.pl_node.specs.declared.switch_records.Source.{Source}
use Rattle.pl_node.specs.declared.trap.Trap.{Trap}
use Rattle.pl_node.specs.PortRecords.{is_open_to_hosts, is_usable, place_at, port_of}
use Rattle.pl_node.specs.SwitchViews.{SwitchView}
use Rattle.pl_queues.specs.Queues.{items_at}
use Rattle.pl_world.specs.declared.item.Item.TheVariants.{Data}
use Rattle.pl_world.specs.declared.attachment.AttachmentPoint.{AttachmentPoint}
use Rattle.pl_world.specs.Changes.{host_of, out_of}
use Rattle.pl_world.specs.Worlds.{WorldView}
use Rattle.pl_switch_rule.specs.Delivering.{trap_for}
use Rattle.pl_switch_rule.specs.Granting.{address_at_port, freed_at, granted, grants_at, held_here, in_use, is_local, is_port_spent, next_vmid, remembered_at}
use Rattle.pl_law_addresses.specs.EdgeAddresses.{is_settled}
use Rattle.pl_law_flights.specs.OnTheWay.{AddressHistory, history_of, place_in}

-- a known level is the label's, and an edge and an aggregation switch of one pod that both know a pod know the same
pub record KnowsPlaces (k : ℕ) (place : ℕ → Place) : Type 0 where
  pub level : (s n : ℕ) → (place s).level ≡ Some n → level_of k s ≡ n
  pub one_pod : (s t p i j x y : ℕ) → label_of k s ≡ Edge p i → label_of k t ≡ Aggregation p j → (place s).pod ≡ Some x → (place t).pod ≡ Some y → x ≡ y

-- What switch t knows of its own place is so, and what it knows of a neighbour's place is what the neighbour knows. A usable port has a link.
pub record KnowsNeighbours (plan : Plan) (place : ℕ → Place) (t : ℕ) (v : SwitchView) : Type 0 where
  pub own : v.place ≡ place t
  pub level : (q : ℕ) (s : SwitchNo) (p n : ℕ) → peer_of plan t q ≡ Switch s p → (place_at v q).level ≡ Some n → (place s.0).level ≡ Some n
  pub position : (q : ℕ) (s : SwitchNo) (p n : ℕ) → peer_of plan t q ≡ Switch s p → (place_at v q).position ≡ Some n → (place s.0).position ≡ Some n
  pub pod : (q : ℕ) (s : SwitchNo) (p n : ℕ) → peer_of plan t q ≡ Switch s p → (place_at v q).pod ≡ Some n → (place s.0).pod ≡ Some n
  pub linked : (q : ℕ) → is_usable v q ≡ true → is_host_port (peer_of plan t q) ≡ false

-- what was known of places is known later
pub record IsMore (place later : ℕ → Place) : Type 0 where
  pub level : (s n : ℕ) → (place s).level ≡ Some n → (later s).level ≡ Some n
  pub position : (s n : ℕ) → (place s).position ≡ Some n → (later s).position ≡ Some n
  pub pod : (s n : ℕ) → (place s).pod ≡ Some n → (later s).pod ≡ Some n

-- What the edge switch t knows of an address that it granted, and that may be free since: it was granted there.
pub record WasGranted (history : AddressHistory) (t : ℕ) (x : Pmac) : Type 0 where
  pub there : history.edge_ports (pmac_number x) ≡ Some (at_port t x.port)
  pub fits : PmacFits x
  pub own : is_group (mac_of x) ≡ false

-- And of one that is not free: who holds it, and that it was granted there, at a port for hosts.
pub record IsGranted (plan : Plan) (history : AddressHistory) (t : ℕ) (x : Pmac) (grant : Grant) : Type 0 where
  pub host : ℕ
  pub held : history.hold (pmac_number x) ≡ Some host
  pub there : history.edge_ports (pmac_number x) ≡ Some (at_port t x.port)
  pub mac : mac_of_host plan host ≡ Some grant.amac
  pub six : length grant.amac.0 ≡ 6
  pub unicast : is_group grant.amac ≡ false
  pub for_hosts : peer_of plan t x.port ≡ HostPort
  pub fits : PmacFits x
  pub own : is_group (mac_of x) ≡ false

-- a trap leads to a newer address of the same host, which is an address of one host
pub record TrapLeadsOn (history : AddressHistory) (x : Pmac) (trap : Trap) : Type 0 where
  pub same_host : history.hold (pmac_number trap.new) ≡ history.hold (pmac_number x)
  pub newer : IsNewer (history.numbers (pmac_number x)) (history.numbers (pmac_number trap.new))
  pub fits : PmacFits trap.new
  pub unicast : is_group (mac_of trap.new) ≡ false

-- What a switch knows of the addresses with its pod and position: those that it granted and that are not free, and that nobody holds another.
pub record KnowsAddresses (plan : Plan) (history : AddressHistory) (t : ℕ) (v : SwitchView) : Type 0 where
  pub granted_there : (x : Pmac) (grant : Grant) → granted v x ≡ Some grant → WasGranted history t x
  pub granted_here : (x : Pmac) (grant : Grant) → held_here v x ≡ Some grant → IsGranted plan history t x grant
  pub not_granted : (x : Pmac) → PmacFits x → is_local v x ≡ true → held_here v x ≡ None → history.hold (pmac_number x) ≡ None
  pub trapped : (x : Pmac) (trap : Trap) → trap_for v x ≡ Some trap → TrapLeadsOn history x trap
  pub pods : (n : ℕ) → v.place.pod ≡ Some n → n < 2 ^ 16
  pub back : (x : Pmac) (port : ℕ) → PmacFits x → history.edge_ports (pmac_number x) ≡ Some (at_port t port) → (is_local v x ≡ true) × (x.port ≡ port)

-- an address that may be granted next at the edge switch t
pub record IsNextAddress (past : List Entry) (t : ℕ) (x : Pmac) : Type 0 where
  pub fresh : is_live past (pmac_number x) ≡ false
  pub again : (at : EdgePort) → edge_port past (pmac_number x) ≡ Some at → at ≡ at_port t x.port
  pub edge : is_of_edge past x t ≡ true
  pub fits : PmacFits x
  pub own : is_group (mac_of x) ≡ false

-- What a switch knows of the hosts at its ports: at a port without a link nothing was heard, an edge switch alone has a position, the address
-- that a host has in use at a port is the one that it was granted last there, and the next one may be granted.
pub record KnowsHosts (plan : Plan) (past : List Entry) (t : ℕ) (v : SwitchView) : Type 0 where
  pub unheard : (port : ℕ) → peer_of plan t port ≡ HostPort → is_open_to_hosts (port_of v port) ≡ true
  pub positions : (n : ℕ) → v.place.position ≡ Some n → v.place.level ≡ Some 0
  pub tables : length v.grants ≡ v.k
  pub used : (port vmid h : ℕ) (amac : Mac) → is_settled v.place ≡ true → in_use (grants_at v port) amac ≡ Some vmid → mac_of_host plan h ≡ Some amac →
      granted_at past h (at_port t port) ≡ Some (address_at_port v port vmid)
  pub spent : (port : ℕ) → is_settled v.place ≡ true → is_port_spent v port ≡ true → (is_spent past (at_port t port) && are_live_there (is_live past) past (at_port t port)) ≡ true
  pub empty : is_settled v.place ≡ false → (port : ℕ) → grants_at v port ≡ []
  pub stood : (port h : ℕ) (source : Source) → remembered_at v port ≡ Some source → host_of plan source.amac ≡ Some h → has_stood plan past h (at_port t port) ≡ true
  pub next : (port vmid : ℕ) → peer_of plan t port ≡ HostPort → port < plan.k → is_settled v.place ≡ true →
      next_vmid (freed_at v port) (grants_at v port) ≡ Some vmid → IsNextAddress past t (address_at_port v port vmid)

-- Each switch knows so, hosts stand at ports without links, and what waits in the queue of a host has its address as source.
pub record StandsOnHosts (w : WorldView) : Type 0 where
  pub hosts : (t : ℕ) (v : SwitchView) → slice_get w.switches t ≡ Some v → KnowsHosts w.plan (reverse w.journal) t v
  pub at_ports : (h : ℕ) (attachment : AttachmentPoint) → slice_get w.attachments h ≡ Some attachment → (peer_of w.plan attachment.edge.0 attachment.port ≡ HostPort) × (attachment.port < w.plan.k)
  pub own : (h id : ℕ) (frame : List ℕ) → Contains (items_at w.from_hosts h) (Data id frame) → mac_of_host w.plan h ≡ Some (source_of frame)

-- Of two worlds, one after the other: where a switch has become a placed edge switch, the first address of each port could be granted before.
abbrev pub FirstAddresses : WorldView → WorldView → Type 0
FirstAddresses w new = (t : ℕ) (before after : SwitchView) → slice_get w.switches t ≡ Some before → slice_get new.switches t ≡ Some after →
    is_settled before.place ≡ false → is_settled after.place ≡ true → (port : ℕ) → port < w.plan.k →
    IsNextAddress (reverse w.journal) t (address_at_port after port 1)

-- What switches know of places and addresses is so, and a port at which a data frame comes from a link is no port for hosts.
pub record StandsOn (w : WorldView) : Type 0 where
  pub places : KnowsPlaces w.plan.k (place_in w.switches)
  pub neighbours : (t : ℕ) (v : SwitchView) → slice_get w.switches t ≡ Some v → KnowsNeighbours w.plan (place_in w.switches) t v
  pub addresses : (t : ℕ) (v : SwitchView) → slice_get w.switches t ≡ Some v → KnowsAddresses w.plan (history_of (reverse w.journal)) t v
  pub evidence : (s port : ℕ) (t : SwitchNo) (q id : ℕ) (frame : List ℕ) (v : SwitchView) → peer_of w.plan s port ≡ Switch t q →
      Contains (out_of w s port) (Data id frame) → slice_get w.switches t.0 ≡ Some v → is_open_to_hosts (port_of v q) ≡ false
