-- What the journal says of addresses is what the switches granted and the fabric manager registered.
use Rattle.std.specs.Prelude.{◌≡◌, ◌≤◌, ◌<◌, ℕ, ◌^◌, true, List, [], ◌∷◌, length, reverse, Some, slice_get}
use Rattle.std.specs.List.{AllByRecursion}
use Rattle.pl_frame.specs.declared.address.Mac.{Mac}
use Rattle.pl_pmac.specs.declared.pmac.Pmac.{Pmac}
use Rattle.pl_pmac.specs.Pmac.{PmacFits, pmac_number}
use Rattle.pl_wiring.specs.declared.link.Peer.TheVariants.{HostPort}
use Rattle.pl_wiring.specs.Peers.{peer_of}
use Rattle.pl_wiring.specs.Plan.{Plan}
use Rattle.pl_journal.specs.declared.entry.Entry.{Entry}
use Rattle.pl_journal.specs.declared.entry.Entry.TheVariants.{Freed, Granted, Moved, Registered}
use Rattle.pl_journal.specs.Places.{EdgePort, at_port, granted_at, has_stood, highest, holder, is_live, number, edge_port}
use Rattle.pl_node.specs.AddressUses.{is_held, is_in_use}
use Rattle.pl_node.specs.declared.switch_records.Grant.{Grant}
use Rattle.pl_node.specs.declared.switch_records.Source.{Source}
use Rattle.pl_node.specs.ManagerViews.{Learnt, Registration, registration}
use Rattle.pl_node.specs.SwitchViews.{SwitchView}
use Rattle.pl_switch_rule.specs.Granting.{granted, grants_at, is_local, remembered_at}
use Rattle.pl_world.specs.declared.attachment.AttachmentPoint.{AttachmentPoint}
use Rattle.pl_world.specs.Changes.{host_of}
use Rattle.pl_world.specs.Worlds.{WorldView}

-- the entries that grant, free or register an address, or move a host; the newest stands first
abbrev pub ledger : List Entry → List Entry
ledger [] = []
ledger (Granted x h e p ∷ past) = Granted x h e p ∷ ledger past
ledger (Freed x ∷ past) = Freed x ∷ ledger past
ledger (Registered x n ∷ past) = Registered x n ∷ ledger past
ledger (Moved h e p ∷ past) = Moved h e p ∷ ledger past
ledger (entry ∷ past) = ledger past

-- the host of an actual address stands or has stood at a port for hosts
pub record HasStoodThere (plan : Plan) (entries : List Entry) (mac : Mac) (there : EdgePort) : Type 0 where
  pub host : ℕ
  pub of_mac : host_of plan mac ≡ Some host
  pub stood : has_stood plan entries host there ≡ true
  pub for_hosts : peer_of plan there.edge there.port ≡ HostPort

-- an address that switch s granted is written down: to whom, and where, and whether it is free
pub record IsEntered (plan : Plan) (entries : List Entry) (s : ℕ) (x : Pmac) (g : Grant) : Type 0 where
  pub host : ℕ
  pub of_mac : host_of plan g.amac ≡ Some host
  pub held : holder entries (pmac_number x) ≡ Some host
  pub live : is_live entries (pmac_number x) ≡ is_held g.held
  pub there : edge_port entries (pmac_number x) ≡ Some (at_port s x.port)
  pub for_hosts : peer_of plan s x.port ≡ HostPort

-- an address that is written down as granted at a port is granted there
pub record IsGrantedThere (switches : List SwitchView) (x : Pmac) (s port : ℕ) : Type 0 where
  pub view : SwitchView
  pub grant : Grant
  pub found : slice_get switches s ≡ Some view
  pub is : granted view x ≡ Some grant
  pub port_is : port ≡ x.port

abbrev pub IsBacked : List SwitchView → Entry → Type 0
IsBacked switches (Granted x h e p) = IsGrantedThere switches x e.0 p
IsBacked switches entry = Unit {0}

pub record AreEntered (plan : Plan) (learnt : Learnt) (switches : List SwitchView) (attachments : List AttachmentPoint) (entries : List Entry) : Type 0 where
  -- each address that a switch granted is written down, and each one that is written down is granted
  pub grants : (s : ℕ) (v : SwitchView) (x : Pmac) (g : Grant) → slice_get switches s ≡ Some v → granted v x ≡ Some g → IsEntered plan entries s x g
  pub backed : AllByRecursion (IsBacked switches) entries
  -- the address that a host has in use at a port is the last that was granted to it there
  pub last : (s : ℕ) (v : SwitchView) (x : Pmac) (g : Grant) (h : ℕ) → slice_get switches s ≡ Some v → granted v x ≡ Some g → is_in_use g.held ≡ true →
      host_of plan g.amac ≡ Some h → granted_at entries h (at_port s x.port) ≡ Some x
  -- no port has more than 65,535 addresses
  pub few : (s : ℕ) (v : SwitchView) (port : ℕ) → slice_get switches s ≡ Some v → length (grants_at v port) ≤ 65535
  -- each source that a switch remembers at a port is a host's that has stood there
  pub sources : (s : ℕ) (v : SwitchView) (port : ℕ) (source : Source) → slice_get switches s ≡ Some v → remembered_at v port ≡ Some source →
      HasStoodThere plan entries source.amac (at_port s port)
  -- where a host stands is written down
  pub standing : (h : ℕ) (attachment : AttachmentPoint) → slice_get attachments h ≡ Some attachment → has_stood plan entries h (at_port attachment.edge.0 attachment.port) ≡ true
  -- a registered address has its number there
  pub numbers : (x : Pmac) (reg : Registration) → PmacFits x → registration learnt x ≡ Some reg → number entries (pmac_number x) ≡ Some reg.number
  -- an address with a number was granted
  pub numbered : (n m : ℕ) → number entries n ≡ Some m → (h : ℕ) × (holder entries n ≡ Some h)
  -- no number is above the last one that the manager gave
  pub most : highest entries ≤ learnt.count

-- So it is in a world.
abbrev pub IsLedger : WorldView → Type 0
IsLedger w = AreEntered w.plan w.manager.learnt w.switches w.attachments (ledger (reverse w.journal))

-- The numbers of an epoch are above those of all epochs before, since fewer steps are made than an epoch has numbers: so much is asked of a world's limit,
-- and each fabric that starts has one like that.
abbrev pub WhereNumbersSuffice : (WorldView → Type 0) → WorldView → Type 0
WhereNumbersSuffice Holds w = w.limits.steps ≤ 4000000000 → Holds w

-- What is needed of other parts: pods and positions of placed edge switches are numbers of one byte.
pub record IsOfOneByteEach (x : Pmac) : Type 0 where
  pub pod : x.pod < 2 ^ 8
  pub position : x.position < 2 ^ 8

abbrev pub AreInBounds : List SwitchView → Type 0
AreInBounds switches = (s : ℕ) (v : SwitchView) (x : Pmac) → slice_get switches s ≡ Some v → is_local v x ≡ true → IsOfOneByteEach x
