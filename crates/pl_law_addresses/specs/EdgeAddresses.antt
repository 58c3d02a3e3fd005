-- The addresses that one edge switch granted, and what waits between it and the fabric manager.
use Rattle.std.specs.Prelude.{◌≡◌, ℕ, ◌&&◌, Bool, true, false, List, length, Option, Some, None, [], is_some, option_map}
use Rattle.pl_frame.specs.declared.address.Ip4.{Ip4}
use Rattle.pl_frame.specs.declared.address.Mac.{Mac}
use Rattle.pl_frame.specs.declared.address.SwitchId.{SwitchId}
use Rattle.pl_pmac.specs.declared.pmac.Pmac.{Pmac}
use Rattle.pl_layouts.specs.declared.place.Place.{Place}
use Rattle.pl_layouts.specs.Equality.{same_pmac}
use Rattle.pl_layouts.specs.Placement.{is_known, is_placed}
use Rattle.pl_node.specs.AddressUses.{is_held as is_somebodys}
use Rattle.pl_node.specs.declared.address_use.AddressUse.{AddressUse}
use Rattle.pl_node.specs.declared.messages.ToManager.{ToManager}
use Rattle.pl_node.specs.declared.messages.ToManager.TheVariants as tell
use Rattle.pl_node.specs.declared.messages.ToSwitch.{ToSwitch}
use Rattle.pl_node.specs.declared.messages.ToSwitch.TheVariants as say
use Rattle.pl_node.specs.declared.switch_records.Grant.{Grant}
use Rattle.pl_node.specs.declared.switch_records.Source.{Source}
use Rattle.pl_node.specs.SwitchViews.{SwitchView}
use Rattle.pl_switch_rule.specs.Granting.{freed_at, granted, grants_at, is_local, remembered_at}
use Rattle.pl_law_addresses.specs.FreeVmids.{AreFreeVmids}
use Rattle.pl_law_addresses.specs.OwnAddresses.{IsOwnIp}

-- granted, and not free
abbrev pub is_held : Option AddressUse → Bool
is_held None = false
is_held (Some held) = is_somebodys held

-- an address is live at an edge switch from its grant there until it is freed
abbrev pub is_live : SwitchView → Pmac → Bool
is_live v x = is_held (option_map (λ g. g.held) (granted v x))

-- an edge switch that is placed
abbrev pub is_settled : Place → Bool
is_settled place = is_known place.level 0 && is_placed place

-- a message tells the manager this address, or an IPv4 address with it
abbrev pub tells : Pmac → ToManager → Bool
tells x (tell.Learned pmac amac ip) = same_pmac pmac x
tells x says = false

abbrev pub tells_ip : Pmac → ToManager → Bool
tells_ip x (tell.Learned pmac amac ip) = is_some ip && same_pmac pmac x
tells_ip x says = false

-- a message of the manager says that an address has a newer one
abbrev pub recalls : Pmac → ToSwitch → Bool
recalls x (say.Invalidate old new number ip) = same_pmac old x
recalls x says = false

-- Of an edge switch: its id in the wiring, the addresses of its place, what it granted, and what waits to the manager and from it.
pub record Edge : Type 0 where
  pub id : Option SwitchId
  pub at : Pmac → Bool
  pub granted : Pmac → Option Grant
  pub up : List ToManager
  pub down : List ToSwitch

abbrev pub edge_of : Option SwitchId → SwitchView → List ToManager → List ToSwitch → Edge
edge_of id v up down = record { id = id; at = λ x. is_local v x; granted = λ x. granted v x; up = up; down = down }

-- an address was granted to this host, and is not free: it is this host's
pub record IsHeldFor (granted : Pmac → Option Grant) (x : Pmac) (mac : Mac) : Type 0 where
  pub grant : Grant
  pub found : granted x ≡ Some grant
  pub held : is_held (Some grant.held) ≡ true
  pub to : grant.amac ≡ mac

-- or some host's
abbrev pub IsHeld : (Pmac → Option Grant) → Pmac → Type 0
IsHeld granted x = (mac : Mac) × IsHeldFor granted x mac

-- what is a host's stays so
abbrev pub KeepsHolders : (Pmac → Option Grant) → (Pmac → Option Grant) → Type 0
KeepsHolders f g = (x : Pmac) (mac : Mac) → IsHeldFor f x mac → IsHeldFor g x mac

-- a newer address is told of one that is somebody's here, with that host's own IPv4 address
pub record IsGoodRecall (own : Mac → Option Ip4) (granted : Pmac → Option Grant) (old : Pmac) (ip : Option Ip4) : Type 0 where
  pub mac : Mac
  pub granted_to : IsHeldFor granted old mac
  pub own_ip : IsOwnIp own mac ip

-- The lists of a switch: one of grants for each port, empty as long as the switch is no placed edge switch, and one of the vmids of its free
-- addresses; and of the sources that it remembers each has its own IPv4 address.
pub record IsGoodAddressTable (own : Mac → Option Ip4) (v : SwitchView) : Type 0 where
  pub many : length v.grants ≡ v.k
  pub many_freed : length v.freed ≡ v.k
  pub empty : is_settled v.place ≡ false → (port : ℕ) → grants_at v port ≡ []
  pub free : (port : ℕ) → AreFreeVmids (grants_at v port) (freed_at v port)
  pub sources : (port : ℕ) (source : Source) → remembered_at v port ≡ Some source → IsOwnIp own source.amac source.ip
