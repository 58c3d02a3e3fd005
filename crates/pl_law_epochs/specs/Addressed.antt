-- The addresses of a whole fabric in any epoch of the manager, by what is due.
use Rattle.std.specs.Prelude.{◌≡◌, ℕ, ◌==◌, ◌&&◌, Bool, true, false, List, map, Option, Some, slice_get}
use Rattle.std.specs.List.{IsDistinct}
use Rattle.pl_frame.specs.declared.address.Ip4.{Ip4}
use Rattle.pl_frame.specs.declared.address.Mac.{Mac}
use Rattle.pl_frame.specs.declared.address.SwitchId.{SwitchId}
use Rattle.pl_frame.specs.Ethernet.{source_of}
use Rattle.pl_pmac.specs.declared.pmac.Pmac.{Pmac}
use Rattle.pl_layouts.specs.Equality.{same_pmac}
use Rattle.pl_wiring.specs.Plan.{Plan}
use Rattle.pl_node.specs.declared.messages.ToManager.{ToManager}
use Rattle.pl_node.specs.declared.messages.ToManager.TheVariants as tell
use Rattle.pl_node.specs.declared.messages.ToSwitch.{ToSwitch}
use Rattle.pl_node.specs.ManagerDuties.{ManagerRule}
use Rattle.pl_node.specs.ManagerViews.{ManagerView, Recall, Reported}
use Rattle.pl_node.specs.PortRecords.{is_open_to_hosts, port_of}
use Rattle.pl_node.specs.SwitchInputs.{SwitchRule}
use Rattle.pl_node.specs.SwitchViews.{SwitchView}
use Rattle.pl_manager_rule.specs.Repeats.{AreAlone}
use Rattle.pl_manager_rule.specs.Reports.{known_at}
use Rattle.pl_switch_rule.specs.Granting.{granted, is_local, sender_ip}
use Rattle.pl_law_control_plane.specs.ControlPlanes.{ControlPlane}
use Rattle.pl_law_control_plane.specs.PlaneSteps.{ComeSo, PlaneStep}
use Rattle.pl_law_due.specs.DueSteps.{ComeSoDue, DueStep}
use Rattle.pl_law_addresses.specs.OwnAddresses.{IsOwnIp}
use Rattle.pl_law_addresses.specs.EdgeAddresses.{IsGoodAddressTable, IsHeldFor, edge_of}
use Rattle.pl_law_epochs.specs.Edges.{IsGoodEdge, IsGoodRegistry, registry_of}

-- some switch of the wiring has the place of this address
pub record HasHome (plan : Plan) (view : ℕ → SwitchView) (x : Pmac) : Type 0 where
  pub switch : ℕ
  pub id : SwitchId
  pub named : slice_get plan.ids switch ≡ Some id
  pub at : is_local (view switch) x ≡ true

-- The registry is in order, so is each switch with what is due of it and ordered, and what is known of an address is of the place of some switch.
pub record AreInOrder (own : Mac → Option Ip4) (plan : Plan) (view : ℕ → SwitchView) (due : ℕ → List ToManager) (orders : ℕ → List ToSwitch) (manager : ManagerView) : Type 0 where
  pub registry : IsGoodRegistry own (registry_of manager)
  pub edges : (s : ℕ) (id : SwitchId) → slice_get plan.ids s ≡ Some id → IsGoodEdge own (registry_of manager) (edge_of (Some id) (view s) (due s) (orders s))
  pub tables : (s : ℕ) (id : SwitchId) → slice_get plan.ids s ≡ Some id → IsGoodAddressTable own (view s)
  pub homed : (x : Pmac) (known : Reported) → known_at manager.learnt x ≡ Some known → HasHome plan view x
  -- of each address there is one registration, and of each host at most one that leads nowhere
  pub once : IsDistinct same_pmac (map (λ a. a.pmac) manager.learnt.addresses)
  pub alone : (mac : Mac) → AreAlone mac manager.learnt.addresses

-- of a control plane in which the reports are what is due
abbrev pub AreAddressed : (Mac → Option Ip4) → ControlPlane → Type 0
AreAddressed own f = AreInOrder own f.plan f.view f.reports f.orders f.manager

-- no two placed edge switches have one pod and one position
abbrev pub AreApart : (ℕ → SwitchView) → Type 0
AreApart view = (s t : ℕ) (x : Pmac) → is_local (view s) x ≡ true → is_local (view t) x ≡ true → s ≡ t

-- What comes in is fair: a frame of a host gives the host's own IPv4 address, and no switch takes another switch for a host.
abbrev pub BringsOwn : (Mac → Option Ip4) → SwitchView → ℕ → List ℕ → Type 0
BringsOwn own v port frame = IsOwnIp own (source_of frame) (sender_ip frame)

abbrev pub ComesFromSwitch : SwitchView → ℕ → List ℕ → Type 0
ComesFromSwitch v port frame = is_open_to_hosts (port_of v port) ≡ false

abbrev pub IsFair : (own : Mac → Option Ip4) (switch : SwitchRule) (manager : ManagerRule) (f g : ControlPlane) → PlaneStep switch manager f g → Type 0
IsFair own switch manager f g step = ComeSo (λ v port frame. BringsOwn own v port frame) (λ v port frame. ComesFromSwitch v port frame) switch manager f g step

abbrev pub IsFairDue : (own : Mac → Option Ip4) (switch : SwitchRule) (f g : ControlPlane) → DueStep switch f g → Type 0
IsFairDue own switch f g step = ComeSoDue (λ v port frame. BringsOwn own v port frame) (λ v port frame. ComesFromSwitch v port frame) switch f g step

-- some switch of the wiring, which told it first, has granted an address to this host, and it is not free
pub record IsGrantedBySome (f : ControlPlane) (x : Pmac) (mac : Mac) (teller : SwitchId) : Type 0 where
  pub switch : ℕ
  pub named : slice_get f.plan.ids switch ≡ Some teller
  pub granted_to : IsHeldFor (λ y. granted (f.view switch) y) x mac

-- a word says that a trap stands for an address, and leads there
abbrev pub says_trap : Pmac → Recall → ToManager → Bool
says_trap x to (tell.Trapped old new number) = same_pmac old x && (same_pmac new to.new && (number == to.number))
says_trap x to says = false
