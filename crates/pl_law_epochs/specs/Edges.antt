-- The addresses that one edge switch granted, in any epoch of the fabric manager, and what is due of it and ordered.
use Rattle.std.specs.Prelude.{◌≡◌, ◌⊎◌, ◌≤◌, ◌<◌, ℕ, ◌==◌, not, Bool, true, false, List, Option, Some, None, is_some}
use Rattle.std.specs.List.{AllByRecursion, list_any}
use Rattle.std.specs.Option.{option_and_then, option_map}
use Rattle.pl_frame.specs.declared.address.Ip4.{Ip4}
use Rattle.pl_frame.specs.declared.address.Mac.{Mac}
use Rattle.pl_pmac.specs.declared.pmac.Pmac.{Pmac}
use Rattle.pl_node.specs.declared.messages.ToManager.{ToManager}
use Rattle.pl_node.specs.declared.messages.ToManager.TheVariants as tell
use Rattle.pl_node.specs.declared.messages.ToSwitch.{ToSwitch}
use Rattle.pl_node.specs.declared.messages.ToSwitch.TheVariants as say
use Rattle.pl_node.specs.AddressUses.{is_in_use, standing_trap}
use Rattle.pl_node.specs.declared.switch_records.Grant.{Grant}
use Rattle.pl_node.specs.declared.trap.Trap.{Trap}
use Rattle.pl_node.specs.ManagerViews.{Learnt, ManagerView, Recall, Registration, Reported, ip_of, newest, registration}
use Rattle.pl_manager_rule.specs.Reports.{known_at}
use Rattle.pl_law_due.specs.Due.{is_hello}
use Rattle.pl_law_addresses.specs.EdgeAddresses.{Edge, IsGoodRecall, IsHeld, IsHeldFor, tells_ip}
use Rattle.pl_law_addresses.specs.OwnAddresses.{IsOwnIp}
use Rattle.pl_law_epochs.specs.Situations.{IsIn}
use Rattle.pl_law_epochs.specs.Tenures.{Tenure, knowledge, orders_on, use_of, words_on}

-- What the manager knows of addresses in its present epoch: what is registered of each, and what is known of it, by a report alone too; the newest one of
-- each host; the IPv4 address told with it; the number that was given last; and whether there was an epoch before.
pub record Registry : Type 0 where
  pub at : Pmac → Option Registration
  pub known_at : Pmac → Option Reported
  pub newest_of : Mac → Option Registration
  pub ip_at : Pmac → Option Ip4
  pub count : ℕ
  pub later : Bool

abbrev pub registry_with : Bool → Learnt → Registry
registry_with later learnt = record {
  at = λ x. registration learnt x;
  known_at = λ x. known_at learnt x;
  newest_of = λ mac. newest learnt mac;
  ip_at = λ x. ip_of learnt x;
  count = learnt.count;
  later = later;
}

abbrev pub is_later : ManagerView → Bool
is_later manager = not (manager.epoch == 0)

abbrev pub registry_of : ManagerView → Registry
registry_of manager = registry_with (is_later manager) manager.learnt

-- where an address leads
abbrev pub recall_at : Registry → Pmac → Option Recall
recall_at r x = option_and_then (λ known. known.recall) (r.known_at x)

-- its switch has not heard of the present epoch
abbrev pub is_unheard : List ToSwitch → Bool
is_unheard down = list_any is_hello down

-- what stands about an address of its place
abbrev pub tenure_at : Registry → Edge → Pmac → Tenure
tenure_at r e x = record {
  use_is = use_of (option_map (λ g. g.held) (e.granted x));
  due = words_on x e.up;
  orders = orders_on x e.down;
  known = knowledge (is_some (r.at x)) (r.known_at x);
  silent = is_unheard e.down;
}

-- What was granted under an address: the IPv4 addresses that are kept with it are its host's own, and in use the manager was told that of the grant, or is
-- going to be, unless the report of its switch is to come.
pub record IsGoodGrant (own : Mac → Option Ip4) (r : Registry) (silent : Bool) (up : List ToManager) (x : Pmac) (g : Grant) : Type 0 where
  pub own_ip : IsOwnIp own g.amac g.ip
  pub told_ip : silent ≡ false → is_in_use g.held ≡ true → (ip : Ip4) → g.ip ≡ Some ip → (r.ip_at x ≡ Some ip) ⊎ (list_any (tells_ip x) up ≡ true)
  pub trap_ip : (trap : Trap) → standing_trap g.held ≡ Some trap → IsOwnIp own g.amac trap.ip

-- what is told of an address says whose it is, and that host's own IPv4 address; one that has aged, or has a trap, is somebody's
abbrev pub IsGoodWord : (Mac → Option Ip4) → (Pmac → Option Grant) → ToManager → Type 0
IsGoodWord own granted (tell.Learned x amac ip) = IsHeldFor granted x amac × IsOwnIp own amac ip
IsGoodWord own granted (tell.Aged x number) = IsHeld granted x
IsGoodWord own granted (tell.Trapped x new number) = IsHeld granted x
IsGoodWord own granted says = Unit {0}

abbrev pub IsGoodOrder : (Mac → Option Ip4) → (Pmac → Option Grant) → ToSwitch → Type 0
IsGoodOrder own granted (say.Invalidate old new number ip) = IsGoodRecall own granted old ip
IsGoodOrder own granted (say.Release x) = IsHeld granted x
IsGoodOrder own granted says = Unit {0}

-- what is registered is known, of the switch that told it first
pub record IsKnownToo (r : Registry) (x : Pmac) (reg : Registration) : Type 0 where
  pub known : Reported
  pub found : r.known_at x ≡ Some known
  pub switch : known.switch ≡ reg.switch

-- a registered address of an edge switch is there that of the host that it is registered for
pub record IsRegisteredHere (r : Registry) (granted : Pmac → Option Grant) (x : Pmac) (reg : Registration) : Type 0 where
  pub too : IsKnownToo r x reg
  pub granted_to : IsHeldFor granted x reg.amac

pub record IsGoodEdge (own : Mac → Option Ip4) (r : Registry) (e : Edge) : Type 0 where
  -- each grant carries the pod and the position of this edge switch
  pub placed : (x : Pmac) (g : Grant) → e.granted x ≡ Some g → e.at x ≡ true
  pub grants : (x : Pmac) (g : Grant) → e.granted x ≡ Some g → IsGoodGrant own r (is_unheard e.down) e.up x g
  -- each address of its place is in a situation
  pub situations : (x : Pmac) → e.at x ≡ true → IsIn r.later (tenure_at r e x)
  pub words : AllByRecursion (IsGoodWord own e.granted) e.up
  pub orders : AllByRecursion (IsGoodOrder own e.granted) e.down
  -- only in a later epoch there is anything to hear of
  pub unheard : is_unheard e.down ≡ true → r.later ≡ true
  -- what is known of an address of its place was told by it
  pub tellers : (x : Pmac) (known : Reported) → r.known_at x ≡ Some known → e.at x ≡ true → e.id ≡ Some known.switch
  pub here : (x : Pmac) (reg : Registration) → r.at x ≡ Some reg → e.at x ≡ true → IsRegisteredHere r e.granted x reg

-- From an address of a host to a newer one: both are registered for it, and the newer one with this number, which is the larger one.
pub record LeadsToNewer (r : Registry) (old new : Pmac) (number : ℕ) (mac : Mac) : Type 0 where
  pub before : Registration
  pub after : Registration
  pub found_before : r.at old ≡ Some before
  pub found_after : r.at new ≡ Some after
  pub mac_before : before.amac ≡ mac
  pub mac_after : after.amac ≡ mac
  pub number_after : after.number ≡ number
  pub rises : before.number < number

-- an IPv4 address is known of a registered address alone, and is the one of its host
pub record HasOwnIp (own : Mac → Option Ip4) (r : Registry) (x : Pmac) (ip : Ip4) : Type 0 where
  pub reg : Registration
  pub found : r.at x ≡ Some reg
  pub own_ip : own reg.amac ≡ Some ip

-- No number is above the count; a registration is found under its own address. The newest one of a host is the registration of it that leads to no newer
-- one, and each trap from a registered address that the manager sent, and that has not ended, leads to a newer one.
pub record IsGoodRegistry (own : Mac → Option Ip4) (r : Registry) : Type 0 where
  pub named : (x : Pmac) (reg : Registration) → r.at x ≡ Some reg → reg.pmac ≡ x
  pub counted : (x : Pmac) (reg : Registration) → r.at x ≡ Some reg → reg.number ≤ r.count
  pub known_too : (x : Pmac) (reg : Registration) → r.at x ≡ Some reg → IsKnownToo r x reg
  pub newest_is : (mac : Mac) (reg : Registration) → r.newest_of mac ≡ Some reg → (reg.amac ≡ mac) × (r.at reg.pmac ≡ Some reg)
  pub newest_leads : (mac : Mac) (reg : Registration) → r.newest_of mac ≡ Some reg → recall_at r reg.pmac ≡ None
  pub is_newest : (x : Pmac) (reg : Registration) → r.at x ≡ Some reg → recall_at r x ≡ None → r.newest_of reg.amac ≡ Some reg
  pub leads : (x : Pmac) (reg : Registration) (known : Reported) (c : Recall) → r.at x ≡ Some reg → r.known_at x ≡ Some known → known.recall ≡ Some c →
      known.aged ≡ false → LeadsToNewer r x c.new c.number reg.amac
  pub ips : (x : Pmac) (ip : Ip4) → r.ip_at x ≡ Some ip → HasOwnIp own r x ip
