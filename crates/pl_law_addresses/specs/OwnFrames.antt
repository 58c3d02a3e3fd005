-- What a host holds and sends is its own: its frames have its actual address as source, and in an ARP packet that can be read its own addresses
-- as sender.
use Rattle.std.specs.Prelude.{◌≡◌, ℕ, true, List, Some, slice_get}
use Rattle.std.specs.List.{AllByRecursion}
use Rattle.pl_arp.specs.declared.cache.Me.{Me}
use Rattle.pl_wiring.specs.declared.host.Host.{Host}
use Rattle.pl_wiring.specs.Plan.{Plan}
use Rattle.pl_node.specs.HostDuties.{HoldsOwn, is_own}
use Rattle.pl_node.specs.HostViews.{HostView}
use Rattle.pl_queues.specs.Queues.{items_at}
use Rattle.pl_world.specs.declared.item.Item.{Item}
use Rattle.pl_world.specs.declared.item.Item.TheVariants.{Control, Data}
use Rattle.pl_world.specs.Booting.{me_of}
use Rattle.pl_world.specs.Worlds.{WorldView}

-- what waits in the queue of a host
abbrev pub IsOwnItem : Me → Item → Type 0
IsOwnItem me (Control frame) = Unit {0}
IsOwnItem me (Data id frame) = is_own me frame ≡ true

pub record IsOwnHost (me : Me) (view : HostView) (items : List Item) : Type 0 where
  pub is : view.me ≡ me
  pub holds : HoldsOwn view
  pub sends : AllByRecursion (IsOwnItem me) items

-- each host of the wiring
abbrev pub AreOwnHosts : Plan → List HostView → List (List Item) → Type 0
AreOwnHosts plan hosts from_hosts = (h : ℕ) (host : Host) (view : HostView) → slice_get plan.hosts h ≡ Some host → slice_get hosts h ≡ Some view →
    IsOwnHost (me_of host) view (items_at from_hosts h)

abbrev pub HostsAreOwn : WorldView → Type 0
HostsAreOwn w = AreOwnHosts w.plan w.hosts w.from_hosts
