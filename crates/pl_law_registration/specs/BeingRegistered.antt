-- Whether the edge switch where a host stands knows it, or is going to.
use Rattle.std.specs.Prelude.{◌≡◌, ◌⊎◌, ◌≤◌, ◌<◌, ℕ, true, false, List, length, Option, Some, None, is_some, slice_get, slice_index_or}
use Rattle.std.specs.List.{list_any}
use Rattle.pl_arp.specs.declared.cache.Me.{Me}
use Rattle.pl_wiring.specs.declared.host.Host.{Host}
use Rattle.pl_node.specs.declared.address_use.AddressUse.TheVariants.{InUse}
use Rattle.pl_node.specs.SwitchViews.{SwitchView}
use Rattle.pl_queues.specs.Queues.{items_at}
use Rattle.pl_switch_rule.specs.Granting.{grants_at, remembered_at}
use Rattle.pl_world.specs.declared.event.QueueName.{QueueName}
use Rattle.pl_world.specs.declared.attachment.AttachmentPoint.{AttachmentPoint}
use Rattle.pl_world.specs.Booting.{me_of}
use Rattle.pl_world.specs.Changes.{out_of}
use Rattle.pl_world.specs.Refusals.{has_queue, is_filled}
use Rattle.pl_world.specs.Worlds.{WorldView}
use Rattle.pl_law_addresses.specs.Registered.{IsServed}
use Rattle.pl_law_addresses.specs.EdgeAddresses.{is_settled}
use Rattle.pl_law_registration.specs.Probes.{is_packet, is_probe}

-- How many ticks of its edge switch ago a frame of a host reached that switch, where an ARP frame that can be read reached it before or then, since
-- the host came where it stands; none after 300 ticks.
abbrev pub heard_at : WorldView → ℕ → Option ℕ
heard_at w h = slice_index_or w.heard h None

-- a host is heard
abbrev pub IsHeard : WorldView → ℕ → Type 0
IsHeard w h = is_some (heard_at w h) ≡ true

-- an address of this port is in use by the host, and the switch counts at most so many ticks since it was used
pub record IsServedSince (ticks : ℕ) (v : SwitchView) (port : ℕ) (me : Me) : Type 0 where
  pub served : IsServed v port me
  pub idle : ℕ
  pub counts : served.grant.held ≡ InUse idle
  pub young : idle ≤ ticks

-- An edge switch that is not placed yet remembers the host at this port. A placed one has an address of this port in use for it, used at the latest
-- when a frame of the host came, as long as vmid 65,535 of the port was not given.
pub record IsKnownAt (ticks : ℕ) (v : SwitchView) (port : ℕ) (me : Me) : Type 0 where
  pub unplaced : is_settled v.place ≡ false → remembered_at v port ≡ Some (record { amac = me.mac; ip = Some me.ip })
  pub placed : is_settled v.place ≡ true → length (grants_at v port) < 65535 → IsServedSince ticks v port me

-- a host of the wiring stands at a port of this switch
pub record HostIsAttached (w : WorldView) (h : ℕ) (host : Host) (attachment : AttachmentPoint) (v : SwitchView) : Type 0 where
  pub is_host : slice_get w.plan.hosts h ≡ Some host
  pub attachments : slice_get w.attachments h ≡ Some attachment
  pub switch : slice_get w.switches attachment.edge.0 ≡ Some v

-- it is known there, or that switch is placed, and a probe of it waits at its port, or an ARP frame that can be read in its own queue
abbrev pub IsBeingRegistered : WorldView → ℕ → ℕ → Host → AttachmentPoint → SwitchView → Type 0
IsBeingRegistered w ticks h host attachment v =
    IsKnownAt ticks v attachment.port (me_of host)
    ⊎ ((is_settled v.place ≡ true) × ((list_any (is_probe (me_of host)) (out_of w attachment.edge.0 attachment.port) ≡ true) ⊎ (list_any is_packet (items_at w.from_hosts h) ≡ true)))

-- each host that is heard where it stands, so many ticks ago
abbrev pub AreBeingRegistered : WorldView → Type 0
AreBeingRegistered w = (h : ℕ) (host : Host) (attachment : AttachmentPoint) (v : SwitchView) (ticks : ℕ) → HostIsAttached w h host attachment v →
    heard_at w h ≡ Some ticks → IsBeingRegistered w ticks h host attachment v

-- An edge switch that is not placed remembers each of these hosts, with its IPv4 address.
abbrev pub AreRemembered : WorldView → Type 0
AreRemembered w = (h : ℕ) (host : Host) (attachment : AttachmentPoint) (v : SwitchView) → HostIsAttached w h host attachment v → IsHeard w h → is_settled v.place ≡ false →
    remembered_at v attachment.port ≡ Some (record { amac = host.mac; ip = Some host.ip })

-- no two hosts stand at one place
abbrev pub AreAttachedApart : List AttachmentPoint → Type 0
AreAttachedApart attachments = (g h : ℕ) (a b : AttachmentPoint) → slice_get attachments g ≡ Some a → slice_get attachments h ≡ Some b → a.edge.0 ≡ b.edge.0 → a.port ≡ b.port → g ≡ h

-- every queue is empty
abbrev pub NothingWaits : WorldView → Type 0
NothingWaits w = (name : QueueName) → has_queue w.plan name ≡ true → is_filled w name ≡ false
