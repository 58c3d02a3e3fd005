-- When a host is served by the edge switch at its port, and when it is registered.
use Rattle.std.specs.Prelude.{◌≡◌, ℕ, true, Some, slice_get}
use Rattle.pl_arp.specs.declared.cache.Me.{Me}
use Rattle.pl_pmac.specs.declared.pmac.Pmac.{Pmac}
use Rattle.pl_wiring.specs.declared.host.Host.{Host}
use Rattle.pl_node.specs.AddressUses.{is_in_use}
use Rattle.pl_node.specs.declared.switch_records.Grant.{Grant}
use Rattle.pl_node.specs.ManagerViews.{Registration, ip_of, newest}
use Rattle.pl_node.specs.SwitchViews.{SwitchView}
use Rattle.pl_switch_rule.specs.Granting.{granted}
use Rattle.pl_world.specs.declared.attachment.AttachmentPoint.{AttachmentPoint}
use Rattle.pl_world.specs.Worlds.{WorldView}

-- an address of this port is in use by the host, with its IPv4 address
pub record IsServed (v : SwitchView) (port : ℕ) (me : Me) : Type 0 where
  pub address : Pmac
  pub grant : Grant
  pub found : granted v address ≡ Some grant
  pub at_port : address.port ≡ port
  pub used : is_in_use grant.held ≡ true
  pub mac : grant.amac ≡ me.mac
  pub ip : grant.ip ≡ Some me.ip

-- The address is the fabric manager's newest one of the host, and it is in use by the host at the edge switch and the port where the host stands.
pub record IsRegisteredBy (w : WorldView) (h : ℕ) (x : Pmac) : Type 0 where
  pub host : Host
  pub is : slice_get w.plan.hosts h ≡ Some host
  pub attachment : AttachmentPoint
  pub attachments : slice_get w.attachments h ≡ Some attachment
  pub newest_one : Registration
  pub is_newest : newest w.manager.learnt host.mac ≡ Some newest_one
  pub address : newest_one.pmac ≡ x
  pub edge : SwitchView
  pub there : slice_get w.switches attachment.edge.0 ≡ Some edge
  pub grant : Grant
  pub found : granted edge x ≡ Some grant
  pub used : is_in_use grant.held ≡ true
  pub by_host : grant.amac ≡ host.mac
  pub at_port : x.port ≡ attachment.port

-- by some address
abbrev pub IsRegistered : WorldView → ℕ → Type 0
IsRegistered w h = (x : Pmac) × IsRegisteredBy w h x

-- by an address with which its edge switch and the manager know its IPv4 address
pub record IsRegisteredWithIp (w : WorldView) (h : ℕ) : Type 0 where
  pub address : Pmac
  pub by : IsRegisteredBy w h address
  pub at_edge : by.grant.ip ≡ Some by.host.ip
  pub at_manager : ip_of w.manager.learnt address ≡ Some by.host.ip
