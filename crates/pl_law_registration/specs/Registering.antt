-- Which hosts are registered where they stand.
use Rattle.std.specs.Prelude.{◌≡◌, ◌<◌, ℕ, true, length}
use Rattle.pl_wiring.specs.declared.host.Host.{Host}
use Rattle.pl_layouts.specs.Placement.{is_placed}
use Rattle.pl_node.specs.SwitchViews.{SwitchView}
use Rattle.pl_switch_rule.specs.Granting.{grants_at}
use Rattle.pl_world.specs.declared.attachment.AttachmentPoint.{AttachmentPoint}
use Rattle.pl_world.specs.Worlds.{WorldView}
use Rattle.pl_law_addresses.specs.Registered.{IsRegisteredWithIp}
use Rattle.pl_law_registration.specs.BeingRegistered.{HostIsAttached, IsHeard}

-- Each host whose present edge switch is placed, which is heard there, and at whose port vmid 65,535 was not given.
abbrev pub AreRegistered : WorldView → Type 0
AreRegistered w = (h : ℕ) (host : Host) (attachment : AttachmentPoint) (v : SwitchView) → HostIsAttached w h host attachment v → is_placed v.place ≡ true →
    IsHeard w h → length (grants_at v attachment.port) < 65535 → IsRegisteredWithIp w h
