-- The frames from which an edge switch is going to learn where a host stands.
use Rattle.std.specs.Prelude.{ℕ, ◌==◌, ◌&&◌, Bool, false, List, Option, Some, None, is_some}
use Rattle.pl_frame.specs.Ethernet.{destination_of}
use Rattle.pl_arp.specs.declared.packet.Arp.{Arp}
use Rattle.pl_arp.specs.declared.cache.Me.{Me}
use Rattle.pl_arp.specs.Reception.{same_ip}
use Rattle.pl_layouts.specs.Equality.{same_mac}
use Rattle.pl_layouts.specs.Frames.{packet_in}
use Rattle.pl_world.specs.declared.item.Item.{Item}
use Rattle.pl_world.specs.declared.item.Item.TheVariants.{Control, Data}

-- an ARP request for the IPv4 address of this host
abbrev pub asks_for : Me → Option Arp → Bool
asks_for me None = false
asks_for me (Some arp) = (arp.op == 1) && same_ip arp.tpa me.ip

-- a frame that asks this host alone for its own address, so that it answers
abbrev pub is_probe : Me → Item → Bool
is_probe me (Control frame) = false
is_probe me (Data id frame) = same_mac (destination_of frame) me.mac && asks_for me (packet_in frame)

-- an ARP frame that can be read
abbrev pub is_readable : List ℕ → Bool
is_readable frame = is_some (packet_in frame)

abbrev pub is_packet : Item → Bool
is_packet (Control frame) = false
is_packet (Data id frame) = is_readable frame
