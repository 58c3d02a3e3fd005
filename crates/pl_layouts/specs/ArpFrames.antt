-- ARP packets in frames (RFC 826).
use Rattle.std.specs.Prelude.{ℕ, List, replicate}
use Rattle.pl_frame.specs.declared.address.Mac.{Mac}
use Rattle.pl_frame.specs.Ethernet.{frame_of}
use Rattle.pl_arp.specs.declared.packet.Arp.{Arp}
use Rattle.pl_arp.specs.Packet.{layout}

-- ff:ff:ff:ff:ff:ff
abbrev pub broadcast : Mac
broadcast = record { 0 = replicate 6 255 }

-- the hardware address that a request leaves open
abbrev pub no_mac : Mac
no_mac = record { 0 = replicate 6 0 }

-- a packet in a frame of its sender
unfoldable pub arp_frame : Mac → Arp → List ℕ
arp_frame to arp = frame_of (record { dst = to; src = arp.sha; kind = 0x0806; payload = layout arp })
