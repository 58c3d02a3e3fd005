-- Reception of an ARP packet (RFC 826, "Packet reception").
use Rattle.std.specs.Prelude.{◌==◌, ◌&&◌, ◌||◌, Bool, List, Option, Some, None, is_some, if◌then◌else◌}
use Rattle.std.specs.Map.{lookup}
use Rattle.indexmap.specs.IndexMap.{insert_entry}
use Rattle.pl_frame.specs.declared.address.Mac.{Mac}
use Rattle.pl_frame.specs.declared.address.Ip4.{Ip4}
use Rattle.pl_arp.specs.declared.packet.Arp.{Arp}
use Rattle.pl_arp.specs.declared.cache.Me.{Me}

-- the protocol addresses that are known, with their hardware addresses
abbrev pub Table : Type 0
Table = List (Ip4 × Mac)

abbrev pub same_ip : Ip4 → Ip4 → Bool
same_ip a b = a.0 == b.0

-- the hardware address that the table has for a protocol address
abbrev pub hardware_of : Table → Ip4 → Option Mac
hardware_of table ip = lookup (same_ip ip) table

-- the table once the pair of a sender is in it: a known address keeps its place, an unknown one goes last
abbrev pub with_pair : Table → Ip4 → Mac → Table
with_pair table ip mac = insert_entry same_ip table ip mac

abbrev pub is_target : Me → Arp → Bool
is_target me arp = same_ip arp.tpa me.ip

-- a known sender is updated whoever is the target, an unknown one is added by the target alone
abbrev pub table_after : Table → Me → Arp → Table
table_after table me arp =
    if is_some (hardware_of table arp.spa) || is_target me arp then with_pair table arp.spa arp.sha else table

-- the target answers a request (opcode 1) by a reply (opcode 2) to the asker
abbrev pub answer_to : Me → Arp → Option Arp
answer_to me arp =
    if is_target me arp && (arp.op == 1) then Some (record { op = 2; sha = me.mac; spa = me.ip; tha = arp.sha; tpa = arp.spa })
    else None
