-- When two addresses are the same, and two switches.
use Rattle.std.specs.Prelude.{◌==◌, ◌&&◌, Bool, false, bytes_eq, Option, Some, None}
use Rattle.pl_frame.specs.declared.address.Ip4.{Ip4}
use Rattle.pl_frame.specs.declared.address.Mac.{Mac}
use Rattle.pl_frame.specs.declared.address.SwitchId.{SwitchId}
use Rattle.pl_arp.specs.Reception.{same_ip}
use Rattle.pl_pmac.specs.declared.pmac.Pmac.{Pmac}

abbrev pub same_mac : Mac → Mac → Bool
same_mac a b = bytes_eq a.0 b.0

abbrev pub same_pmac : Pmac → Pmac → Bool
same_pmac a b = (a.pod == b.pod) && (a.position == b.position) && (a.port == b.port) && (a.vmid == b.vmid)

abbrev pub same_switch : SwitchId → SwitchId → Bool
same_switch a b = a.0 == b.0

-- an IPv4 address that is known to be this one
abbrev pub is_ip : Option Ip4 → Ip4 → Bool
is_ip None ip = false
is_ip (Some known) ip = same_ip known ip
