-- The IPv4 address that each host of a wiring has.
use Rattle.std.specs.Prelude.{◌≡◌, Option, Some}
use Rattle.std.specs.List.{find}
use Rattle.std.specs.Option.{option_map}
use Rattle.pl_frame.specs.declared.address.Ip4.{Ip4}
use Rattle.pl_frame.specs.declared.address.Mac.{Mac}
use Rattle.pl_layouts.specs.Equality.{same_mac}
use Rattle.pl_wiring.specs.Plan.{Plan}

-- by actual address
abbrev pub own_ip : Plan → Mac → Option Ip4
own_ip plan mac = option_map (λ host. host.ip) (find (λ host. same_mac host.mac mac) plan.hosts)

-- an IPv4 address that is said of a host, if one is said, is its own
abbrev pub IsOwnIp : (Mac → Option Ip4) → Mac → Option Ip4 → Type 0
IsOwnIp own mac said = (ip : Ip4) → said ≡ Some ip → own mac ≡ Some ip
