-- What finds the switches of a wiring by their ids, and its hosts by their hardware addresses.
use Rattle.std.specs.Prelude.{◌≡◌, List, Some, None, if◌then◌else◌, option_map}
use Rattle.std.specs.List.{position}
use Rattle.std.specs.Map.{lookup}
use Rattle.std.specs.Option.{option_or}
use Rattle.pl_frame.specs.declared.address.Mac.{Mac}
use Rattle.pl_frame.specs.declared.address.SwitchId.{SwitchId}
use Rattle.pl_wiring.specs.declared.host.Host.{Host}
use Rattle.pl_wiring.specs.declared.host.HostNo.{HostNo}
use Rattle.pl_wiring.specs.declared.label.SwitchNo.{SwitchNo}
use Rattle.pl_wiring.specs.Plan.{Plan}
use Rattle.pl_layouts.specs.Equality.{same_mac, same_switch}

-- the entries have for each id the first switch with it
abbrev pub FindsSwitches : List SwitchId → List (SwitchId × SwitchNo) → Type 0
FindsSwitches ids entries = (id : SwitchId) → option_map (λ s. s.0) (lookup (same_switch id) entries) ≡ position (same_switch id) ids

-- and for each hardware address the first host with it
abbrev pub FindsHostsByMac : List Host → List (Mac × HostNo) → Type 0
FindsHostsByMac hosts entries = (mac : Mac) → option_map (λ h. h.0) (lookup (same_mac mac) entries) ≡ position (λ host. same_mac host.mac mac) hosts

-- a switch is there too, unless one with its id was there before
abbrev pub AddsSwitch : List (SwitchId × SwitchNo) → SwitchId → SwitchNo → List (SwitchId × SwitchNo) → Type 0
AddsSwitch before id s after =
    (key : SwitchId) → lookup (same_switch key) after ≡ option_or (lookup (same_switch key) before) (if same_switch id key then Some s else None)

-- a host is there too, unless one with its address was there before
abbrev pub AddsHost : List (Mac × HostNo) → Mac → HostNo → List (Mac × HostNo) → Type 0
AddsHost before mac h after =
    (key : Mac) → lookup (same_mac key) after ≡ option_or (lookup (same_mac key) before) (if same_mac mac key then Some h else None)

pub record IsWiringIndex (plan : Plan) (by_id : List (SwitchId × SwitchNo)) (by_mac : List (Mac × HostNo)) : Type 0 where
  pub switches : FindsSwitches plan.ids by_id
  pub hosts : FindsHostsByMac plan.hosts by_mac
