-- What an edge switch does with a frame for its own pod and position: it goes out to the host that has the address, or, where a trap stands
-- for that address, on to the host's newer one (PortLand, section 3.3).
use Rattle.std.specs.Prelude.{ℕ, nat_lt, zero, suc, if◌then◌else◌, List, [], ◌∷◌, length, Option, Some, None}
use Rattle.std.specs.List.{sum_by}
use Rattle.pl_frame.specs.declared.address.Ip4.{Ip4}
use Rattle.pl_frame.specs.Ethernet.{destination_of, source_of, with_destination}
use Rattle.pl_pmac.specs.declared.pmac.Pmac.{Pmac}
use Rattle.pl_pmac.specs.Pmac.{mac_of, pmac_of}
use Rattle.pl_node.specs.declared.acts.Act.{Act}
use Rattle.pl_node.specs.declared.acts.Act.TheVariants.{Drop, Make, Pass, Redirect}
use Rattle.pl_switch_rule.specs.declared.came.Came.TheVariants.{FromHost}
use Rattle.pl_journal.specs.declared.cause.Cause.TheVariants.{NoAddress}
use Rattle.pl_node.specs.declared.trap.Trap.{Trap}
use Rattle.pl_switch_rule.specs.Forwarding.{Choice, forwards}
use Rattle.pl_layouts.specs.Frames.{arriving, is_arp}
use Rattle.pl_switch_rule.specs.Granting.{granted, held_here, is_local}
use Rattle.pl_steps.specs.Steps.{SwitchStep, does, ◌▹◌}
use Rattle.pl_node.specs.AddressUses.{standing_trap}
use Rattle.pl_node.specs.declared.switch_records.Grant.{Grant}
use Rattle.pl_node.specs.SwitchViews.{SwitchView}
use Rattle.pl_layouts.specs.ArpFrames.{arp_frame}

-- The frame leaves with the host's actual address as its destination, in an ARP packet too.
abbrev pub delivers_to : SwitchView → Pmac → List ℕ → Option Grant → SwitchStep
delivers_to v address frame None = does v (Drop NoAddress ∷ [])
delivers_to v address frame (Some grant) = does v (Pass address.port (arriving frame None (Some grant.amac)) ∷ [])

abbrev pub destination : List ℕ → Pmac
destination frame = pmac_of (destination_of frame)

abbrev pub delivers : SwitchView → List ℕ → SwitchStep
delivers v frame = delivers_to v (destination frame) frame (held_here v (destination frame))

abbrev pub grant_trap : Option Grant → Option Trap
grant_trap None = None
grant_trap (Some grant) = standing_trap grant.held

-- the trap that stands here for an address
abbrev pub trap_for : SwitchView → Pmac → Option Trap
trap_for v address = grant_trap (granted v address)

-- the trap with the larger number, where there is one
abbrev pub if_newer : Trap → Option Trap → Option Trap
if_newer trap None = None
if_newer trap (Some next) = if nat_lt trap.number next.number then Some next else None

-- a frame goes from one address to the next, each newer than the one before
abbrev pub redirects_on : (Trap → List Act) → Pmac → Option Trap → List Act
redirects_on further old None = []
redirects_on further old (Some trap) = Redirect old trap.new ∷ further trap

-- The traps here that follow a trap, at most so many.
unfoldable pub redirects : ℕ → SwitchView → Trap → List Act
redirects zero v trap = []
redirects (suc n) v trap = redirects_on (redirects n v) trap.new (if_newer trap (trap_for v trap.new))

abbrev pub last_on : (Trap → Trap) → Trap → Option Trap → Trap
last_on further trap None = trap
last_on further trap (Some next) = further next

-- and the last of them
unfoldable pub last_trap : ℕ → SwitchView → Trap → Trap
last_trap zero v trap = trap
last_trap (suc n) v trap = last_on (last_trap n v) trap (if_newer trap (trap_for v trap.new))

-- so many addresses were granted here: none of them is followed twice, since the numbers rise
abbrev pub addresses : SwitchView → ℕ
addresses v = sum_by length v.grants

-- An address that was not granted here is another edge switch's, or nobody's.
abbrev pub goes_on : Choice → SwitchView → List ℕ → SwitchStep
goes_on choose v frame = if is_local v (destination frame) then delivers v frame else forwards choose v (Some FromHost) frame

-- A frame that meets a trap goes on to the address of the last trap that leads on from it.
abbrev pub is_trapped : Choice → SwitchView → List ℕ → Trap → SwitchStep
is_trapped choose v frame trap =
    does v (Redirect (destination frame) trap.new ∷ redirects (addresses v) v trap)
    ▹ (λ w. goes_on choose w (with_destination frame (mac_of (last_trap (addresses v) v trap).new)))

abbrev pub delivers_or_redirects : Choice → SwitchView → List ℕ → Option Trap → SwitchStep
delivers_or_redirects choose v frame None = delivers v frame
delivers_or_redirects choose v frame (Some trap) = is_trapped choose v frame trap

-- A frame for this pod and position.
abbrev pub comes_home : Choice → SwitchView → List ℕ → SwitchStep
comes_home choose v frame = delivers_or_redirects choose v frame (trap_for v (destination frame))

-- A frame that begins here for an address.
abbrev pub begins : Choice → SwitchView → List ℕ → SwitchStep
begins choose v frame = if is_local v (destination frame) then comes_home choose v frame else forwards choose v (Some FromHost) frame

abbrev pub makes : Choice → List ℕ → SwitchView → SwitchStep
makes choose frame v = does v (Make frame ∷ []) ▹ (λ w. begins choose w frame)

-- the reply that tells a sender the newer address of a host
abbrev pub newer_address : List ℕ → Pmac → Ip4 → List ℕ
newer_address frame new ip =
    arp_frame (source_of frame) (record { op = 2; sha = mac_of new; spa = ip; tha = source_of frame; tpa = ip })

abbrev pub tells_newer : Choice → List ℕ → Pmac → Option Ip4 → SwitchView → SwitchStep
tells_newer choose frame new None v = does v []
tells_newer choose frame new (Some ip) v = makes choose (newer_address frame new ip) v

-- Whose frame met a trap is told so, where the frame was no ARP frame and the IPv4 address of the host is known.
abbrev pub tells_sender : Choice → List ℕ → Option Trap → SwitchView → SwitchStep
tells_sender choose frame None v = does v []
tells_sender choose frame (Some trap) v =
    if is_arp frame then does v []
    else tells_newer choose frame (last_trap (addresses v) v trap).new (last_trap (addresses v) v trap).ip v

-- A frame for this pod and position, of a host or of another switch.
abbrev pub arrives_home : Choice → SwitchView → List ℕ → SwitchStep
arrives_home choose v frame = comes_home choose v frame ▹ tells_sender choose frame (trap_for v (destination frame))
