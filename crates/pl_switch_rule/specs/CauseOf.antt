-- The cause with which a switch drops a frame that comes, or one that it makes: the first that holds, in the order in which a frame meets the
-- rules of the edge and of forwarding. There is none where the frame is taken, or goes on.
use Rattle.std.specs.Prelude.{◌≡◌, ◌⊎◌, ℕ, ◌&&◌, ◌||◌, not, Bool, false, if◌then◌else◌, List, [], ◌∷◌, Option, Some, None, is_some, is_none}
use Rattle.std.specs.List.{AllByRecursion}
use Rattle.pl_frame.specs.declared.address.Mac.{Mac}
use Rattle.pl_frame.specs.Ethernet.{destination_of, source_of}
use Rattle.pl_pmac.specs.declared.pmac.Pmac.{Pmac}
use Rattle.pl_pmac.specs.Pmac.{mac_of, pmac_of}
use Rattle.pl_node.specs.Accounting.{CanCome, IsShaped}
use Rattle.pl_node.specs.PortRecords.{place_at}
use Rattle.pl_node.specs.SwitchInputs.{SwitchInput, SwitchRule}
use Rattle.pl_node.specs.SwitchInputs.SwitchInput.{Comes, Says, Tick}
use Rattle.pl_node.specs.SwitchViews.{SwitchView}
use Rattle.pl_node.specs.declared.acts.Act.{Act}
use Rattle.pl_node.specs.declared.acts.Act.TheVariants.{Drop, Make}
use Rattle.pl_node.specs.declared.messages.ToSwitch.{ToSwitch}
use Rattle.pl_node.specs.declared.messages.ToSwitch.TheVariants.{Answer, Flood}
use Rattle.pl_node.specs.declared.trap.Trap.{Trap}
use Rattle.pl_journal.specs.declared.cause.Cause.{Cause}
use Rattle.pl_journal.specs.declared.cause.Cause.TheVariants.{BadArp, NoAddress, NoMember, NoNextHop, NotPlaced, Spent}
use Rattle.pl_layouts.specs.Control.{is_control}
use Rattle.pl_layouts.specs.Frames.{is_arp, packet_in}
use Rattle.pl_layouts.specs.Memberships.{flood, is_group, membership_in}
use Rattle.pl_layouts.specs.Placement.{is_placed}
use Rattle.pl_switch_rule.specs.declared.came.Came.TheVariants.{FromHost}
use Rattle.pl_switch_rule.specs.Delivering.{addresses, last_trap, trap_for}
use Rattle.pl_switch_rule.specs.DropCauses.{address_after, came_in, first_drop, has_no_hosts, is_for_members, is_of_host, known_source, places, seen}
use Rattle.pl_switch_rule.specs.Forwarding.{candidates_by}
use Rattle.pl_switch_rule.specs.Granting.{has_no_address, held_here, is_granted, is_local, is_port_spent}
use Rattle.pl_switch_rule.specs.GroupForwarding.{group_ports_up}
use Rattle.pl_switch_rule.specs.Intake.{is_for_switch}
use Rattle.pl_journal.specs.Causes.{is_bad_arp}

-- Before a frame is sent on: it is dropped, taken, or sent on.
pub data Intake : Type 0 where
  Refused : (cause : Cause) → Intake
  TakenIn : Intake
  SentOn : Intake

-- a frame of a host, once its source is learnt
abbrev pub intake_of_host : SwitchView → ℕ → List ℕ → Intake
intake_of_host v port frame =
    if has_no_address v port (source_of frame) && is_port_spent v port then Refused Spent
    else if is_bad_arp frame then Refused BadArp
    else if is_for_switch v (destination_of frame) (packet_in frame) then TakenIn
    else if is_some (membership_in frame) then TakenIn
    else if not (is_placed v.place) then Refused NotPlaced
    else SentOn

-- a frame of another switch
abbrev pub intake_of_switch : SwitchView → ℕ → Intake
intake_of_switch v port = if not (is_placed v.place) || is_none (place_at v port).level then Refused NotPlaced else SentOn

abbrev pub intake : SwitchView → ℕ → List ℕ → Intake
intake v port frame =
    if is_of_host v port then (if has_no_hosts v then Refused NotPlaced else intake_of_host (seen v port frame) port frame)
    else intake_of_switch v port

-- Where a frame is sent on.

abbrev pub if_nowhere : List ℕ → Cause → Option Cause
if_nowhere [] cause = Some cause
if_nowhere (port ∷ ports) cause = None

-- a unicast frame for an address from which no trap leads on: it goes to its host here, or on to another edge switch
abbrev pub cause_at : SwitchView → Pmac → Option Cause
cause_at v address =
    if is_local v address then (if is_some (held_here v address) then None else Some NoAddress)
    else if_nowhere (candidates_by v address (Some FromHost)) NoNextHop

-- a unicast frame that begins here, or that came for this pod and position: first it follows the traps
abbrev pub cause_from_here : SwitchView → Pmac → Option Cause
cause_from_here v address = cause_at v (address_after v address (trap_for v address))

-- a frame that came at a port, for this destination
abbrev pub cause_to : SwitchView → ℕ → List ℕ → Mac → Option Cause
cause_to v port frame to =
    if is_group to then if_nowhere (places v port frame) (if is_for_members v port frame then NoMember else NoNextHop)
    else if is_local v (pmac_of to) then cause_from_here v (pmac_of to)
    else if_nowhere (candidates_by v (pmac_of to) (came_in v port)) NoNextHop

-- the sender of a frame that met a trap is told, where it is no ARP frame and the IPv4 address of its receiver is known
abbrev pub is_told : SwitchView → Bool → Option Trap → Bool
is_told v arp None = false
is_told v arp (Some trap) = not arp && is_some (last_trap (addresses v) v trap).ip

-- and the reply that tells it
abbrev pub reply_to : SwitchView → ℕ → List ℕ → Mac → Option Cause
reply_to v port frame to =
    if not (is_group to) && is_told v (is_arp frame) (trap_for v (pmac_of to)) then cause_from_here v (known_source v port frame) else None

-- Of each step.

abbrev pub by_intake : Intake → Option Cause → Option Cause
by_intake (Refused cause) on = Some cause
by_intake TakenIn on = None
by_intake SentOn on = on

-- the frame that came
abbrev pub cause_of : SwitchView → SwitchInput → Option Cause
cause_of v (Comes port frame) =
    if is_control frame then None
    else by_intake (intake v port frame) (cause_to (seen v port frame) port frame (destination_of frame))
cause_of v Tick = None
cause_of v (Says says) = None

abbrev pub if_sent_on : Intake → Option Cause → Option Cause
if_sent_on (Refused cause) on = None
if_sent_on TakenIn on = None
if_sent_on SentOn on = on

-- the answer to a host that asked, or the request to all hosts; a probe goes out to its host
abbrev pub cause_of_message : SwitchView → ToSwitch → Option Cause
cause_of_message v (Answer asker asker_ip ip pmac) = if is_granted v asker then cause_from_here v (pmac_of (mac_of asker)) else None
cause_of_message v (Flood asker asker_ip ip) = if is_granted v asker then if_nowhere (group_ports_up v flood) NoNextHop else None
cause_of_message v says = None

-- the frame that the switch makes
abbrev pub cause_of_made : SwitchView → SwitchInput → Option Cause
cause_of_made v (Comes port frame) =
    if is_control frame then None
    else if_sent_on (intake v port frame) (reply_to (seen v port frame) port frame (destination_of frame))
cause_of_made v Tick = None
cause_of_made v (Says says) = cause_of_message v says

-- the acts behind the frame that a switch makes
abbrev pub behind_make : List Act → List Act
behind_make [] = []
behind_make (Make frame ∷ acts) = acts
behind_make (act ∷ acts) = behind_make acts

-- an act that drops no frame
abbrev pub IsNoDrop : Act → Type 0
IsNoDrop (Drop cause) = ⊥
IsNoDrop act = Unit {0}

-- The frame that came is dropped for the one cause, if there is one, and the frame that the switch made for the other. Where it makes more than one, as at a
-- tick, none of these is dropped.
pub record DropsFor (acts : List Act) (cause cause_made : Option Cause) : Type 0 where
  pub came : first_drop acts ≡ cause
  pub made : first_drop (behind_make acts) ≡ cause_made
  pub others : (behind_make (behind_make acts) ≡ []) ⊎ AllByRecursion IsNoDrop (behind_make acts)

-- A rule under which frames are dropped for the first cause that holds, and for no other.
abbrev pub DropsForFirstCause : SwitchRule → Type 0
DropsForFirstCause rule = (old : SwitchView) (input : SwitchInput) (new : SwitchView) (acts : List Act) →
    IsShaped old → CanCome old input → rule old input new acts → DropsFor acts (cause_of old input) (cause_of_made old input)
