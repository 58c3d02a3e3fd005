-- A data frame that comes at a switch ends in that step.
use Rattle.std.proofs.Common.{ℕ, ◌<◌, ◌&&◌, ◌||◌, not, Bool, true, false, if◌then◌else◌, List, [], ◌∷◌, Some, None, is_some, is_none, sym, subst}
use Rattle.pl_frame.specs.Ethernet.{destination_of, source_of}
use Rattle.pl_node.specs.declared.acts.Act.TheVariants.{Drop}
use Rattle.pl_switch_rule.specs.declared.came.Came.TheVariants.{FromHost}
use Rattle.pl_journal.specs.declared.cause.Cause.TheVariants.{BadArp, NotPlaced, Spent}
use Rattle.pl_switch_rule.specs.Delivering.{arrives_home, destination}
use Rattle.pl_switch_rule.specs.Forwarding.{Choice, came_by, forwards}
use Rattle.pl_layouts.specs.Frames.{is_arp, packet_in}
use Rattle.pl_switch_rule.specs.Granting.{has_no_address, is_local, learns_source}
use Rattle.pl_switch_rule.specs.GroupForwarding.{forwards_group}
use Rattle.pl_switch_rule.specs.Intake.{comes_from_host, hears_members, is_for_switch, mac_of_pmac, packet_acts, sends_in, source_pmac, takes, takes_in, takes_in_or_spent, with_pmac}
use Rattle.pl_node.specs.Accounting.{IsMade, IsShaped}
use Rattle.pl_switch_rule.specs.Levels.{finds_host}
use Rattle.pl_layouts.specs.Memberships.{is_group, membership_in}
use Rattle.pl_node.specs.PortRecords.{is_open_to_hosts, place_at, port_of}
use Rattle.pl_layouts.specs.Placement.{is_known, is_placed}
use Rattle.pl_steps.specs.Steps.{SwitchStep, does, ◌▹◌}
use Rattle.pl_switch_rule.specs.SwitchRule.{IsChoice, comes_from_switch, data_comes}
use Rattle.pl_node.specs.SwitchViews.{SwitchView}
use Rattle.pl_switch_rule.proofs.DataFrames.{arriving_made}
use Rattle.pl_switch_rule.proofs.GoingHome.{arrives_home_ends}
use Rattle.pl_switch_rule.proofs.GoingOut.{drop_ends, forwards_ends, forwards_group_ends, take_ends}
use Rattle.pl_switch_rule.proofs.GrantingParts.{quiet_learns_source}
use Rattle.pl_switch_rule.proofs.LevelParts.{quiet_finds_host}
use Rattle.pl_switch_rule.proofs.MessageParts.{quiet_hears_members, quiet_packet_acts}
use Rattle.pl_switch_rule.proofs.StepParts.{IsEnding, IsQuiet, quiet_then_ending, quiet_then_quiet}
use Rattle.pl_switch_rule.proofs.SentFrames.{six_of_mac}

-- one of two parts
if_ends : (v : SwitchView) (test : Bool) (a b : SwitchStep) → IsEnding v a → IsEnding v b → IsEnding v (if test then a else b)
if_ends v true a b first other = first
if_ends v false a b first other = other

with_pmac_made : (v : SwitchView) (port : ℕ) (frame : List ℕ) → IsMade frame → IsMade (with_pmac v port frame)
with_pmac_made v port frame made =
    arriving_made frame (mac_of_pmac (source_pmac v port frame)) None made (six_of_mac (source_pmac v port frame)) tt

-- to a group, to this switch's own hosts, or to others
to_where_ends : (choose : Choice) (v : SwitchView) (frame : List ℕ) (group other : SwitchStep) → IsChoice choose → IsShaped v →
    IsMade frame →
    IsEnding v group → IsEnding v other →
    IsEnding v (if is_group (destination_of frame) then group else if is_local v (destination frame) then arrives_home choose v frame else other)
to_where_ends choose v frame group other is_choice shaped made group_ends other_ends =
    if_ends v (is_group (destination_of frame)) group (if is_local v (destination frame) then arrives_home choose v frame else other) group_ends
    (if_ends v (is_local v (destination frame)) (arrives_home choose v frame) other (arrives_home_ends choose v frame is_choice shaped made) other_ends)

pub sends_in_ends : (choose : Choice) (frame : List ℕ) (v : SwitchView) → IsChoice choose → IsShaped v → IsMade frame →
    IsEnding v (sends_in choose frame v)
sends_in_ends choose frame v is_choice shaped made =
    to_where_ends choose v frame (forwards_group v (Some FromHost) frame) (forwards choose v (Some FromHost) frame) is_choice shaped made
    (forwards_group_ends v (Some FromHost) frame shaped made) (forwards_ends choose v (Some FromHost) frame is_choice shaped made)

-- what is heard from it, and then the frame is taken
hears_then_takes : (v : SwitchView) (s : SwitchStep) → IsQuiet v s → IsEnding v (s ▹ takes)
hears_then_takes v s quiet = quiet_then_ending v s takes quiet (λ w same. take_ends w same.shaped)

pub takes_in_ends : (choose : Choice) (port : ℕ) (frame : List ℕ) (v : SwitchView) → IsChoice choose → IsShaped v → IsMade frame →
    IsEnding v (takes_in choose port frame v)
takes_in_ends choose port frame v is_choice shaped made =
    let sent : SwitchStep = sends_in choose (with_pmac v port frame) v in
    let placed : SwitchStep = if not (is_placed v.place) then does v (Drop NotPlaced ∷ []) else sent in
    let joined : SwitchStep = if is_some (membership_in frame) then hears_members v port frame ▹ takes else placed in
    let packet : SwitchStep = does v (packet_acts v port frame (packet_in frame)) in
    let taken : SwitchStep = if is_for_switch v (destination_of frame) (packet_in frame) then packet ▹ takes else joined in
    if_ends v (is_arp frame && is_none (packet_in frame)) (does v (Drop BadArp ∷ [])) taken (drop_ends v BadArp shaped)
    (if_ends v (is_for_switch v (destination_of frame) (packet_in frame)) (packet ▹ takes) joined
    (hears_then_takes v packet (quiet_packet_acts v port frame (packet_in frame) shaped))
    (if_ends v (is_some (membership_in frame)) (hears_members v port frame ▹ takes) placed
    (hears_then_takes v (hears_members v port frame) (quiet_hears_members v port frame shaped))
    (if_ends v (not (is_placed v.place)) (does v (Drop NotPlaced ∷ [])) sent (drop_ends v NotPlaced shaped)
    (sends_in_ends choose (with_pmac v port frame) v is_choice shaped (with_pmac_made v port frame made)))))

pub takes_in_or_spent_ends : (choose : Choice) (port : ℕ) (frame : List ℕ) (v : SwitchView) → IsChoice choose → IsShaped v →
    IsMade frame → IsEnding v (takes_in_or_spent choose port frame v)
takes_in_or_spent_ends choose port frame v is_choice shaped made =
    if_ends v (has_no_address v port (source_of frame)) (does v (Drop Spent ∷ [])) (takes_in choose port frame v) (drop_ends v Spent shaped)
    (takes_in_ends choose port frame v is_choice shaped made)

pub comes_from_host_ends : (choose : Choice) (v : SwitchView) (port : ℕ) (frame : List ℕ) → IsChoice choose → IsShaped v →
    port < v.k → IsMade frame → IsEnding v (comes_from_host choose v port frame)
comes_from_host_ends choose v port frame is_choice shaped within made =
    let learns : SwitchView → SwitchStep = λ w. learns_source w port frame in
    let known : SwitchStep = finds_host v port ▹ learns in
    if_ends v (is_known v.place.level 1 || is_known v.place.level 2) (does v (Drop NotPlaced ∷ []))
    (known ▹ takes_in_or_spent choose port frame)
    (drop_ends v NotPlaced shaped)
    (quiet_then_ending v known (takes_in_or_spent choose port frame)
    (quiet_then_quiet v (finds_host v port) learns (quiet_finds_host v port shaped)
    (λ w same. quiet_learns_source w port frame same.shaped (subst (λ k. port < k) (sym same.k) within) made.whole.low))
    (λ w same. takes_in_or_spent_ends choose port frame w is_choice same.shaped made))

pub comes_from_switch_ends : (choose : Choice) (v : SwitchView) (port : ℕ) (frame : List ℕ) → IsChoice choose → IsShaped v → IsMade frame →
    IsEnding v (comes_from_switch choose v port frame)
comes_from_switch_ends choose v port frame is_choice shaped made =
    let group : SwitchStep = forwards_group v (came_by v port) frame in
    let other : SwitchStep = forwards choose v (came_by v port) frame in
    if_ends v (not (is_placed v.place) || is_none (place_at v port).level) (does v (Drop NotPlaced ∷ []))
    (if is_group (destination_of frame) then group else if is_local v (destination frame) then arrives_home choose v frame else other)
    (drop_ends v NotPlaced shaped)
    (to_where_ends choose v frame group other is_choice shaped made
    (forwards_group_ends v (came_by v port) frame shaped made) (forwards_ends choose v (came_by v port) frame is_choice shaped made))

pub data_comes_ends : (choose : Choice) (v : SwitchView) (port : ℕ) (frame : List ℕ) → IsChoice choose → IsShaped v →
    port < v.k → IsMade frame → IsEnding v (data_comes choose v port frame)
data_comes_ends choose v port frame is_choice shaped within made =
    if_ends v (is_open_to_hosts (port_of v port)) (comes_from_host choose v port frame) (comes_from_switch choose v port frame)
    (comes_from_host_ends choose v port frame is_choice shaped within made) (comes_from_switch_ends choose v port frame is_choice shaped made)
