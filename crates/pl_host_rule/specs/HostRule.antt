-- What a host does: one definition for each thing that it is told to do, and for a frame that arrives at it.
use Rattle.std.specs.Prelude.{◌≡◌, ◌↔◌, ℕ, ◌==◌, ◌&&◌, ◌||◌, not, nat_lt, nat_le, Bool, true, false, if◌then◌else◌, List, [], ◌∷◌, ◌++◌, map, filter, find, flat_map, fold, length, Option, Some, None, is_none, option_map, option_to_list}
use Rattle.pl_frame.specs.declared.address.Mac.{Mac}
use Rattle.pl_frame.specs.declared.address.Ip4.{Ip4}
use Rattle.pl_frame.specs.Ethernet.{destination_of, source_of, with_destination}
use Rattle.pl_arp.specs.declared.packet.Arp.{Arp}
use Rattle.pl_arp.specs.declared.cache.Me.{Me}
use Rattle.pl_arp.specs.Reception.{Table, answer_to, hardware_of, table_after}
use Rattle.pl_node.specs.declared.acts.HostAct.{HostAct}
use Rattle.pl_node.specs.declared.acts.HostAct.TheVariants.{Send}
use Rattle.pl_journal.specs.declared.cause.Skip.{Skip}
use Rattle.pl_journal.specs.declared.cause.Skip.TheVariants.{CutRecord, Short, Long, ForeignSource, ControlType, RecordedArp, NoOwner, HoldFull}
use Rattle.pl_node.specs.declared.reception.Reception.TheVariants.{Kept, NotMember}
use Rattle.pl_layouts.specs.Control.{is_control}
use Rattle.pl_layouts.specs.Frames.{is_arp, packet_in}
use Rattle.pl_layouts.specs.Memberships.{flood, group_of, is_group}
use Rattle.pl_layouts.specs.Reports.{membership_frame}
use Rattle.pl_node.specs.HostViews.{HeldFrames, HostView, groups_after, has_group, held_for, hold_limit, with_held}
use Rattle.pl_layouts.specs.ArpFrames.{arp_frame, broadcast, no_mac}
use Rattle.pl_layouts.specs.Equality.{same_mac}
use Rattle.pl_node.specs.HostDuties.{is_of}
use Rattle.pl_node.specs.HostInputs.{HostInput, HostAnswer, HostRule}
use Rattle.pl_node.specs.HostInputs.HostInput.{Starts, Retries, HasMoved, Plays, PlaysRaw, Joins, Leaves, Receives}
use Rattle.pl_node.specs.HostInputs.HostAnswer.{Nothing, Played, Received}

-- the host after a step, what it did, and its answer
pub record HostStep : Type 0 where
  pub view : HostView
  pub acts : List HostAct
  pub answer : HostAnswer

-- a step that ends with this view, sends these frames in order, and gives this answer
abbrev pub step_to : HostView → List (List ℕ) → HostAnswer → HostStep
step_to view frames answer = record { view = view; acts = map Send frames; answer = answer }

-- a host has joined what its frames say, once it has sent them
abbrev pub having_sent : HostView → List (List ℕ) → HostView
having_sent view frames = record view { joined = fold groups_after view.joined frames }

-- a host asks all others who has an IPv4 address
abbrev pub request_frame : Me → Ip4 → List ℕ
request_frame me ip = arp_frame broadcast (record { op = 1; sha = me.mac; spa = me.ip; tha = no_mac; tpa = ip })

-- a reply goes to its target
abbrev pub reply_frame : Arp → List ℕ
reply_frame arp = arp_frame arp.tha arp

-- at start a host asks for its own address, so that the fabric hears of it
abbrev pub start_frame : Me → List ℕ
start_frame me = request_frame me me.ip

-- it sends that frame and changes nothing
abbrev pub starting : HostView → HostStep
starting view = step_to view (start_frame view.me ∷ []) Nothing

-- it asks again for each address with held frames, by rising address
abbrev pub retrying : HostView → HostStep
retrying view = step_to view (map (λ entry. request_frame view.me entry.0) view.held) Nothing

-- a host reports that it is in a group
abbrev pub report_frame : Me → Ip4 → List ℕ
report_frame me group = membership_frame me (record { group = group; join = true })

-- a host leaves a group
abbrev pub leave_frame : Me → Ip4 → List ℕ
leave_frame me group = membership_frame me (record { group = group; join = false })

-- where it moved to it starts again, and reports each group that it has joined, by rising address
abbrev pub moving : HostView → HostStep
moving view = step_to view (start_frame view.me ∷ map (report_frame view.me) view.joined) Nothing

-- it sends the report, and has joined the group if it is a routed one
abbrev pub joining : HostView → Ip4 → HostStep
joining view group = let report = report_frame view.me group in step_to (having_sent view (report ∷ [])) (report ∷ []) Nothing

-- and the same for a leave
abbrev pub leaving : HostView → Ip4 → HostStep
leaving view group = let leave = leave_frame view.me group in step_to (having_sent view (leave ∷ [])) (leave ∷ []) Nothing

-- a frame of another source; of the packets only those are looked at that are played raw, since no other is played
abbrev pub is_foreign : Me → Bool → List ℕ → Bool
is_foreign me raw frame = not (same_mac (source_of frame) me.mac) || (raw && not (is_of me (packet_in frame)))

-- the other host of the topology that has a hardware address
abbrev pub other_host : HostView → Mac → Option Me
other_host view mac = find (λ host. same_mac host.mac mac && not (same_mac mac view.me.mac)) view.table

-- whether no further frame can be held for a host
abbrev pub is_full : HeldFrames → Option Me → Bool
is_full held None = false
is_full held (Some host) = nat_le hold_limit (length (held_for held host.ip))

-- why a frame to one host is not played as it is, if anything speaks against it
abbrev pub unicast_skip : HostView → Option Me → Option Skip
unicast_skip view host = if is_none host then Some NoOwner else if is_full view.held host then Some HoldFull else None

-- why a recorded frame is not played: the first thing that speaks against it
unfoldable pub skip_of : HostView → Bool → List ℕ → ℕ → Option Skip
skip_of view raw frame original = let dst = destination_of frame in
    if nat_lt (length frame) original then Some CutRecord
    else if nat_lt (length frame) 14 then Some Short
    else if nat_lt 65553 (length frame) then Some Long
    else if is_foreign view.me raw frame then Some ForeignSource
    else if is_control frame then Some ControlType
    else if raw then None
    else if is_arp frame then Some RecordedArp
    else if is_group dst then None
    else unicast_skip view (other_host view dst)

-- a frame that is skipped changes nothing
abbrev pub skipping : HostView → Skip → HostStep
skipping view skip = step_to view [] (Played (Some skip))

-- a recorded frame is sent, and its host has joined what it says
abbrev pub sending : HostView → List ℕ → HostStep
sending view frame = step_to (having_sent view (frame ∷ [])) (frame ∷ []) (Played None)

-- where no other frame is held for an address, the host asks for it
abbrev pub first_request : HostView → Ip4 → List (List ℕ)
first_request view ip = if length (held_for view.held ip) == 0 then request_frame view.me ip ∷ [] else []

-- a recorded frame is held behind those that are held for its address already
abbrev pub holding : HostView → Ip4 → List ℕ → HostStep
holding view ip frame = step_to (record view { held = with_held view.held ip frame }) (first_request view ip) (Played None)

-- a frame to another host goes to the hardware address that the cache has for it, or is held
abbrev pub sending_to : HostView → Ip4 → List ℕ → Option Mac → HostStep
sending_to view ip frame None = holding view ip frame
sending_to view ip frame (Some mac) = sending view (with_destination frame mac)

-- a frame to the host that was found, by the IPv4 address of that host; one to nobody was skipped before
abbrev pub sending_to_host : HostView → List ℕ → Option Me → HostStep
sending_to_host view frame None = skipping view NoOwner
sending_to_host view frame (Some host) = sending_to view host.ip frame (hardware_of view.cache host.ip)

-- a frame to a group goes as it was recorded
abbrev pub playing_frame : HostView → List ℕ → HostStep
playing_frame view frame = let dst = destination_of frame in if is_group dst then sending view frame else sending_to_host view frame (other_host view dst)

-- the step, unless something speaks against the frame
abbrev pub unless_skipped : HostView → Option Skip → HostStep → HostStep
unless_skipped view None step = step
unless_skipped view (Some skip) step = skipping view skip

-- a recorded frame is played
abbrev pub playing : HostView → List ℕ → ℕ → HostStep
playing view frame original = unless_skipped view (skip_of view false frame original) (playing_frame view frame)

-- a frame that is played raw goes as it was recorded
abbrev pub playing_raw : HostView → List ℕ → ℕ → HostStep
playing_raw view frame original = unless_skipped view (skip_of view true frame original) (sending view frame)

-- a frame of a routed group that the host has not joined
abbrev pub is_not_joined : HostView → Option ℕ → Bool
is_not_joined view None = false
is_not_joined view (Some group) = not (group == flood) && not (has_group view.joined group)

-- the frames that were held for an address, once the cache has a hardware address for it
abbrev pub released : List (List ℕ) → Option Mac → List (List ℕ)
released frames None = []
released frames (Some mac) = map (λ frame. with_destination frame mac) frames

-- all that are released, by rising address
abbrev pub released_by : Table → HeldFrames → List (List ℕ)
released_by cache held = flat_map (λ entry. released entry.1 (hardware_of cache entry.0)) held

-- and those that go on to wait
abbrev pub still_held : Table → HeldFrames → HeldFrames
still_held cache held = filter (λ entry. is_none (hardware_of cache entry.0)) held

-- a host that has learnt sends its reply, if it owes one, and then the frames that waited for what it learnt
abbrev pub sending_on : HostView → Option Arp → HostStep
sending_on view answer = let frames = option_to_list (option_map reply_frame answer) ++ released_by view.cache view.held in
    step_to (having_sent (record view { held = still_held view.cache view.held }) frames) frames (Received Kept)

-- it learns from each ARP packet that can be read
abbrev pub hearing : HostView → Option Arp → HostStep
hearing view None = step_to view [] (Received Kept)
hearing view (Some arp) = sending_on (record view { cache = table_after view.cache view.me arp }) (answer_to view.me arp)

-- a frame of a group that it has not joined changes nothing
abbrev pub receiving : HostView → List ℕ → HostStep
receiving view frame =
    if is_not_joined view (group_of (destination_of frame)) then step_to view [] (Received NotMember) else hearing view (packet_in frame)

-- the one step that a host takes, by what it knows and what it is told or hears
abbrev pub host_step : HostView → HostInput → HostStep
host_step view Starts = starting view
host_step view Retries = retrying view
host_step view HasMoved = moving view
host_step view (Plays frame original) = playing view frame original
host_step view (PlaysRaw frame original) = playing_raw view frame original
host_step view (Joins group) = joining view group
host_step view (Leaves group) = leaving view group
host_step view (Receives frame) = receiving view frame

-- the rule of the hosts here: just that step
abbrev pub host_rule : HostRule
host_rule view input after acts answer = host_step view input ≡ record { view = after; acts = acts; answer = answer }

-- a rule of just these steps
abbrev pub IsHostRule : HostRule → Type 0
IsHostRule rule = (view : HostView) (input : HostInput) (after : HostView) (acts : List HostAct) (answer : HostAnswer) →
    rule view input after acts answer ↔ host_rule view input after acts answer
