-- The first cause of a data frame that comes at a switch, and of the reply to its sender.
use Rattle.std.proofs.Common.{◌≡◌, ℕ, ◌&&◌, ◌||◌, not, Bool, true, false, if◌then◌else◌, List, [], ◌∷◌, Option, Some, None, is_some, is_none, refl, sym, ap, ap₂, subst, subst₂, ◌∙◌, inl}
use Rattle.pl_lemmas.proofs.Exports.{all_append}
use Rattle.pl_frame.specs.declared.address.Mac.{Mac}
use Rattle.pl_frame.specs.Ethernet.{destination_of, source_of}
use Rattle.pl_pmac.specs.declared.pmac.Pmac.{Pmac}
use Rattle.pl_pmac.specs.Pmac.{pmac_of}
use Rattle.pl_node.specs.Accounting.{IsComing, IsShaped, IsWholeFrame}
use Rattle.pl_node.specs.PortRecords.{place_at}
use Rattle.pl_node.specs.SwitchViews.{SwitchView}
use Rattle.pl_node.specs.declared.acts.Act.TheVariants.{Drop}
use Rattle.pl_node.specs.declared.trap.Trap.{Trap}
use Rattle.pl_journal.specs.declared.cause.Cause.{Cause}
use Rattle.pl_journal.specs.declared.cause.Cause.TheVariants.{BadArp, NoMember, NoNextHop, NotPlaced, Spent}
use Rattle.pl_layouts.specs.Frames.{is_arp, packet_in}
use Rattle.pl_layouts.specs.Memberships.{is_group, membership_in}
use Rattle.pl_layouts.specs.Placement.{is_placed}
use Rattle.pl_switch_rule.specs.declared.came.Came.{Came}
use Rattle.pl_switch_rule.specs.declared.came.Came.TheVariants.{FromHost}
use Rattle.pl_switch_rule.specs.CauseOf.{DropsFor, Intake, by_intake, cause_from_here, cause_to, if_nowhere, if_sent_on, intake, intake_of_host, intake_of_switch, is_told, reply_to}
use Rattle.pl_switch_rule.specs.CauseOf.Intake.{Refused, SentOn, TakenIn}
use Rattle.pl_switch_rule.specs.Delivering.{arrives_home, trap_for}
use Rattle.pl_switch_rule.specs.DropCauses.{came_in, first_drop, has_no_hosts, is_for_members, is_of_host, known_source, places, seen}
use Rattle.pl_switch_rule.specs.Forwarding.{Choice, came_by, candidates_by, forwards}
use Rattle.pl_switch_rule.specs.Granting.{has_no_address, is_local, is_port_spent, learns_source}
use Rattle.pl_switch_rule.specs.GroupForwarding.{destination_group, forwards_group, group_ports, no_way, passes_or_drops, way_of}
use Rattle.pl_switch_rule.specs.Intake.{hears_members, is_for_switch, packet_acts, sends_in, takes, takes_in, takes_in_or_spent, with_pmac}
use Rattle.pl_switch_rule.specs.Levels.{finds_host}
use Rattle.pl_steps.specs.Steps.{SwitchStep, does, ◌▹◌}
use Rattle.pl_switch_rule.specs.SwitchRule.{IsChoice, comes_from_switch, data_comes}
use Rattle.pl_switch_rule.proofs.CausesHere.{forwards_cause, home_drops_for, makes_none, no_trap_elsewhere}
use Rattle.pl_switch_rule.proofs.SentFrames.{IsSentOn, goes_where, host_sent_on, number_to, passes_drop_none, switch_sent_on}
use Rattle.pl_switch_rule.proofs.FirstCauses.{AllMakeNone, MakesNone, drops_behind, drops_nothing, drops_without}
use Rattle.pl_switch_rule.proofs.FirstDrops.{AllGoOn, GoesOn, quiet_go_on}
use Rattle.pl_switch_rule.proofs.LearntSources.{Finds, finds_host_finds, finds_then, finds_then_served, hears_learns_source, hears_members_on}
use Rattle.pl_switch_rule.proofs.MessageParts.{are_quiet_packet_acts}
use Rattle.pl_switch_rule.proofs.RowActs.{IsAnyPort, all_any, any_way, forwards_acts, passes_acts}

-- A frame to a group.

pub passes_cause : (ports sent : List ℕ) (cause : Cause) → first_drop (passes_or_drops ports sent cause) ≡ if_nowhere ports cause
passes_cause [] sent cause = refl
passes_cause (port ∷ ports) sent cause = passes_drop_none ports sent

pub passes_make_none : (ports sent : List ℕ) (cause : Cause) → AllMakeNone (passes_or_drops ports sent cause)
passes_make_none ports sent cause = passes_acts MakesNone IsAnyPort makes_none ports sent cause (all_any IsAnyPort ports (λ port. tt))

group_cause : (v : SwitchView) (port : ℕ) (frame : List ℕ) (came : Option Came) (sent : List ℕ) → IsSentOn v port frame came sent →
    first_drop (forwards_group v came sent).acts
    ≡ if_nowhere (places v port frame) (if is_for_members v port frame then NoMember else NoNextHop)
group_cause v port frame came sent on =
    let number : destination_group sent ≡ destination_group frame = ap number_to on.same_end in
    let from : Pmac = pmac_of (source_of sent) in
    let way = way_of v.place came in
    let same_places : group_ports v way (destination_group sent) from ≡ places v port frame =
    ap (λ g. group_ports v way g from) number ∙ ap (group_ports v way (destination_group frame)) on.known_so
    ∙ ap (λ c. group_ports v (way_of v.place c) (destination_group frame) (known_source v port frame)) (sym on.came_so) in
    let same_cause : no_way v came (destination_group sent) ≡ no_way v (came_in v port) (destination_group frame) =
    ap (no_way v came) number ∙ ap (λ c. no_way v c (destination_group frame)) (sym on.came_so) in
    passes_cause (group_ports v way (destination_group sent) from) sent (no_way v came (destination_group sent)) ∙ ap₂ if_nowhere same_places same_cause

-- A frame that is sent on.

sends_drops_for : (choose : Choice) (v : SwitchView) (port : ℕ) (frame : List ℕ) (came : Option Came) (sent : List ℕ) → IsChoice choose →
    IsSentOn v port frame came sent →
    DropsFor (goes_where choose v came sent).acts (cause_to v port frame (destination_of frame)) (reply_to v port frame (destination_of frame))
sends_drops_for choose v port frame came sent is_choice on =
    subst (λ m. DropsFor (goes_where choose v came sent).acts (cause_to v port frame m) (reply_to v port frame m)) on.same_end
    (by (is_group to) (is_local v (pmac_of to)) refl)
  where
    to : Mac
    to = destination_of sent

    trap : Option Trap
    trap = trap_for v (pmac_of to)

    group : SwitchStep
    group = forwards_group v came sent

    home : SwitchStep
    home = arrives_home choose v sent

    other : SwitchStep
    other = forwards choose v came sent

    to_group : Option Cause
    to_group = if_nowhere (places v port frame) (if is_for_members v port frame then NoMember else NoNextHop)

    away : Option Cause
    away = if_nowhere (candidates_by v (pmac_of to) (came_in v port)) NoNextHop

    reply : Option Cause
    reply = cause_from_here v (known_source v port frame)

    by : (for_group here : Bool) → is_local v (pmac_of to) ≡ here →
        DropsFor (if for_group then group else if here then home else other).acts
        (if for_group then to_group else if here then cause_from_here v (pmac_of to) else away)
        (if not for_group && is_told v (is_arp frame) trap then reply else None)
    by true here is = drops_without group.acts to_group
        (passes_make_none (group_ports v (way_of v.place came) (destination_group sent) (pmac_of (source_of sent))) sent (no_way v came (destination_group sent)))
        (group_cause v port frame came sent on)
    by false true is =
        subst₂ (λ arp source. DropsFor home.acts (cause_from_here v (pmac_of to)) (if is_told v arp trap then cause_from_here v source else None))
        on.same_kind on.known_so (home_drops_for choose v sent is_choice on.long is)
    by false false is =
        subst (λ o. DropsFor other.acts away (if is_told v (is_arp frame) o then reply else None)) (sym (no_trap_elsewhere v (pmac_of to) is))
        (drops_without other.acts away (forwards_acts MakesNone IsAnyPort makes_none choose v (any_way choose v) came sent)
        (forwards_cause choose v came sent is_choice ∙ ap (λ c. if_nowhere (candidates_by v (pmac_of to) c) NoNextHop) (sym on.came_so)))

-- Before that.

abbrev Meets : SwitchStep → Intake → Option Cause → Option Cause → Type 0
Meets s i on reply = DropsFor s.acts (by_intake i on) (if_sent_on i reply)

either_meets : (test : Bool) (s t : SwitchStep) (i j : Intake) (on reply : Option Cause) → Meets s i on reply → Meets t j on reply →
    Meets (if test then s else t) (if test then i else j) on reply
either_meets true s t i j on reply a b = a
either_meets false s t i j on reply a b = b

refused_meets : (v : SwitchView) (cause : Cause) (on reply : Option Cause) → Meets (does v (Drop cause ∷ [])) (Refused cause) on reply
refused_meets v cause on reply = record { came = refl; made = refl; others = inl refl }

taken_meets : (s : SwitchStep) (on reply : Option Cause) → AllGoOn s.acts → Meets (s ▹ takes) TakenIn on reply
taken_meets s on reply all = drops_nothing (s ▹ takes).acts (all_append GoesOn s.acts (takes s.view).acts all (tt, tt))

both_tests : (a b : Bool) → (a ≡ true → b ≡ true) → (a && b) ≡ a
both_tests true b follows = follows refl
both_tests false b follows = refl

host_meets : (choose : Choice) (port : ℕ) (frame : List ℕ) (v : SwitchView) → IsChoice choose → IsWholeFrame frame → is_of_host v port ≡ true →
    (has_no_address v port (source_of frame) ≡ true → is_port_spent v port ≡ true) →
    Meets (takes_in_or_spent choose port frame v) (intake_of_host v port frame) (cause_to v port frame (destination_of frame))
    (reply_to v port frame (destination_of frame))
host_meets choose port frame v is_choice whole host served =
    let on : Option Cause = cause_to v port frame (destination_of frame) in
    let reply : Option Cause = reply_to v port frame (destination_of frame) in
    let lacks : Bool = has_no_address v port (source_of frame) in
    let bad : Bool = is_arp frame && is_none (packet_in frame) in
    let mine : Bool = is_for_switch v (destination_of frame) (packet_in frame) in
    let member : Bool = is_some (membership_in frame) in
    let unplaced : Bool = not (is_placed v.place) in
    let sent : SwitchStep = sends_in choose (with_pmac v port frame) v in
    let placed : SwitchStep = if unplaced then does v (Drop NotPlaced ∷ []) else sent in
    let members : SwitchStep = hears_members v port frame in
    let joined : SwitchStep = if member then members ▹ takes else placed in
    let packet : SwitchStep = does v (packet_acts v port frame (packet_in frame)) in
    let taken : SwitchStep = if mine then packet ▹ takes else joined in
    let i_placed : Intake = if unplaced then Refused NotPlaced else SentOn in
    let i_joined : Intake = if member then TakenIn else i_placed in
    let i_taken : Intake = if mine then TakenIn else i_joined in
    let i_good : Intake = if bad then Refused BadArp else i_taken in
    subst (λ b. Meets (takes_in_or_spent choose port frame v) (if b then Refused Spent else i_good) on reply)
    (sym (both_tests lacks (is_port_spent v port) served))
    (either_meets lacks (does v (Drop Spent ∷ [])) (takes_in choose port frame v) (Refused Spent) i_good on reply (refused_meets v Spent on reply)
    (either_meets bad (does v (Drop BadArp ∷ [])) taken (Refused BadArp) i_taken on reply (refused_meets v BadArp on reply)
    (either_meets mine (packet ▹ takes) joined TakenIn i_joined on reply
    (taken_meets packet on reply (quiet_go_on v.k packet.acts (are_quiet_packet_acts v.k v port frame (packet_in frame))))
    (either_meets member (members ▹ takes) placed TakenIn i_placed on reply (taken_meets members on reply (hears_members_on v port frame))
    (either_meets unplaced (does v (Drop NotPlaced ∷ [])) sent (Refused NotPlaced) SentOn on reply (refused_meets v NotPlaced on reply)
    (sends_drops_for choose v port frame (Some FromHost) (with_pmac v port frame) is_choice (host_sent_on v port frame whole host)))))))

switch_meets : (choose : Choice) (v : SwitchView) (port : ℕ) (frame : List ℕ) → IsChoice choose → IsWholeFrame frame → is_of_host v port ≡ false →
    Meets (comes_from_switch choose v port frame) (intake_of_switch v port) (cause_to v port frame (destination_of frame))
    (reply_to v port frame (destination_of frame))
switch_meets choose v port frame is_choice whole switch =
    let on : Option Cause = cause_to v port frame (destination_of frame) in
    let reply : Option Cause = reply_to v port frame (destination_of frame) in
    either_meets (not (is_placed v.place) || is_none (place_at v port).level) (does v (Drop NotPlaced ∷ []))
    (goes_where choose v (came_by v port) frame) (Refused NotPlaced) SentOn on reply (refused_meets v NotPlaced on reply)
    (sends_drops_for choose v port frame (came_by v port) frame is_choice (switch_sent_on v port frame whole switch))

-- Both.

pub data_drops_for : (choose : Choice) (v : SwitchView) (port : ℕ) (frame : List ℕ) → IsChoice choose → IsShaped v → IsComing v.k port frame →
    DropsFor (data_comes choose v port frame).acts
    (by_intake (intake v port frame) (cause_to (seen v port frame) port frame (destination_of frame)))
    (if_sent_on (intake v port frame) (reply_to (seen v port frame) port frame (destination_of frame)))
data_drops_for choose v port frame is_choice shaped coming = by (is_of_host v port) (has_no_hosts v) refl
  where
    learns : SwitchView → SwitchStep
    learns w = learns_source w port frame

    known : SwitchStep
    known = finds_host v port ▹ learns

    further : SwitchStep
    further = known ▹ takes_in_or_spent choose port frame

    found : Finds port known
    found = finds_then port (finds_host v port) learns (finds_host_finds v port) (λ w. hears_learns_source w port frame)

    by : (host away : Bool) → is_of_host v port ≡ host →
        let now : SwitchView = if◌then◌else◌ {A = SwitchView} (host && not away) known.view v in
        Meets (if host then (if away then does v (Drop NotPlaced ∷ []) else further) else comes_from_switch choose v port frame)
        (if host then (if away then Refused NotPlaced else intake_of_host now port frame) else intake_of_switch v port)
        (cause_to now port frame (destination_of frame)) (reply_to now port frame (destination_of frame))
    by true true host = refused_meets v NotPlaced (cause_to v port frame (destination_of frame)) (reply_to v port frame (destination_of frame))
    by true false host =
        let rest = host_meets choose port frame known.view is_choice coming.whole found.open_to_hosts (finds_then_served v port frame shaped coming.within) in
        let i : Intake = intake_of_host known.view port frame in
        drops_behind known.acts (takes_in_or_spent choose port frame known.view).acts
        (by_intake i (cause_to known.view port frame (destination_of frame))) (if_sent_on i (reply_to known.view port frame (destination_of frame)))
        found.on rest
    by false away host = switch_meets choose v port frame is_choice coming.whole host
