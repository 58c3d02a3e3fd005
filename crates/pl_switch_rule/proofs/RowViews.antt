-- What a row leaves of the view: a row that passes a frame on leaves all of it, and one that learns of hosts all but what is known of them.
use Rattle.std.proofs.Common.{◌≡◌, ℕ, ◌&&◌, ◌||◌, not, nat_lt, Bool, true, if◌then◌else◌, List, [], ◌∷◌, Option, Some, None, is_none, is_some, refl, sym, ap, subst, ◌∙◌}
use Rattle.std.proofs.lemmas.Bool.{cond_both}
use Rattle.pl_frame.specs.declared.address.Ip4.{Ip4}
use Rattle.pl_frame.specs.declared.address.Mac.{Mac}
use Rattle.pl_frame.specs.declared.address.SwitchId.{SwitchId}
use Rattle.pl_frame.specs.Ethernet.{destination_of, source_of, with_destination}
use Rattle.pl_pmac.specs.declared.pmac.Pmac.{Pmac}
use Rattle.pl_pmac.specs.Pmac.{mac_of, pmac_of}
use Rattle.pl_journal.specs.Causes.{is_bad_arp}
use Rattle.pl_journal.specs.declared.cause.Cause.TheVariants.{BadArp, NotPlaced, Spent}
use Rattle.pl_layouts.specs.declared.control.Proposal.{Proposal}
use Rattle.pl_layouts.specs.declared.place.Place.{Place}
use Rattle.pl_layouts.specs.Equality.{is_ip}
use Rattle.pl_layouts.specs.Frames.{is_arp, packet_in}
use Rattle.pl_layouts.specs.Memberships.{is_group, membership_in}
use Rattle.pl_layouts.specs.Placement.{is_known, is_placed}
use Rattle.pl_node.specs.declared.acts.Act.TheVariants.{Drop, Tell}
use Rattle.pl_node.specs.declared.messages.ToManager.TheVariants.{Learned}
use Rattle.pl_node.specs.AddressUses.{is_in_use, standing_trap}
use Rattle.pl_node.specs.declared.address_use.AddressUse.{AddressUse}
use Rattle.pl_node.specs.declared.address_use.AddressUse.TheVariants.{Free, InUse, Resting, Trapped}
use Rattle.pl_node.specs.declared.switch_records.Grant.{Grant}
use Rattle.pl_node.specs.declared.switch_records.Member.{Member}
use Rattle.pl_node.specs.declared.switch_records.Source.{Source}
use Rattle.pl_node.specs.declared.trap.Trap.{Trap}
use Rattle.pl_node.specs.PortRecords.{place_at, port_of, ports_of_switch, with_port}
use Rattle.pl_node.specs.SwitchFacts.{hold_at}
use Rattle.pl_node.specs.SwitchViews.{SwitchView}
use Rattle.pl_steps.specs.Steps.{SwitchStep, does, rests, ◌▹◌}
use Rattle.pl_switch_rule.specs.declared.came.Came.{Came}
use Rattle.pl_switch_rule.specs.declared.came.Came.TheVariants.{FromHost}
use Rattle.pl_switch_rule.specs.Delivering.{addresses, arrives_home, begins, comes_home, delivers, delivers_or_redirects, delivers_to, destination, goes_on, last_trap, makes, newer_address, tells_newer, tells_sender, trap_for}
use Rattle.pl_switch_rule.specs.Forwarding.{Choice, came_by, candidates_by, forwards, leaves_by}
use Rattle.pl_switch_rule.specs.Aging.{ages, ages_out, ages_out_of, all_age_out, to_rest, with_older}
use Rattle.pl_switch_rule.specs.Granting.{address_at_port, forgets, freed_at, grant_number, granted, grants_at, grants_next, grants_or_learns, grants_remembered, grants_source, has_no_address, held_here, in_use, is_local, learns_ip, learns_source, next_vmid, remembered_at, remembers, sender_ip, uses}
use Rattle.pl_switch_rule.specs.GroupForwarding.{forwards_group}
use Rattle.pl_switch_rule.specs.Intake.{hears_members, is_for_switch, packet_acts, sends_in, takes, takes_in, takes_in_or_spent, with_pmac}
use Rattle.pl_switch_rule.specs.Levels.{becomes_edge, changes_to, finds_host, has_become_placed, settles_in}
use Rattle.pl_switch_rule.specs.Messages.{floods, forgets_members, frees, frees_at, invalidates, probes, probes_at, sets_trap, sets_trap_over, with_trap}
use Rattle.pl_switch_rule.specs.Positions.{answers_proposal, frees_others, half, hears_proposal, holds_for, is_free_for}
use Rattle.pl_switch_rule.specs.SwitchRule.{comes_from_switch}

-- A frame is passed on.

abbrev pub Stays : SwitchView → SwitchStep → Type 0
Stays v step = step.view ≡ v

leaves_stays : (v : SwitchView) (frame : List ℕ) (o : Option ℕ) → Stays v (leaves_by v frame o)
leaves_stays v frame None = refl
leaves_stays v frame (Some port) = refl

forwards_stays : (choose : Choice) (v : SwitchView) (came : Option Came) (frame : List ℕ) → Stays v (forwards choose v came frame)
forwards_stays choose v came frame = leaves_stays v frame (choose (candidates_by v (pmac_of (destination_of frame)) came) frame)

delivers_stays : (v : SwitchView) (address : Pmac) (frame : List ℕ) (o : Option Grant) → Stays v (delivers_to v address frame o)
delivers_stays v address frame None = refl
delivers_stays v address frame (Some grant) = refl

goes_on_stays : (choose : Choice) (v : SwitchView) (frame : List ℕ) → Stays v (goes_on choose v frame)
goes_on_stays choose v frame =
    cond_both (is_local v (destination frame)) (delivers v frame) (forwards choose v (Some FromHost) frame) (Stays v)
    (λ here. delivers_stays v (destination frame) frame (held_here v (destination frame))) (λ other. forwards_stays choose v (Some FromHost) frame)

pub home_stays : (choose : Choice) (v : SwitchView) (frame : List ℕ) (o : Option Trap) → Stays v (delivers_or_redirects choose v frame o)
home_stays choose v frame None = delivers_stays v (destination frame) frame (held_here v (destination frame))
home_stays choose v frame (Some trap) = goes_on_stays choose v (with_destination frame (mac_of (last_trap (addresses v) v trap).new))

pub begins_stays : (choose : Choice) (v : SwitchView) (frame : List ℕ) → Stays v (begins choose v frame)
begins_stays choose v frame =
    cond_both (is_local v (destination frame)) (comes_home choose v frame) (forwards choose v (Some FromHost) frame) (Stays v)
    (λ here. home_stays choose v frame (trap_for v (destination frame))) (λ other. forwards_stays choose v (Some FromHost) frame)

newer_stays : (choose : Choice) (frame : List ℕ) (new : Pmac) (ip : Option Ip4) (v : SwitchView) → Stays v (tells_newer choose frame new ip v)
newer_stays choose frame new None v = refl
newer_stays choose frame new (Some ip) v = begins_stays choose v (newer_address frame new ip)

sender_stays : (choose : Choice) (frame : List ℕ) (o : Option Trap) (v : SwitchView) → Stays v (tells_sender choose frame o v)
sender_stays choose frame None v = refl
sender_stays choose frame (Some trap) v =
    let last : Trap = last_trap (addresses v) v trap in
    cond_both (is_arp frame) (does v []) (tells_newer choose frame last.new last.ip v) (Stays v) (λ arp. refl)
    (λ other. newer_stays choose frame last.new last.ip v)

arrives_stays : (choose : Choice) (v : SwitchView) (frame : List ℕ) → Stays v (arrives_home choose v frame)
arrives_stays choose v frame =
    sender_stays choose frame (trap_for v (destination frame)) (comes_home choose v frame).view ∙ home_stays choose v frame (trap_for v (destination frame))

-- to a group, to hosts of this switch, or on to another one
sent_stays : (choose : Choice) (v : SwitchView) (came : Option Came) (frame : List ℕ) →
    Stays v (if is_group (destination_of frame) then forwards_group v came frame
    else if is_local v (destination frame) then arrives_home choose v frame else forwards choose v came frame)
sent_stays choose v came frame =
    cond_both (is_group (destination_of frame)) (forwards_group v came frame) _ (Stays v) (λ group. refl)
    (λ unicast. cond_both (is_local v (destination frame)) (arrives_home choose v frame) (forwards choose v came frame) (Stays v)
    (λ here. arrives_stays choose v frame) (λ other. forwards_stays choose v came frame))

pub sends_in_stays : (choose : Choice) (frame : List ℕ) (v : SwitchView) → Stays v (sends_in choose frame v)
sends_in_stays choose frame v = sent_stays choose v (Some FromHost) frame

pub switch_frame_stays : (choose : Choice) (v : SwitchView) (port : ℕ) (frame : List ℕ) → Stays v (comes_from_switch choose v port frame)
switch_frame_stays choose v port frame =
    cond_both (not (is_placed v.place) || is_none (place_at v port).level) (does v (Drop NotPlaced ∷ [])) _ (Stays v) (λ unplaced. refl)
    (λ placed. sent_stays choose v (came_by v port) frame)

pub answers_stay : (choose : Choice) (v : SwitchView) (test : Bool) (frame : List ℕ) → Stays v (if test then makes choose frame v else rests v)
answers_stay choose v test frame = cond_both test (makes choose frame v) (rests v) (Stays v) (λ known. begins_stays choose v frame) (λ unknown. refl)

pub floods_stay : (v : SwitchView) (test : Bool) (frame : List ℕ) → Stays v (if test then floods v frame else rests v)
floods_stay v test frame = cond_both test (floods v frame) (rests v) (Stays v) (λ known. refl) (λ unknown. refl)

pub probes_stay : (old : Pmac) (grant : Grant) (v : SwitchView) → Stays v (probes old grant v)
probes_stay old grant v =
    cond_both (is_in_use grant.held) (probes_at old grant.amac grant.ip v) (rests v) (Stays v) (λ used. refl) (λ unused. refl)

-- A frame that is taken in goes on, or ends here, and leaves the view; or it changes what is known of members.
pub taken_in : (choose : Choice) (port : ℕ) (frame : List ℕ) (v : SwitchView) (S : SwitchStep → Type 0) → ((cause : _) → S (does v (Drop cause ∷ []))) →
    S (does v (packet_acts v port frame (packet_in frame)) ▹ takes) → S (hears_members v port frame ▹ takes) → S (sends_in choose (with_pmac v port frame) v) →
    S (takes_in_or_spent choose port frame v)
taken_in choose port frame v S dropped packet members sent =
    cond_both (has_no_address v port (source_of frame)) (does v (Drop Spent ∷ [])) (takes_in choose port frame v) S (λ spent. dropped Spent)
    (λ has. cond_both (is_bad_arp frame) (does v (Drop BadArp ∷ [])) _ S (λ bad. dropped BadArp)
    (λ good. cond_both (is_for_switch v (destination_of frame) (packet_in frame)) (does v (packet_acts v port frame (packet_in frame)) ▹ takes) _ S
    (λ own. packet)
    (λ other. cond_both (is_some (membership_in frame)) (hears_members v port frame ▹ takes) _ S (λ membership. members)
    (λ data_frame. cond_both (not (is_placed v.place)) (does v (Drop NotPlaced ∷ [])) (sends_in choose (with_pmac v port frame) v) S
    (λ unplaced. dropped NotPlaced)
    (λ placed. sent)))))

-- What is known of hosts: addresses and sources, and members.

abbrev pub LearnsSources : SwitchView → SwitchView → Type 0
LearnsSources v w = w ≡ record v { grants = w.grants; used = w.used; freed = w.freed; remembered = w.remembered }

sources_then : (u v w : SwitchView) → LearnsSources u v → LearnsSources v w → LearnsSources u w
sources_then u v w first next =
    let learnt : SwitchView → SwitchView = λ x. record x { grants = w.grants; used = w.used; freed = w.freed; remembered = w.remembered } in next ∙ ap learnt first

abbrev pub LearnsHosts : SwitchView → SwitchView → Type 0
LearnsHosts v w =
    w ≡ record v { grants = w.grants; used = w.used; trapped = w.trapped; freed = w.freed; remembered = w.remembered; members = w.members }

pub hosts_then : (u v w : SwitchView) → LearnsHosts u v → LearnsHosts v w → LearnsHosts u w
hosts_then u v w first next =
    let learnt : SwitchView → SwitchView =
    λ x. record x { grants = w.grants; used = w.used; trapped = w.trapped; freed = w.freed; remembered = w.remembered; members = w.members } in next ∙ ap learnt first

pub sources_are_of_hosts : (v w : SwitchView) → LearnsSources v w → LearnsHosts v w
sources_are_of_hosts v w learns =
    let others : List Pmac → List Member → SwitchView =
    λ trapped members. record v { grants = w.grants; used = w.used; trapped = trapped; freed = w.freed; remembered = w.remembered; members = members } in
    learns ∙ ap (λ (trapped : List Pmac). others trapped v.members) (sym (ap (λ (x : SwitchView). x.trapped) learns))
    ∙ ap (λ (members : List Member). others w.trapped members) (sym (ap (λ (x : SwitchView). x.members) learns))

pub stays_learns : (v w : SwitchView) → w ≡ v → LearnsHosts v w
stays_learns v w stays = subst (LearnsHosts v) (sym stays) refl

abbrev pub Learns : SwitchView → SwitchStep → Type 0
Learns v step = LearnsSources v step.view

learns_ip_learns : (v : SwitchView) (address : Pmac) (grant : Option Grant) (ip : Option Ip4) → Learns v (learns_ip v address grant ip)
learns_ip_learns v address None ip = refl
learns_ip_learns v address (Some grant) None = refl
learns_ip_learns v address (Some grant) (Some ip) =
    cond_both (is_ip grant.ip ip) (rests (uses v address grant)) (record {
      view = uses v address (record grant { ip = Some ip });
      acts = Tell
          (Learned address grant.amac (Some ip)) ∷ [];
    })
    (Learns v) (λ same. refl) (λ new. refl)

next_learns : (v : SwitchView) (port : ℕ) (amac : Mac) (ip : Option Ip4) (vmid : Option ℕ) → Learns v (grants_next v port amac ip vmid)
next_learns v port amac ip None = refl
next_learns v port amac ip (Some vmid) = refl

grants_learn : (v : SwitchView) (port : ℕ) (amac : Mac) (ip : Option Ip4) (vmid : Option ℕ) → Learns v (grants_or_learns v port amac ip vmid)
grants_learn v port amac ip (Some vmid) = learns_ip_learns v (address_at_port v port vmid) (grant_number (grants_at v port) vmid) ip
grants_learn v port amac ip None = next_learns v port amac ip (next_vmid (freed_at v port) (grants_at v port))

grants_source_learns : (v : SwitchView) (port : ℕ) (source : Option Source) → Learns v (grants_source v port source)
grants_source_learns v port None = refl
grants_source_learns v port (Some source) = grants_learn v port source.amac source.ip (in_use (grants_at v port) source.amac)

remembered_learn : (ports : List ℕ) (v : SwitchView) → Learns v (grants_remembered ports v)
unfolding grants_remembered
remembered_learn [] v = refl
remembered_learn (port ∷ ports) v =
    let first : SwitchStep = grants_source v port (remembered_at v port) in
    let second : SwitchStep = first ▹ forgets port in
    sources_then v second.view (second ▹ grants_remembered ports).view
    (sources_then v first.view second.view (grants_source_learns v port (remembered_at v port)) refl)
    (remembered_learn ports second.view)

pub settles_in_learns : (old : Place) (v : SwitchView) → Learns v (settles_in old v)
settles_in_learns old v =
    cond_both (has_become_placed old v.place) (grants_remembered (ports_of_switch v.k) v) (rests v) (Learns v)
    (λ placed. remembered_learn (ports_of_switch v.k) v) (λ other. refl)

pub changes_learn : (old new : SwitchView) → Learns new (changes_to old new)
changes_learn old new = settles_in_learns old.place new

pub source_learns : (v : SwitchView) (port : ℕ) (frame : List ℕ) → Learns v (learns_source v port frame)
source_learns v port frame =
    cond_both (is_placed v.place) (grants_or_learns v port (source_of frame) (sender_ip frame) (in_use (grants_at v port) (source_of frame)))
    (remembers v port (source_of frame) (sender_ip frame)) (Learns v)
    (λ placed. grants_learn v port (source_of frame) (sender_ip frame) (in_use (grants_at v port) (source_of frame))) (λ unplaced. refl)

taken_in_learns : (choose : Choice) (port : ℕ) (frame : List ℕ) (v : SwitchView) → LearnsHosts v (takes_in_or_spent choose port frame v).view
taken_in_learns choose port frame v =
    taken_in choose port frame v (λ step. LearnsHosts v step.view) (λ cause. refl) refl refl
    (stays_learns v _ (sends_in_stays choose (with_pmac v port frame) v))

trap_learns : (v : SwitchView) (old : Pmac) (grant : Grant) (trap : Trap) (standing : Option Trap) → LearnsHosts v (sets_trap_over standing v old grant trap)
trap_learns v old grant trap None = refl
trap_learns v old grant trap (Some standing) =
    cond_both (nat_lt trap.number standing.number) v (with_trap v old grant trap) (LearnsHosts v) (λ smaller. refl) (λ larger. refl)

pub trap_keeps_members : (v : SwitchView) (old : Pmac) (grant : Grant) (trap : Trap) (standing : Option Trap) → (sets_trap_over standing v old grant trap).members ≡ v.members
trap_keeps_members v old grant trap None = refl
trap_keeps_members v old grant trap (Some standing) =
    cond_both (nat_lt trap.number standing.number) v (with_trap v old grant trap) (λ (w : SwitchView). w.members ≡ v.members) (λ smaller. refl) (λ larger. refl)

pub invalidates_learns : (v : SwitchView) (old : Pmac) (trap : Trap) (grant : Option Grant) → LearnsHosts v (invalidates v old trap grant).view
invalidates_learns v old trap None = refl
invalidates_learns v old trap (Some grant) =
    let forgot : SwitchStep = does (sets_trap v old grant trap) [] ▹ forgets_members old.port grant.amac in
    hosts_then v forgot.view (forgot ▹ probes old grant).view
    (hosts_then v (sets_trap v old grant trap) forgot.view (trap_learns v old grant trap (standing_trap grant.held)) refl)
    (stays_learns forgot.view (probes old grant forgot.view).view (probes_stay old grant forgot.view))

-- Addresses are freed, and age.

frees_at_learns : (v : SwitchView) (address : Pmac) (grant : Grant) (held : AddressUse) → Learns v (frees_at v address grant held)
frees_at_learns v address grant (InUse idle) = refl
frees_at_learns v address grant (Trapped trap age) = refl
frees_at_learns v address grant (Resting number) = refl
frees_at_learns v address grant Free = refl

pub frees_learn : (v : SwitchView) (address : Pmac) (grant : Option Grant) → Learns v (frees v address grant)
frees_learn v address None = refl
frees_learn v address (Some grant) = frees_at_learns v address grant grant.held

ages_out_of_learns : (v : SwitchView) (address : Pmac) (grant : Grant) (held : AddressUse) → LearnsHosts v (ages_out_of v address grant held).view
ages_out_of_learns v address grant (InUse idle) = refl
ages_out_of_learns v address grant (Trapped trap age) = refl
ages_out_of_learns v address grant (Resting number) = refl
ages_out_of_learns v address grant Free = refl

ages_out_learns : (v : SwitchView) (address : Pmac) (grant : Option Grant) → LearnsHosts v (ages_out address grant v).view
ages_out_learns v address None = refl
ages_out_learns v address (Some grant) = ages_out_of_learns v address grant grant.held

all_age_out_learns : (addresses : List Pmac) (v : SwitchView) → LearnsHosts v (all_age_out addresses v).view
unfolding all_age_out
all_age_out_learns [] v = refl
all_age_out_learns (address ∷ addresses) v =
    let first : SwitchStep = ages_out address (granted v address) v in
    hosts_then v first.view (first ▹ all_age_out addresses).view (ages_out_learns v address (granted v address)) (all_age_out_learns addresses first.view)

pub ages_learn : (v : SwitchView) → LearnsHosts v (ages v).view
ages_learn v =
    let o = with_older v in hosts_then v o (ages v).view refl (all_age_out_learns (to_rest o) o)

-- A host is found at a port, and what its frame shows is learnt.

abbrev pub with_host : SwitchView → ℕ → SwitchView
with_host v port = becomes_edge (with_port v port (record (port_of v port) { host = true }))

pub host_frame_learns : (choose : Choice) (v : SwitchView) (port : ℕ) (frame : List ℕ) →
    LearnsHosts (with_host v port) (finds_host v port ▹ (λ w. learns_source w port frame) ▹ takes_in_or_spent choose port frame).view
host_frame_learns choose v port frame =
    let found : SwitchView = (finds_host v port).view in
    let known : SwitchView = (learns_source found port frame).view in
    hosts_then (with_host v port) known (takes_in_or_spent choose port frame known).view
    (sources_are_of_hosts (with_host v port) known (sources_then (with_host v port) found known (changes_learn v (with_host v port))
    (source_learns found port frame)))
    (taken_in_learns choose port frame known)

-- A position is proposed.
pub proposal_holds : (v : SwitchView) (port : ℕ) (edge : SwitchId) (p : Proposal) →
    (hears_proposal v port edge p).view ≡ record v { holds = (hears_proposal v port edge p).view.holds }
proposal_holds v port edge p =
    let freed : SwitchView = frees_others v edge p.position in
    cond_both (is_known v.place.level 1 && is_known (place_at v port).level 0 && nat_lt p.position (half v.k)) (answers_proposal freed port edge p) (rests v)
    (λ (step : SwitchStep). step.view ≡ record v { holds = step.view.holds })
    (λ answers. cond_both (is_free_for edge (hold_at freed p.position)) (holds_for freed edge p.position) freed (λ w. w ≡ record v { holds = w.holds })
    (λ free. refl) (λ held. refl)) (λ other. refl)
