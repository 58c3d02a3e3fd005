-- All other acts pass each frame on at most once.
use Rattle.std.proofs.Common.{◌≡◌, ℕ, ◌≤◌, ◌<◌, ◌||◌, Bool, true, false, if◌then◌else◌, List, [], ◌∷◌, ◌++◌, map, Option, None, Some, length, refl, sym, ap, ◌∙◌, subst, arith}
use Rattle.std.specs.List.{AllByRecursion, flat_map}
use Rattle.std.proofs.lemmas.Bool.{cond_both, false≢true}
use Rattle.std.proofs.lemmas.List.{append-nil}
use Rattle.pl_frame.specs.declared.address.Ip4.{Ip4}
use Rattle.pl_frame.specs.declared.address.Mac.{Mac}
use Rattle.pl_frame.specs.Ethernet.{destination_of, with_destination}
use Rattle.pl_pmac.specs.declared.pmac.Pmac.{Pmac}
use Rattle.pl_pmac.specs.Pmac.{mac_of, pmac_of}
use Rattle.pl_wiring.specs.Plan.{Plan}
use Rattle.pl_layouts.specs.Frames.{is_arp, packet_in}
use Rattle.pl_layouts.specs.Memberships.{is_group}
use Rattle.pl_layouts.specs.Placement.{is_known}
use Rattle.pl_journal.specs.declared.cause.Cause.{Cause}
use Rattle.pl_journal.specs.declared.cause.Cause.TheVariants.{NotPlaced}
use Rattle.pl_journal.specs.Places.{EdgePort}
use Rattle.pl_node.specs.declared.acts.Act.{Act}
use Rattle.pl_node.specs.declared.acts.Act.TheVariants as act
use Rattle.pl_node.specs.AddressUses.{is_in_use}
use Rattle.pl_node.specs.declared.switch_records.Grant.{Grant}
use Rattle.pl_node.specs.declared.trap.Trap.{Trap}
use Rattle.pl_node.specs.declared.messages.ToSwitch.{ToSwitch}
use Rattle.pl_node.specs.declared.messages.ToManager.{ToManager}
use Rattle.pl_node.specs.declared.messages.ToSwitch.TheVariants.{Answer, Avoid, Flood, Hello, Invalidate, Pod, Release, Tree}
use Rattle.pl_node.specs.Accounting.{IsShaped, FrameState, frame_state, frame_state_after}
use Rattle.pl_node.specs.Accounting.FrameState.{Ended, Passed, Redirected, Silent, Waiting, Wrong}
use Rattle.pl_node.specs.SwitchViews.{SwitchView}
use Rattle.pl_steps.specs.Steps.{SwitchStep, does, rests, ◌▹◌}
use Rattle.pl_switch_rule.specs.Aging.{ages, all_age_out, probe_of, probes_idle, to_probe, to_rest, with_older}
use Rattle.pl_switch_rule.specs.Announcing.{tells_neighbours, ticks}
use Rattle.pl_switch_rule.specs.declared.came.Came.{Came}
use Rattle.pl_switch_rule.specs.Reporting.{report_for}
use Rattle.pl_switch_rule.specs.declared.came.Came.TheVariants.{FromHost}
use Rattle.pl_switch_rule.specs.Delivering.{addresses, arrives_home, begins, comes_home, delivers, delivers_or_redirects, delivers_to, destination, goes_on, last_trap, makes, newer_address, redirects, tells_newer, tells_sender, trap_for}
use Rattle.pl_switch_rule.specs.Forwarding.{Choice, candidates_by, forwards, leaves_by}
use Rattle.pl_switch_rule.specs.Granting.{granted, held_here, is_granted, is_local, learns_source}
use Rattle.pl_switch_rule.specs.GroupForwarding.{at_most_one, destination_group, forwards_group, no_way, passes_or_drops}
use Rattle.pl_switch_rule.specs.Intake.{comes_from_host, hears_members, packet_acts, sends_in, takes_in_or_spent, with_pmac}
use Rattle.pl_switch_rule.specs.Levels.{finds_host}
use Rattle.pl_switch_rule.specs.Messages.{answer_frame, flood_frame, floods, forgets_members, hears_manager, invalidates, probe_acts, probes, probes_at, sets_trap}
use Rattle.pl_switch_rule.proofs.Exports.{all_age_out_acts, AreGrantedAt, arp_acts, frees_acts, groups_acts, held_at, IsQuiet, quiet_finds_host, quiet_forgets_members, quiet_hears_pod, quiet_learns_source, quiet_neighbours, quiet_sets_trap, quiet_then_quiet, redirects_acts, taken_in}
use Rattle.pl_law_counts.proofs.Exports.{one_at_most, used}
use Rattle.pl_law_copies.specs.Copies.{may_come_by}
use Rattle.pl_law_copies.proofs.ActsKeepOneCopy.{MakesFew}

-- each frame that acts speak of is passed on at most once; whether the one in hand still may be
abbrev pub AreSingle : Bool → List Act → Type 0
AreSingle may [] = Unit {0}
AreSingle may (act.Pass port frame ∷ acts) = (may ≡ true) × AreSingle false acts
AreSingle may (act.Make frame ∷ acts) = AreSingle true acts
AreSingle may (a ∷ acts) = AreSingle may acts

-- an act that passes nothing on, and makes nothing
abbrev pub IsStill : Act → Type 0
IsStill (act.Pass port frame) = ⊥
IsStill (act.Make frame) = ⊥
IsStill a = Unit {0}

abbrev pub AreStill : List Act → Type 0
AreStill acts = AllByRecursion IsStill acts

module _ (plan : Plan) (s : ℕ) (there : EdgePort) where
  pub single_used : (may : Bool) (acts : List Act) → AreSingle may acts → used may_come_by plan s there acts ≤ (if may then 1 else 0)
  single_used true [] single = omega arith
  single_used false [] single = omega arith
  single_used may (act.Control port frame ∷ acts) single = single_used may acts single
  single_used may (act.Tell told ∷ acts) single = single_used may acts single
  single_used may (act.Grant pmac amac ∷ acts) single = single_used may acts single
  single_used may (act.Free pmac ∷ acts) single = single_used may acts single
  single_used true (act.Make frame ∷ acts) single = omega arith
  single_used false (act.Make frame ∷ acts) single = omega arith
  single_used may (act.Redirect old new ∷ acts) single = single_used may acts single
  single_used true (act.Pass port frame ∷ acts) single =
      (let rest = single_used false acts single.1 in let here = one_at_most (may_come_by plan s port there frame) in omega arith)
  single_used false (act.Pass port frame ∷ acts) single = absurd (false≢true single.0)
  single_used may (act.Take ∷ acts) single = single_used may acts single
  single_used may (act.Drop why ∷ acts) single = single_used may acts single

pub single_few : (plan : Plan) (s : ℕ) (may : Bool) (acts : List Act) → AreSingle may acts → MakesFew plan s acts
single_few plan s may [] single = tt
single_few plan s may (act.Make frame ∷ acts) single = (λ there. single_used plan s there true acts single, single_few plan s true acts single)
single_few plan s may (act.Pass port frame ∷ acts) single = single_few plan s false acts single.1
single_few plan s may (a ∷ acts) single = single_few plan s may acts single

-- still acts, and what follows them
pub still_single : (may : Bool) (acts rest : List Act) → AreStill acts → AreSingle may rest → AreSingle may (acts ++ rest)
still_single may [] rest still single = single
still_single may (act.Make frame ∷ acts) rest still single = absurd still.0
still_single may (act.Pass port frame ∷ acts) rest still single = absurd still.0
still_single may (a ∷ acts) rest still single = still_single may acts rest still.1 single

pub still_is_single : (may : Bool) (acts : List Act) → AreStill acts → AreSingle may acts
still_is_single may acts still = subst (AreSingle may) (append-nil acts) (still_single may acts [] still tt)

-- and what begins with another frame
pub single_then : (may : Bool) (acts rest : List Act) → AreSingle may acts → ((b : Bool) → AreSingle b rest) → AreSingle may (acts ++ rest)
single_then may [] rest single more = more may
single_then may (act.Make frame ∷ acts) rest single more = single_then true acts rest single more
single_then may (act.Pass port frame ∷ acts) rest single more = (single.0, single_then false acts rest single.1 more)
single_then may (a ∷ acts) rest single more = single_then may acts rest single more

-- a quiet part is still: once a frame is spoken of, acts speak of one to their end

abbrev is_silent : FrameState → Bool
is_silent Silent = true
is_silent _ = false

speaks_on : (now : FrameState) (a : Act) → is_silent now ≡ false → is_silent (frame_state_after now a) ≡ false
speaks_on Silent a is = absurd (false≢true (sym is))
speaks_on Waiting act.Take is = refl
speaks_on Waiting a is = refl
speaks_on Redirected act.Take is = refl
speaks_on Redirected a is = refl
speaks_on Passed act.Take is = refl
speaks_on Passed a is = refl
speaks_on Ended act.Take is = refl
speaks_on Ended a is = refl
speaks_on Wrong act.Take is = refl
speaks_on Wrong a is = refl

speaks_to_the_end : (now : FrameState) (acts : List Act) → is_silent now ≡ false → is_silent (frame_state now acts) ≡ false
speaks_to_the_end now [] is = is
speaks_to_the_end now (a ∷ acts) is = speaks_to_the_end (frame_state_after now a) acts (speaks_on now a is)

silent_is_still : (acts : List Act) → frame_state Silent acts ≡ Silent → AreStill acts
silent_is_still [] is = tt
silent_is_still (act.Control port frame ∷ acts) is = (tt, silent_is_still acts is)
silent_is_still (act.Tell told ∷ acts) is = (tt, silent_is_still acts is)
silent_is_still (act.Grant pmac amac ∷ acts) is = (tt, silent_is_still acts is)
silent_is_still (act.Free pmac ∷ acts) is = (tt, silent_is_still acts is)
silent_is_still (act.Make frame ∷ acts) is = absurd (false≢true (sym (speaks_to_the_end Waiting acts refl) ∙ ap is_silent is))
silent_is_still (a ∷ acts) is = absurd (false≢true (sym (speaks_to_the_end Wrong acts refl) ∙ ap is_silent is))

pub quiet_still : (v : SwitchView) (step : SwitchStep) → IsQuiet v step → AreStill step.acts
quiet_still v step quiet = silent_is_still step.acts quiet.silent

-- The rows.

abbrev pub IsSingle : SwitchStep → Type 0
IsSingle step = AreSingle true step.acts

leaves_single : (v : SwitchView) (frame : List ℕ) (o : Option ℕ) → IsSingle (leaves_by v frame o)
leaves_single v frame None = tt
leaves_single v frame (Some port) = (refl, tt)

pub forwards_single : (choose : Choice) (v : SwitchView) (came : Option Came) (frame : List ℕ) → IsSingle (forwards choose v came frame)
forwards_single choose v came frame = leaves_single v frame (choose (candidates_by v (pmac_of (destination_of frame)) came) frame)

-- a frame of a group goes up by one port
up_single : (ports frame : List ℕ) (why : Cause) → AreSingle true (passes_or_drops (at_most_one ports) frame why)
up_single [] frame why = tt
up_single (p ∷ ports) frame why = (refl, tt)

pub group_up_single : (v : SwitchView) (frame : List ℕ) → IsSingle (forwards_group v (Some FromHost) frame)
group_up_single v frame = up_single _ frame (no_way v (Some FromHost) (destination_group frame))

delivers_single : (v : SwitchView) (address : Pmac) (frame : List ℕ) (o : Option Grant) → IsSingle (delivers_to v address frame o)
delivers_single v address frame None = tt
delivers_single v address frame (Some grant) = (refl, tt)

goes_on_single : (choose : Choice) (v : SwitchView) (frame : List ℕ) → IsSingle (goes_on choose v frame)
goes_on_single choose v frame = cond_both (is_local v (destination frame)) (delivers v frame) (forwards choose v (Some FromHost) frame) IsSingle
    (λ own. delivers_single v (destination frame) frame (held_here v (destination frame))) (λ other. forwards_single choose v (Some FromHost) frame)

home_single : (choose : Choice) (v : SwitchView) (frame : List ℕ) (o : Option Trap) → IsSingle (delivers_or_redirects choose v frame o)
home_single choose v frame None = delivers_single v (destination frame) frame (held_here v (destination frame))
home_single choose v frame (Some trap) =
    still_single true (act.Redirect (destination frame) trap.new ∷ redirects (addresses v) v trap)
    (goes_on choose v (with_destination frame (mac_of (last_trap (addresses v) v trap).new))).acts
    (tt, redirects_acts IsStill (λ old new. tt) (addresses v) v trap)
    (goes_on_single choose v (with_destination frame (mac_of (last_trap (addresses v) v trap).new)))

begins_single : (choose : Choice) (v : SwitchView) (frame : List ℕ) → IsSingle (begins choose v frame)
begins_single choose v frame = cond_both (is_local v (destination frame)) (comes_home choose v frame) (forwards choose v (Some FromHost) frame) IsSingle
    (λ own. home_single choose v frame (trap_for v (destination frame))) (λ other. forwards_single choose v (Some FromHost) frame)

newer_single : (choose : Choice) (frame : List ℕ) (new : Pmac) (o : Option Ip4) (v : SwitchView) (b : Bool) → AreSingle b (tells_newer choose frame new o v).acts
newer_single choose frame new None v b = tt
newer_single choose frame new (Some ip) v b = begins_single choose v (newer_address frame new ip)

sender_single : (choose : Choice) (frame : List ℕ) (o : Option Trap) (v : SwitchView) (b : Bool) → AreSingle b (tells_sender choose frame o v).acts
sender_single choose frame None v b = tt
sender_single choose frame (Some trap) v b =
    cond_both (is_arp frame) (does v []) (tells_newer choose frame (last_trap (addresses v) v trap).new (last_trap (addresses v) v trap).ip v) (λ step. AreSingle b step.acts)
    (λ arp. tt) (λ other. newer_single choose frame _ _ v b)

pub arrives_single : (choose : Choice) (v : SwitchView) (frame : List ℕ) → IsSingle (arrives_home choose v frame)
arrives_single choose v frame =
    single_then true (comes_home choose v frame).acts (tells_sender choose frame (trap_for v (destination frame)) (comes_home choose v frame).view).acts
    (home_single choose v frame (trap_for v (destination frame)))
    (λ b. sender_single choose frame (trap_for v (destination frame)) (comes_home choose v frame).view b)

-- a frame of a host
pub sends_single : (choose : Choice) (frame : List ℕ) (v : SwitchView) → IsSingle (sends_in choose frame v)
sends_single choose frame v =
    cond_both (is_group (destination_of frame)) (forwards_group v (Some FromHost) frame) _ IsSingle (λ group. group_up_single v frame)
    (λ unicast. cond_both (is_local v (destination frame)) (arrives_home choose v frame) (forwards choose v (Some FromHost) frame) IsSingle
    (λ own. arrives_single choose v frame) (λ other. forwards_single choose v (Some FromHost) frame))

takes_in_single : (choose : Choice) (port : ℕ) (frame : List ℕ) (v : SwitchView) → IsSingle (takes_in_or_spent choose port frame v)
takes_in_single choose port frame v =
    taken_in choose port frame v IsSingle (λ cause. tt)
    (still_single true (packet_acts v port frame (packet_in frame)) (act.Take ∷ [])
    (arp_acts IsStill (λ asker asker_ip ip. tt) v port frame (packet_in frame)) tt)
    (still_single true (hears_members v port frame).acts (act.Take ∷ []) (groups_acts IsStill v.members _ (λ group other. tt)) tt)
    (sends_single choose (with_pmac v port frame) v)

pub host_single : (choose : Choice) (v : SwitchView) (port : ℕ) (frame : List ℕ) → IsShaped v → port < v.k → 14 ≤ length frame →
    IsSingle (comes_from_host choose v port frame)
host_single choose v port frame shaped within long =
    cond_both (is_known v.place.level 1 || is_known v.place.level 2) (does v (act.Drop NotPlaced ∷ [])) _ IsSingle (λ no_hosts. tt)
    (λ edge.
    let learns : SwitchView → SwitchStep = λ w. learns_source w port frame in
    let known : SwitchStep = finds_host v port ▹ learns in
    let quiet : IsQuiet v known = quiet_then_quiet v (finds_host v port) learns (quiet_finds_host v port shaped)
    (λ w same. quiet_learns_source w port frame same.shaped (subst (λ k. port < k) (sym same.k) within) long) in
    still_single true known.acts (takes_in_or_spent choose port frame known.view).acts (quiet_still v known quiet)
    (takes_in_single choose port frame known.view))

-- a message of the manager
probes_single : (old : Pmac) (amac : Mac) (o : Option Ip4) (b : Bool) → AreSingle b (probe_acts old amac o)
probes_single old amac None b = tt
probes_single old amac (Some ip) b = (refl, tt)

-- at a tick more than one host may be probed
of_grant_single : (x : Pmac) (o : Option Grant) (b : Bool) → AreSingle b (probe_of x o)
of_grant_single x None b = tt
of_grant_single x (Some grant) b = probes_single x grant.amac grant.ip b

probed_single : (v : SwitchView) (xs : List Pmac) (b : Bool) → AreSingle b (flat_map (λ x. probe_of x (granted v x)) xs)
probed_single v [] b = tt
probed_single v (x ∷ xs) b =
    single_then b (probe_of x (granted v x)) (flat_map (λ y. probe_of y (granted v y)) xs) (of_grant_single x (granted v x) b) (λ c. probed_single v xs c)

ages_single : (v : SwitchView) (b : Bool) → AreSingle b (ages v).acts
ages_single v b =
    let older : SwitchView = with_older v in
    single_then b (probes_idle older) (all_age_out (to_rest older) older).acts (probed_single older (to_probe older) b)
    (λ c. still_is_single c (all_age_out (to_rest older) older).acts (all_age_out_acts IsStill (λ x number. tt) (to_rest older) older))

pub ticks_single : (v : SwitchView) → IsShaped v → AreSingle false (ticks v).acts
ticks_single v shaped =
    let told : SwitchStep = tells_neighbours v in
    still_single false told.acts (ages told.view).acts (quiet_still v told (quiet_neighbours v shaped)) (ages_single told.view false)

invalidates_single : (v : SwitchView) (old : Pmac) (trap : Trap) (o : Option Grant) → IsShaped v → AreGrantedAt v.k old.port o →
    AreSingle false (invalidates v old trap o).acts
invalidates_single v old trap None shaped at = tt
invalidates_single v old trap (Some grant) shaped at =
    let set : SwitchView = sets_trap v old grant trap in
    let trapped = quiet_sets_trap v old grant trap shaped at.six in
    let forgot : SwitchStep = does set [] ▹ forgets_members old.port grant.amac in
    let quiet : IsQuiet v forgot = quiet_then_quiet v (does set []) (forgets_members old.port grant.amac) trapped
    (λ w same. quiet_forgets_members w old.port grant.amac same.shaped) in
    still_single false forgot.acts (probes old grant forgot.view).acts (quiet_still v forgot quiet)
    (cond_both (is_in_use grant.held) (probes_at old grant.amac grant.ip forgot.view) (rests forgot.view) (λ step. AreSingle false step.acts)
    (λ used. probes_single old grant.amac grant.ip false) (λ unused. tt))

-- words let nothing out
words_still : (words : List ToManager) → AllByRecursion IsStill (map (λ word. act.Tell word) words)
words_still [] = tt
words_still (word ∷ words) = (tt, words_still words)

pub hears_single : (choose : Choice) (v : SwitchView) (says : ToSwitch) → IsShaped v → AreSingle false (hears_manager choose v says).acts
hears_single choose v (Pod pod) shaped = still_is_single false _ (quiet_still v _ (quiet_hears_pod v pod shaped))
hears_single choose v (Avoid list) shaped = tt
hears_single choose v (Tree group part) shaped = tt
hears_single choose v (Answer asker asker_ip ip pmac) shaped =
    cond_both (is_granted v asker) (makes choose (answer_frame asker asker_ip ip pmac) v) (rests v) (λ step. AreSingle false step.acts)
    (λ known. begins_single choose v (answer_frame asker asker_ip ip pmac)) (λ unknown. tt)
hears_single choose v (Flood asker asker_ip ip) shaped =
    cond_both (is_granted v asker) (floods v (flood_frame asker asker_ip ip)) (rests v) (λ step. AreSingle false step.acts)
    (λ known. group_up_single v (flood_frame asker asker_ip ip)) (λ unknown. tt)
hears_single choose v (Invalidate old new number ip) shaped =
    invalidates_single v old (record { new = new; number = number; ip = ip }) (held_here v old) shaped (held_at v old shaped)
hears_single choose v (Hello epoch) shaped =
    still_is_single false (map (λ (word : ToManager). act.Tell word) (report_for epoch v)) (words_still (report_for epoch v))
hears_single choose v (Release address) shaped = still_is_single false _ (frees_acts IsStill (λ x. tt) v address (granted v address))
