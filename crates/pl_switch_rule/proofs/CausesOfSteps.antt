-- In each step frames are dropped for the first cause that holds.
use Rattle.std.proofs.Common.{◌≡◌, not, ℕ, Bool, true, false, if◌then◌else◌, List, [], Option, Some, None, refl, sym, ap, subst, ◌∙◌, inl}
use Rattle.std.specs.List.{AllByRecursion, filter}
use Rattle.std.proofs.lemmas.Bool.{cond_both}
use Rattle.pl_frame.specs.declared.address.Ip4.{Ip4}
use Rattle.pl_frame.specs.declared.address.Mac.{Mac}
use Rattle.pl_frame.specs.Ethernet.{destination_of}
use Rattle.pl_arp.specs.declared.packet.Arp.{Arp}
use Rattle.pl_pmac.specs.declared.pmac.Pmac.{Pmac}
use Rattle.pl_pmac.specs.Pmac.{mac_of, pmac_of}
use Rattle.pl_pmac.proofs.Exports.{length-mac_of}
use Rattle.pl_node.specs.Accounting.{CanCome, IsShaped}
use Rattle.pl_node.specs.SwitchInputs.{SwitchInput}
use Rattle.pl_node.specs.SwitchInputs.SwitchInput.{Comes, Says, Tick}
use Rattle.pl_node.specs.AddressUses.{is_in_use}
use Rattle.pl_node.specs.declared.switch_records.Grant.{Grant}
use Rattle.pl_node.specs.SwitchViews.{SwitchView}
use Rattle.pl_node.specs.declared.messages.ToSwitch.{ToSwitch}
use Rattle.pl_node.specs.declared.messages.ToSwitch.TheVariants.{Answer, Avoid, Flood, Hello, Invalidate, Pod, Release, Tree}
use Rattle.pl_node.specs.declared.trap.Trap.{Trap}
use Rattle.pl_journal.specs.declared.cause.Cause.{Cause}
use Rattle.pl_journal.specs.declared.cause.Cause.TheVariants.{NoNextHop}
use Rattle.pl_layouts.specs.ArpFrames.{broadcast, no_mac}
use Rattle.pl_layouts.specs.declared.place.Place.{Place}
use Rattle.pl_layouts.specs.Control.{is_control}
use Rattle.pl_layouts.specs.Memberships.{flood}
use Rattle.pl_switch_rule.specs.declared.came.Came.TheVariants.{FromHost}
use Rattle.pl_switch_rule.specs.Announcing.{ticks}
use Rattle.pl_switch_rule.specs.CauseOf.{DropsFor, DropsForFirstCause, IsNoDrop, by_intake, cause_from_here, cause_of, cause_of_made, cause_of_message, cause_to, if_nowhere, if_sent_on, intake, reply_to}
use Rattle.pl_switch_rule.specs.Delivering.{makes}
use Rattle.pl_switch_rule.specs.DropCauses.{seen}
use Rattle.pl_switch_rule.specs.Forwarding.{Choice}
use Rattle.pl_switch_rule.specs.Granting.{granted, held_here, is_granted}
use Rattle.pl_switch_rule.specs.GroupForwarding.{destination_group, forwards_group, group_ports_up, no_way}
use Rattle.pl_switch_rule.specs.Intake.{is_member}
use Rattle.pl_switch_rule.specs.Levels.{changes_to, with_pod}
use Rattle.pl_switch_rule.specs.Messages.{answer_frame, flood_frame, floods, forgets_members, frees, hears_manager, hears_pod, invalidates, probes, probes_at, sets_trap, takes_pod}
use Rattle.pl_switch_rule.specs.Reporting.{hears_hello}
use Rattle.pl_steps.specs.Steps.{SwitchStep, rests}
use Rattle.pl_switch_rule.specs.SwitchRule.{Exact, IsChoice, Loose, control_comes, data_comes, switch_step}
use Rattle.pl_switch_rule.proofs.AccountedSteps.{exact_is_loose}
use Rattle.pl_switch_rule.proofs.CausesHere.{destination_of-arp_frame, makes_drops_for}
use Rattle.pl_switch_rule.proofs.CausesOfData.{data_drops_for, passes_cause, passes_make_none}
use Rattle.pl_switch_rule.proofs.SentFrames.{number_to}
use Rattle.pl_switch_rule.proofs.FirstCauses.{drops_behind, drops_made, drops_none, drops_nothing}
use Rattle.pl_switch_rule.proofs.RowActs.{ChangeActs, frees_acts, groups_acts}
use Rattle.pl_switch_rule.proofs.ReportParts.{hello_acts}
use Rattle.pl_switch_rule.proofs.StepActs.{control_acts, ticks_acts}
use Rattle.pl_switch_rule.proofs.FirstDrops.{AllGoOn, GoesOn}
use Rattle.pl_switch_rule.proofs.LearntSources.{hears_changes_to}

-- A control frame, and a tick.

change_goes_on : (place : Place) → ChangeActs place GoesOn
change_goes_on place = record { placed = tt; linked = λ neighbour usable. tt; wanted = λ position. tt }

control_comes_goes_on : (v : SwitchView) (port : ℕ) (frame : List ℕ) → AllGoOn (control_comes v port frame).acts
control_comes_goes_on v port frame =
    control_acts GoesOn v port frame (change_goes_on _) (record { granted = λ address amac. tt; learnt = λ address amac ip. tt }) (λ at told. tt)

-- hosts may be probed at a tick, each of which probes goes out
tick_drops_none : (v : SwitchView) → AllByRecursion IsNoDrop (ticks v).acts
tick_drops_none v =
    ticks_acts IsNoDrop v (record { placed = tt; linked = λ neighbour usable. tt; wanted = λ position. tt }) (λ port frame. tt) (λ port frame. tt) (λ frame. tt)
    (λ address number. tt)

-- Messages of the manager.

pod_goes_on : (v : SwitchView) (pod : ℕ) → AllGoOn (hears_pod v pod).acts
pod_goes_on v pod =
    cond_both (takes_pod v pod) (changes_to v (with_pod v (Some pod))) (rests v) (λ s. AllGoOn s.acts)
    (λ yes. let heard = hears_changes_to v (with_pod v (Some pod)) in heard.on) (λ other. tt)

-- one of two parts, the other of which does nothing
either_or_rests : (v : SwitchView) (test : Bool) (s : SwitchStep) (y : Option Cause) → DropsFor s.acts None y →
    DropsFor (if test then s else rests v).acts None (if test then y else None)
either_or_rests v true s y d = d
either_or_rests v false s y d = drops_nothing [] tt

answer_drops_for : (choose : Choice) (v : SwitchView) (asker : Pmac) (asker_ip ip : Ip4) (pmac : Pmac) → IsChoice choose →
    DropsFor (hears_manager choose v (Answer asker asker_ip ip pmac)).acts None (cause_of_message v (Answer asker asker_ip ip pmac))
answer_drops_for choose v asker asker_ip ip pmac is_choice =
    let arp : Arp = record { op = 2; sha = mac_of pmac; spa = ip; tha = mac_of asker; tpa = asker_ip } in
    either_or_rests v (is_granted v asker) (makes choose (answer_frame asker asker_ip ip pmac) v) (cause_from_here v (pmac_of (mac_of asker)))
    (makes_drops_for choose v (mac_of asker) arp is_choice (length-mac_of asker))

flood_drops_for : (choose : Choice) (v : SwitchView) (asker : Pmac) (asker_ip ip : Ip4) →
    DropsFor (hears_manager choose v (Flood asker asker_ip ip)).acts None (cause_of_message v (Flood asker asker_ip ip))
flood_drops_for choose v asker asker_ip ip =
    let arp : Arp = record { op = 1; sha = mac_of asker; spa = asker_ip; tha = no_mac; tpa = ip } in
    let frame : List ℕ = flood_frame asker asker_ip ip in
    let number : destination_group frame ≡ flood = ap number_to (destination_of-arp_frame broadcast arp refl) in
    let ports : List ℕ = group_ports_up v (destination_group frame) in
    let named : Cause = no_way v (Some FromHost) (destination_group frame) in
    either_or_rests v (is_granted v asker) (floods v frame) (if_nowhere (group_ports_up v flood) NoNextHop)
    (drops_made frame (forwards_group v (Some FromHost) frame).acts (if_nowhere (group_ports_up v flood) NoNextHop)
    (passes_make_none ports frame named)
    (passes_cause ports frame named ∙ ap (λ g. if_nowhere (group_ports_up v g) (no_way v (Some FromHost) g)) number))

probe_drops_for : (old : Pmac) (amac : Mac) (o : Option Ip4) (v : SwitchView) → DropsFor (probes_at old amac o v).acts None None
probe_drops_for old amac None v = drops_nothing [] tt
probe_drops_for old amac (Some ip) v = record { came = refl; made = refl; others = inl refl }

probes_drop_for : (old : Pmac) (grant : Grant) (v : SwitchView) → DropsFor (probes old grant v).acts None None
probes_drop_for old grant v =
    cond_both (is_in_use grant.held) (probes_at old grant.amac grant.ip v) (rests v) (λ s. DropsFor s.acts None None)
    (λ used. probe_drops_for old grant.amac grant.ip v) (λ other. drops_nothing [] tt)

members_go_on : (v : SwitchView) (port : ℕ) (amac : Mac) → AllGoOn (forgets_members port amac v).acts
members_go_on v port amac =
    let members = filter (λ m. not (is_member port amac m)) v.members in
    groups_acts GoesOn v.members members (λ group other. tt)

invalidate_drops_for : (v : SwitchView) (old : Pmac) (trap : Trap) (o : Option Grant) → DropsFor (invalidates v old trap o).acts None None
invalidate_drops_for v old trap None = drops_nothing [] tt
invalidate_drops_for v old trap (Some grant) =
    let set : SwitchView = sets_trap v old grant trap in
    let forgot : SwitchStep = forgets_members old.port grant.amac set in
    drops_behind forgot.acts (probes old grant forgot.view).acts None None (members_go_on set old.port grant.amac)
    (probes_drop_for old grant forgot.view)

says_drops_for : (choose : Choice) (v : SwitchView) (says : ToSwitch) → IsChoice choose →
    DropsFor (hears_manager choose v says).acts None (cause_of_message v says)
says_drops_for choose v (Pod pod) is_choice = drops_nothing (hears_pod v pod).acts (pod_goes_on v pod)
says_drops_for choose v (Avoid list) is_choice = drops_nothing [] tt
says_drops_for choose v (Tree group part) is_choice = drops_nothing [] tt
says_drops_for choose v (Answer asker asker_ip ip pmac) is_choice = answer_drops_for choose v asker asker_ip ip pmac is_choice
says_drops_for choose v (Flood asker asker_ip ip) is_choice = flood_drops_for choose v asker asker_ip ip
says_drops_for choose v (Invalidate old new number ip) is_choice =
    invalidate_drops_for v old (record { new = new; number = number; ip = ip }) (held_here v old)
says_drops_for choose v (Release address) is_choice =
    drops_nothing (frees v address (granted v address)).acts (frees_acts GoesOn (λ x. tt) v address (granted v address))
says_drops_for choose v (Hello epoch) is_choice =
    drops_nothing (hears_hello v epoch).acts
    (hello_acts GoesOn v (record { granted = λ address amac. tt; learnt = λ address amac ip. tt }) (λ address number. tt)
    (record { begun = λ n. tt; ended = λ n. tt; trapped = λ old new number. tt }) (change_goes_on v.place) (λ group had. tt) epoch)

-- Each step.

comes_drops_for : (choose : Choice) (v : SwitchView) (port : ℕ) (frame : List ℕ) (test : Bool) (x y : Option Cause) →
    DropsFor (data_comes choose v port frame).acts x y →
    DropsFor (if test then control_comes v port frame else data_comes choose v port frame).acts (if test then None else x) (if test then None else y)
comes_drops_for choose v port frame true x y d = drops_nothing (control_comes v port frame).acts (control_comes_goes_on v port frame)
comes_drops_for choose v port frame false x y d = d

step_drops_for : (choose : Choice) (v : SwitchView) (input : SwitchInput) → IsChoice choose → IsShaped v → CanCome v input →
    DropsFor (switch_step choose v input).acts (cause_of v input) (cause_of_made v input)
step_drops_for choose v (Comes port frame) is_choice shaped coming =
    let now : SwitchView = seen v port frame in
    comes_drops_for choose v port frame (is_control frame)
    (by_intake (intake v port frame) (cause_to now port frame (destination_of frame)))
    (if_sent_on (intake v port frame) (reply_to now port frame (destination_of frame)))
    (data_drops_for choose v port frame is_choice shaped coming)
step_drops_for choose v Tick is_choice shaped coming = drops_none (ticks v).acts (tick_drops_none v)
step_drops_for choose v (Says says) is_choice shaped coming = says_drops_for choose v says is_choice

pub loose_drops_for_first_cause : DropsForFirstCause Loose
loose_drops_for_first_cause old input new acts shaped coming loose =
    subst (λ done. DropsFor done (cause_of old input) (cause_of_made old input)) (sym loose.steps.done)
    (step_drops_for loose.choose old input loose.is_choice shaped coming)

pub exact_drops_for_first_cause : DropsForFirstCause Exact
exact_drops_for_first_cause old input new acts shaped coming steps =
    loose_drops_for_first_cause old input new acts shaped coming (exact_is_loose old input new acts steps)
