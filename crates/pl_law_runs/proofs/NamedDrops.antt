-- A switch drops frames by its rule for the first cause that holds.
use Rattle.std.proofs.Common.{◌≡◌, ◌<◌, ◌&&◌, ◌||◌, not, ℕ, ◌+◌, Bool, true, false, if◌then◌else◌, List, [], ◌∷◌, ◌++◌, Option, Some, None, slice_get, is_none, is_some, refl, sym, ◌∙◌, ap, subst, append-nil, append_assoc, ◌⊎◌, inl, inr}
use Rattle.std.specs.List.{AllByRecursion}
use Rattle.std.proofs.lemmas.Option.{same_Some}
use Rattle.pl_frame.specs.declared.address.Mac.{Mac}
use Rattle.pl_frame.specs.Ethernet.{destination_of, source_of}
use Rattle.pl_pmac.specs.declared.pmac.Pmac.{Pmac}
use Rattle.pl_pmac.specs.Pmac.{mac_of, pmac_of}
use Rattle.pl_wiring.specs.declared.link.Peer.{Peer}
use Rattle.pl_wiring.specs.declared.link.Peer.TheVariants.{HostPort, Switch}
use Rattle.pl_wiring.specs.Peers.{IsPort, peer_of}
use Rattle.pl_layouts.specs.Control.{is_control}
use Rattle.pl_layouts.specs.Frames.{is_arp, packet_in}
use Rattle.pl_layouts.specs.Memberships.{flood, is_group, membership_in}
use Rattle.pl_layouts.specs.Placement.{is_placed}
use Rattle.pl_journal.specs.declared.cause.Cause.{Cause}
use Rattle.pl_journal.specs.declared.cause.Cause.TheVariants.{BadArp, LinkDown, NoAddress, NoMember, NoNextHop, NotPlaced, Spent}
use Rattle.pl_node.specs.declared.acts.Act.{Act}
use Rattle.pl_node.specs.declared.acts.Act.TheVariants as act
use Rattle.pl_node.specs.declared.messages.ToSwitch.{ToSwitch}
use Rattle.pl_node.specs.declared.messages.ToSwitch.TheVariants as says
use Rattle.pl_node.specs.Accounting.{AccountsForFrames, CanCome, IsShaped, AllowsNoMore, FrameState, first_frame_state, is_said, frame_state, frame_state_after}
use Rattle.pl_node.specs.Accounting.FrameState.{Ended, Passed, Redirected, Silent, Waiting, Wrong}
use Rattle.pl_node.specs.HostInputs.{HostRule}
use Rattle.pl_node.specs.ManagerDuties.{ManagerRule}
use Rattle.pl_node.specs.PortRecords.{place_at}
use Rattle.pl_node.specs.SwitchInputs.{SwitchInput, SwitchRule}
use Rattle.pl_node.specs.SwitchInputs.SwitchInput.{Comes, Says, Tick}
use Rattle.pl_node.specs.SwitchViews.{SwitchView}
use Rattle.pl_switch_rule.specs.declared.came.Came.TheVariants.{FromHost}
use Rattle.pl_switch_rule.specs.CauseOf.{DropsFor, Intake, IsNoDrop, behind_make, by_intake, cause_at, cause_from_here, cause_of, cause_of_made, cause_of_message, cause_to, if_nowhere, if_sent_on, intake, intake_of_host, is_told, reply_to}
use Rattle.pl_switch_rule.specs.CauseOf.Intake.{Refused, SentOn, TakenIn}
use Rattle.pl_switch_rule.specs.Delivering.{trap_for}
use Rattle.pl_switch_rule.specs.DropCauses.{address_after, came_in, first_drop, has_no_hosts, is_for_members, is_of_host, known_source, places, seen}
use Rattle.pl_switch_rule.specs.Forwarding.{candidates_by}
use Rattle.pl_switch_rule.specs.Granting.{has_no_address, held_here, is_granted, is_local, is_port_spent}
use Rattle.pl_switch_rule.specs.GroupForwarding.{group_ports_up}
use Rattle.pl_switch_rule.specs.Intake.{is_for_switch}
use Rattle.pl_switch_rule.specs.SwitchRule.{Loose}
use Rattle.pl_switch_rule.proofs.Exports.{loose_drops_for_first_cause, no_first_drop}
use Rattle.pl_queues.specs.Queues.{items_at}
use Rattle.pl_world.specs.declared.event.Event.{Event}
use Rattle.pl_world.specs.declared.event.Event.TheVariants as event
use Rattle.pl_world.specs.declared.event.QueueName.TheVariants as queue
use Rattle.pl_world.specs.declared.item.Item.{Item}
use Rattle.pl_world.specs.declared.item.Item.TheVariants.{Control, Data}
use Rattle.pl_world.specs.declared.attachment.AttachmentPoint.{AttachmentPoint}
use Rattle.pl_world.specs.Changes.{is_failed_at, out_of}
use Rattle.pl_world.specs.Drops.{Coming, coming, coming_at, coming_from_manager, coming_in, coming_over, copies, copies_dropped, dropped, dropped_at, dropped_by, dropped_by_acts, dropped_of_made, dropped_on, drops_in, fate, made, made_at, made_by_acts, made_in, numbers_made, ports_passed, written}
use Rattle.pl_world.specs.Flying.{IsTreePort, IsCounted, IsItem}
use Rattle.pl_world.specs.WorldRule.{WorldStep}
use Rattle.pl_world.specs.Worlds.{WorldView}
use Rattle.pl_world.proofs.Exports.{all_found, head_is_item, peer_is_port, sent_is_item, step_drops, step_takes}
use Rattle.pl_law_runs.specs.NamedDrops.{all_for, by_rule, is_of_rule, one_or_none}

-- ---- the rule never says that a link is failed
abbrev IsOfRule : Option Cause → Type 0
IsOfRule None = Unit {0}
IsOfRule (Some cause) = is_of_rule cause ≡ true

abbrev Refuses : Intake → Type 0
Refuses (Refused cause) = is_of_rule cause ≡ true
Refuses on = Unit {0}

refuses_by : (i : Intake) (on : Option Cause) → Refuses i → IsOfRule on → IsOfRule (by_intake i on)
refuses_by (Refused cause) on is rest = is
refuses_by TakenIn on is rest = tt
refuses_by SentOn on is rest = rest

if_it_goes_on : (i : Intake) (on : Option Cause) → IsOfRule on → IsOfRule (if_sent_on i on)
if_it_goes_on (Refused cause) on rest = tt
if_it_goes_on TakenIn on rest = tt
if_it_goes_on SentOn on rest = rest

either : (b : Bool) (x y : Option Cause) → IsOfRule x → IsOfRule y → IsOfRule (if b then x else y)
either true x y p q = p
either false x y p q = q

either_in : (b : Bool) (x y : Intake) → Refuses x → Refuses y → Refuses (if b then x else y)
either_in true x y p q = p
either_in false x y p q = q

nowhere : (ports : List ℕ) (cause : Cause) → is_of_rule cause ≡ true → IsOfRule (if_nowhere ports cause)
nowhere [] cause is = is
nowhere (port ∷ ports) cause is = tt

for_members : (b : Bool) → is_of_rule (if b then NoMember else NoNextHop) ≡ true
for_members true = refl
for_members false = refl

intake_refuses : (v : SwitchView) (port : ℕ) (frame : List ℕ) → Refuses (intake v port frame)
intake_refuses v port frame =
    either_in (is_of_host v port) _ _
    (either_in (has_no_hosts v) (Refused NotPlaced) (intake_of_host (seen v port frame) port frame) refl (of_host (seen v port frame)))
    (either_in (not (is_placed v.place) || is_none (place_at v port).level) (Refused NotPlaced) SentOn refl tt)
  where
    of_host : (w : SwitchView) → Refuses (intake_of_host w port frame)
    of_host w =
        either_in (has_no_address w port (source_of frame) && is_port_spent w port) (Refused Spent) _ refl
        (either_in (is_arp frame && is_none (packet_in frame)) (Refused BadArp) _ refl
        (either_in (is_for_switch w (destination_of frame) (packet_in frame)) TakenIn _ tt
        (either_in (is_some (membership_in frame)) TakenIn _ tt (either_in (not (is_placed w.place)) (Refused NotPlaced) SentOn refl tt))))

at_of_rule : (v : SwitchView) (address : Pmac) → IsOfRule (cause_at v address)
at_of_rule v address =
    either (is_local v address) (if is_some (held_here v address) then None else Some NoAddress) (if_nowhere (candidates_by v address (Some FromHost)) NoNextHop)
    (either (is_some (held_here v address)) None (Some NoAddress) tt refl) (nowhere (candidates_by v address (Some FromHost)) NoNextHop refl)

from_here_of_rule : (v : SwitchView) (address : Pmac) → IsOfRule (cause_from_here v address)
from_here_of_rule v address = at_of_rule v (address_after v address (trap_for v address))

to_of_rule : (v : SwitchView) (port : ℕ) (frame : List ℕ) (to : Mac) → IsOfRule (cause_to v port frame to)
to_of_rule v port frame to =
    either (is_group to) (if_nowhere (places v port frame) (if is_for_members v port frame then NoMember else NoNextHop)) _
    (nowhere (places v port frame) _ (for_members (is_for_members v port frame)))
    (either (is_local v (pmac_of to)) (cause_from_here v (pmac_of to)) (if_nowhere (candidates_by v (pmac_of to) (came_in v port)) NoNextHop)
    (from_here_of_rule v (pmac_of to)) (nowhere (candidates_by v (pmac_of to) (came_in v port)) NoNextHop refl))

reply_of_rule : (v : SwitchView) (port : ℕ) (frame : List ℕ) (to : Mac) → IsOfRule (reply_to v port frame to)
reply_of_rule v port frame to =
    either (not (is_group to) && is_told v (is_arp frame) (trap_for v (pmac_of to))) (cause_from_here v (known_source v port frame)) None
    (from_here_of_rule v (known_source v port frame)) tt

message_of_rule : (v : SwitchView) (message : ToSwitch) → IsOfRule (cause_of_message v message)
message_of_rule v (says.Pod pod) = tt
message_of_rule v (says.Avoid list) = tt
message_of_rule v (says.Tree group part) = tt
message_of_rule v (says.Answer asker asker_ip ip pmac) =
    either (is_granted v asker) (cause_from_here v (pmac_of (mac_of asker))) None (from_here_of_rule v (pmac_of (mac_of asker))) tt
message_of_rule v (says.Flood asker asker_ip ip) =
    either (is_granted v asker) (if_nowhere (group_ports_up v flood) NoNextHop) None (nowhere (group_ports_up v flood) NoNextHop refl) tt
message_of_rule v (says.Invalidate old new number ip) = tt
message_of_rule v (says.Release address) = tt
message_of_rule v (says.Hello epoch) = tt

came_of_rule : (v : SwitchView) (input : SwitchInput) → IsOfRule (cause_of v input)
came_of_rule v (Comes port frame) =
    let to : Option Cause = cause_to (seen v port frame) port frame (destination_of frame) in
    either (is_control frame) None (by_intake (intake v port frame) to) tt
    (refuses_by (intake v port frame) to (intake_refuses v port frame) (to_of_rule (seen v port frame) port frame (destination_of frame)))
came_of_rule v Tick = tt
came_of_rule v (Says message) = tt

made_of_rule : (v : SwitchView) (input : SwitchInput) → IsOfRule (cause_of_made v input)
made_of_rule v (Comes port frame) =
    let to : Option Cause = reply_to (seen v port frame) port frame (destination_of frame) in
    either (is_control frame) None (if_sent_on (intake v port frame) to) tt
    (if_it_goes_on (intake v port frame) to (reply_of_rule (seen v port frame) port frame (destination_of frame)))
made_of_rule v Tick = tt
made_of_rule v (Says message) = message_of_rule v message

-- ---- what acts say that account for their frames
Said : FrameState → List Act → Type 0
Said start acts = is_said (frame_state start acts) ≡ true

never : {C : Type 0} → false ≡ true → C
never h = absurd (cc)

wrong : {C : Type 0} (acts : List Act) → Said Wrong acts → C
unfolding Said
wrong [] h = never h
wrong (act.Control port frame ∷ acts) h = wrong acts h
wrong (act.Tell told ∷ acts) h = wrong acts h
wrong (act.Grant pmac amac ∷ acts) h = wrong acts h
wrong (act.Free pmac ∷ acts) h = wrong acts h
wrong (act.Make frame ∷ acts) h = wrong acts h
wrong (act.Redirect old new ∷ acts) h = wrong acts h
wrong (act.Pass port frame ∷ acts) h = wrong acts h
wrong (act.Take ∷ acts) h = wrong acts h
wrong (act.Drop cause ∷ acts) h = wrong acts h

-- a frame that was passed on is not dropped, nor is one that ended
passed_on : (acts : List Act) → Said Passed acts → first_drop acts ≡ None
unfolding Said
passed_on [] h = refl
passed_on (act.Control port frame ∷ acts) h = passed_on acts h
passed_on (act.Tell told ∷ acts) h = passed_on acts h
passed_on (act.Grant pmac amac ∷ acts) h = wrong acts h
passed_on (act.Free pmac ∷ acts) h = wrong acts h
passed_on (act.Make frame ∷ acts) h = refl
passed_on (act.Redirect old new ∷ acts) h = wrong acts h
passed_on (act.Pass port frame ∷ acts) h = passed_on acts h
passed_on (act.Take ∷ acts) h = wrong acts h
passed_on (act.Drop cause ∷ acts) h = wrong acts h

ended : (acts : List Act) → Said Ended acts → first_drop acts ≡ None
unfolding Said
ended [] h = refl
ended (act.Control port frame ∷ acts) h = ended acts h
ended (act.Tell told ∷ acts) h = ended acts h
ended (act.Grant pmac amac ∷ acts) h = wrong acts h
ended (act.Free pmac ∷ acts) h = wrong acts h
ended (act.Make frame ∷ acts) h = refl
ended (act.Redirect old new ∷ acts) h = wrong acts h
ended (act.Pass port frame ∷ acts) h = wrong acts h
ended (act.Take ∷ acts) h = wrong acts h
ended (act.Drop cause ∷ acts) h = wrong acts h

-- whether it was redirected
waits : Bool → FrameState
waits false = Waiting
waits true = Redirected

-- what acts speak of first
spoken_first : Option ℕ → FrameState
spoken_first None = Silent
spoken_first (Some id) = Waiting

module _ (is_failed : ℕ → Bool) where
  on_link : (id port : ℕ) (more : List (ℕ × Cause)) → by_rule (dropped_on is_failed id port ++ more) ≡ by_rule more
  on_link id port more = by (is_failed port)
    where
      by : (b : Bool) → by_rule ((if b then (id, LinkDown) ∷ [] else []) ++ more) ≡ by_rule more
      by true = refl
      by false = refl

  on_links : (begun : ℕ) (ports : List ℕ) (more : List (ℕ × Cause)) → by_rule (copies_dropped is_failed begun ports ++ more) ≡ by_rule more
  on_links begun [] more = refl
  on_links begun (port ∷ ports) more =
      ap by_rule (append_assoc (dropped_on is_failed (begun + 1) port) (copies_dropped is_failed (begun + 1) ports) more)
      ∙ on_link (begun + 1) port (copies_dropped is_failed (begun + 1) ports ++ more) ∙ on_links (begun + 1) ports more

  goes_out : (begun id port : ℕ) (further : List ℕ) (more : List (ℕ × Cause)) (cause : Option Cause) → cause ≡ None →
      by_rule ((dropped_on is_failed id port ++ copies_dropped is_failed begun further) ++ more) ≡ all_for (id ∷ []) cause ++ by_rule more
  goes_out begun id port further more cause none =
      ap by_rule (append_assoc (dropped_on is_failed id port) (copies_dropped is_failed begun further) more)
      ∙ on_link id port (copies_dropped is_failed begun further ++ more) ∙ on_links begun further more
      ∙ sym (ap (λ o. all_for (id ∷ []) o ++ by_rule more) none)

  named : (id : ℕ) (cause : Cause) (more : List (ℕ × Cause)) → is_of_rule cause ≡ true → by_rule ((id, cause) ∷ more) ≡ (id, cause) ∷ by_rule more
  named id cause more is = ap (λ b. if b then (id, cause) ∷ by_rule more else by_rule more) is

  of_one : (begun id : ℕ) (acts : List Act) (again : Bool) → Said (waits again) acts → IsOfRule (first_drop acts) → (more : List (ℕ × Cause)) →
      by_rule (dropped_by is_failed begun id (fate acts) ++ more) ≡ all_for (id ∷ []) (first_drop acts) ++ by_rule more
  unfolding Said waits
  of_one begun id [] false said rule more = never said
  of_one begun id [] true said rule more = never said
  of_one begun id (act.Control port frame ∷ acts) false said rule more = of_one begun id acts false said rule more
  of_one begun id (act.Control port frame ∷ acts) true said rule more = of_one begun id acts true said rule more
  of_one begun id (act.Tell told ∷ acts) false said rule more = of_one begun id acts false said rule more
  of_one begun id (act.Tell told ∷ acts) true said rule more = of_one begun id acts true said rule more
  of_one begun id (act.Grant pmac amac ∷ acts) false said rule more = of_one begun id acts false said rule more
  of_one begun id (act.Grant pmac amac ∷ acts) true said rule more = wrong acts said
  of_one begun id (act.Free pmac ∷ acts) false said rule more = wrong acts said
  of_one begun id (act.Free pmac ∷ acts) true said rule more = wrong acts said
  of_one begun id (act.Make frame ∷ acts) false said rule more = wrong acts said
  of_one begun id (act.Make frame ∷ acts) true said rule more = wrong acts said
  of_one begun id (act.Redirect old new ∷ acts) false said rule more = of_one begun id acts true said rule more
  of_one begun id (act.Redirect old new ∷ acts) true said rule more = of_one begun id acts true said rule more
  of_one begun id (act.Pass port frame ∷ acts) false said rule more = goes_out begun id port (ports_passed acts) more (first_drop acts) (passed_on acts said)
  of_one begun id (act.Pass port frame ∷ acts) true said rule more = goes_out begun id port (ports_passed acts) more (first_drop acts) (passed_on acts said)
  of_one begun id (act.Take ∷ acts) false said rule more = sym (ap (λ o. all_for (id ∷ []) o ++ by_rule more) (ended acts said))
  of_one begun id (act.Take ∷ acts) true said rule more = sym (ap (λ o. all_for (id ∷ []) o ++ by_rule more) (ended acts said))
  of_one begun id (act.Drop cause ∷ acts) false said rule more = named id cause more rule
  of_one begun id (act.Drop cause ∷ acts) true said rule more = named id cause more rule

  -- what is made waits
  made_waits : (start : FrameState) (frame : List ℕ) (acts : List Act) → Said (frame_state_after start (act.Make frame)) acts → Said Waiting acts
  unfolding Said
  made_waits Silent frame acts said = said
  made_waits Waiting frame acts said = wrong acts said
  made_waits Redirected frame acts said = wrong acts said
  made_waits Passed frame acts said = said
  made_waits Ended frame acts said = said
  made_waits Wrong frame acts said = wrong acts said

  more_behind : (acts : List Act) → Said Waiting acts → acts ≡ [] → ⊥
  unfolding Said
  more_behind acts said none = let last : Said Waiting [] = subst (Said Waiting) none said in never last

  none_made : (start : FrameState) (begun : ℕ) (acts : List Act) → Said start acts → behind_make acts ≡ [] →
      (dropped_of_made is_failed begun acts ≡ []) × (numbers_made begun acts ≡ [])
  unfolding Said
  none_made start begun [] said none = (refl, refl)
  none_made start begun (act.Make frame ∷ acts) said none = absurd (more_behind acts (made_waits start frame acts said) none)
  none_made start begun (act.Control port frame ∷ acts) said none = none_made (frame_state_after start (act.Control port frame)) begun acts said none
  none_made start begun (act.Tell told ∷ acts) said none = none_made (frame_state_after start (act.Tell told)) begun acts said none
  none_made start begun (act.Grant pmac amac ∷ acts) said none = none_made (frame_state_after start (act.Grant pmac amac)) begun acts said none
  none_made start begun (act.Free pmac ∷ acts) said none = none_made (frame_state_after start (act.Free pmac)) begun acts said none
  none_made start begun (act.Redirect old new ∷ acts) said none = none_made (frame_state_after start (act.Redirect old new)) begun acts said none
  none_made start begun (act.Pass port frame ∷ acts) said none = none_made (frame_state_after start (act.Pass port frame)) begun acts said none
  none_made start begun (act.Take ∷ acts) said none = none_made (frame_state_after start act.Take) begun acts said none
  none_made start begun (act.Drop cause ∷ acts) said none = none_made (frame_state_after start (act.Drop cause)) begun acts said none

  -- frames that are made, of which none is dropped
  more_none : (start : FrameState) (begun : ℕ) (acts : List Act) → Said start acts → AllByRecursion IsNoDrop acts → by_rule (dropped_of_made is_failed begun acts) ≡ []
  unfolding Said waits
  more_none start begun [] said none = refl
  more_none start begun (act.Make frame ∷ acts) said none =
      let next : ℕ = begun + 1 in
      let waiting = made_waits start frame acts said in
      let first : first_drop acts ≡ None = no_first_drop acts none.1 in
      let more : List (ℕ × Cause) = dropped_of_made is_failed (next + copies (fate acts)) acts in
      of_one next next acts false waiting (subst IsOfRule (sym first) tt) more
      ∙ ap (λ o. all_for (next ∷ []) o ++ by_rule more) first ∙ more_none Waiting (next + copies (fate acts)) acts waiting none.1
  more_none start begun (act.Control port frame ∷ acts) said none = more_none (frame_state_after start (act.Control port frame)) begun acts said none.1
  more_none start begun (act.Tell told ∷ acts) said none = more_none (frame_state_after start (act.Tell told)) begun acts said none.1
  more_none start begun (act.Grant pmac amac ∷ acts) said none = more_none (frame_state_after start (act.Grant pmac amac)) begun acts said none.1
  more_none start begun (act.Free pmac ∷ acts) said none = more_none (frame_state_after start (act.Free pmac)) begun acts said none.1
  more_none start begun (act.Redirect old new ∷ acts) said none = more_none (frame_state_after start (act.Redirect old new)) begun acts said none.1
  more_none start begun (act.Pass port frame ∷ acts) said none = more_none (frame_state_after start (act.Pass port frame)) begun acts said none.1
  more_none start begun (act.Take ∷ acts) said none = more_none (frame_state_after start act.Take) begun acts said none.1
  more_none start begun (act.Drop cause ∷ acts) said none = absurd none.0

  of_made : (start : FrameState) (begun : ℕ) (acts : List Act) → Said start acts → (behind_make (behind_make acts) ≡ []) ⊎ AllByRecursion IsNoDrop (behind_make acts) →
      IsOfRule (first_drop (behind_make acts)) → by_rule (dropped_of_made is_failed begun acts) ≡ all_for (numbers_made begun acts) (first_drop (behind_make acts))
  unfolding Said waits
  of_made start begun [] said others rule = refl
  of_made start begun (act.Make frame ∷ acts) said (inl once) rule =
      let next : ℕ = begun + 1 in
      let waiting = made_waits start frame acts said in
      let none = none_made Waiting (next + copies (fate acts)) acts waiting once in
      of_one next next acts false waiting rule (dropped_of_made is_failed (next + copies (fate acts)) acts)
      ∙ ap (λ ds. all_for (next ∷ []) (first_drop acts) ++ by_rule ds) none.0 ∙ append-nil (all_for (next ∷ []) (first_drop acts))
      ∙ sym (ap (λ ns. all_for (next ∷ ns) (first_drop acts)) none.1)
  of_made start begun (act.Make frame ∷ acts) said (inr none) rule =
      more_none start begun (act.Make frame ∷ acts) said (tt, none)
      ∙ sym (ap (all_for (numbers_made begun (act.Make frame ∷ acts))) (no_first_drop acts none))
  of_made start begun (act.Control port frame ∷ acts) said others rule = of_made (frame_state_after start (act.Control port frame)) begun acts said others rule
  of_made start begun (act.Tell told ∷ acts) said others rule = of_made (frame_state_after start (act.Tell told)) begun acts said others rule
  of_made start begun (act.Grant pmac amac ∷ acts) said others rule = of_made (frame_state_after start (act.Grant pmac amac)) begun acts said others rule
  of_made start begun (act.Free pmac ∷ acts) said others rule = of_made (frame_state_after start (act.Free pmac)) begun acts said others rule
  of_made start begun (act.Redirect old new ∷ acts) said others rule = of_made (frame_state_after start (act.Redirect old new)) begun acts said others rule
  of_made start begun (act.Pass port frame ∷ acts) said others rule = of_made (frame_state_after start (act.Pass port frame)) begun acts said others rule
  of_made start begun (act.Take ∷ acts) said others rule = of_made (frame_state_after start act.Take) begun acts said others rule
  of_made start begun (act.Drop cause ∷ acts) said others rule = of_made (frame_state_after start (act.Drop cause)) begun acts said others rule

  for_nobody : (cause : Option Cause) → all_for [] cause ≡ []
  for_nobody None = refl
  for_nobody (Some cause) = refl

  of_acts : (begun : ℕ) (frame : Option ℕ) (acts : List Act) (cause cause_made : Option Cause) → Said (spoken_first frame) acts → DropsFor acts cause cause_made →
      IsOfRule cause → IsOfRule cause_made →
      by_rule (dropped_by_acts is_failed begun frame acts) ≡ all_for (one_or_none frame) cause ++ all_for (made_by_acts begun frame acts) cause_made
  unfolding Said spoken_first waits
  of_acts begun None acts cause cause_made said d rule rule_made =
      of_made Silent begun acts said d.others (subst IsOfRule (sym d.made) rule_made) ∙ ap (all_for (numbers_made begun acts)) d.made
      ∙ sym (ap (λ xs. xs ++ all_for (numbers_made begun acts) cause_made) (for_nobody cause))
  of_acts begun (Some id) acts cause cause_made said d rule rule_made =
      let later : ℕ = begun + copies (fate acts) in
      of_one begun id acts false said (subst IsOfRule (sym d.came) rule) (dropped_of_made is_failed later acts)
      ∙ ap (λ o. all_for (id ∷ []) o ++ by_rule (dropped_of_made is_failed later acts)) d.came
      ∙ ap (λ xs. all_for (id ∷ []) cause ++ xs)
      (of_made Waiting later acts said d.others (subst IsOfRule (sym d.made) rule_made) ∙ ap (all_for (numbers_made later acts)) d.made)

-- ---- what comes at a switch can come
record IsGood (v : SwitchView) (c : Coming) : Type 0 where
  can : CanCome v c.input
  first : first_frame_state c.input ≡ spoken_first c.frame

good_item : (v : SwitchView) (k s port : ℕ) (item : Item) → v.k ≡ k → port < k → IsItem item → IsGood v (coming_at s port item)
unfolding spoken_first
good_item v k s port (Control frame) size within is = record { can = record { within = rw size within; whole = is.whole }; first = rw is.kind refl }
good_item v k s port (Data id frame) size within is = record { can = record { within = rw size within; whole = is.whole }; first = rw is.kind refl }

module _ (old : WorldView) (counted : IsCounted old) (v : SwitchView) (size : v.k ≡ old.plan.k) where
  IsGoodComing : Option Coming → Type 0
  IsGoodComing o = (c : Coming) → o ≡ Some c → IsGood v c

  good_one : (x c : Coming) → IsGood v x → Some x ≡ Some c → IsGood v c
  good_one x c good same = subst (IsGood v) (same_Some x c same) good

  good_in : (h : ℕ) (items : List Item) (attachment : Option AttachmentPoint) → items_at old.from_hosts h ≡ items → slice_get old.attachments h ≡ attachment → IsGoodComing (coming_in items attachment)
  unfolding IsGoodComing
  good_in h [] attachment is found = λ c same. absurd (cc)
  good_in h (item ∷ items) None is found = λ c same. absurd (cc)
  good_in h (item ∷ items) (Some attachment) is found = λ c same.
      let there : IsTreePort old.plan.k attachment = all_found (IsTreePort old.plan.k) old.attachments h attachment found counted.formed.at_ports in
      good_one _ c (good_item v old.plan.k attachment.edge.0 attachment.port item size there.port (sent_is_item old.from_hosts h item items is counted.in_host_queues)) same

  good_over : (at : ℕ) (items : List Item) (peer : Peer) → items_at old.out at ≡ items → IsPort old.plan.k peer → IsGoodComing (coming_over items peer)
  unfolding IsGoodComing
  good_over at [] peer is there = λ c same. absurd (cc)
  good_over at (item ∷ items) HostPort is there = λ c same. absurd (cc)
  good_over at (item ∷ items) (Switch t q) is there = λ c same.
      good_one _ c (good_item v old.plan.k t.0 q item size there.1 (head_is_item old.out at item items is counted.in_port_queues)) same

  good_said : (s : ℕ) (items : List ToSwitch) → IsGoodComing (coming_from_manager s items)
  unfolding IsGoodComing spoken_first
  good_said s [] = λ c same. absurd (cc)
  good_said s (message ∷ items) = λ c same. good_one (record { switch = s; input = Says message; frame = None }) c (record { can = tt; first = refl }) same

  good : (happens : Event) → IsGoodComing (coming old happens)
  unfolding IsGoodComing spoken_first
  good (event.Deliver (queue.FromHost h)) = good_in h.0 (items_at old.from_hosts h.0) (slice_get old.attachments h.0) refl refl
  good (event.Deliver (queue.Port s port)) = good_over _ (out_of old s.0 port) (peer_of old.plan s.0 port) refl (peer_is_port old.plan s.0 port counted.formed.plan)
  good (event.Deliver (queue.FromManager s)) = good_said s.0 (items_at old.from_manager s.0)
  good (event.Tick s) = λ c same. good_one (record { switch = s.0; input = Tick; frame = None }) c (record { can = tt; first = refl }) same
  good happens = λ c same. absurd (cc)

-- ---- each step
module _ (switch : SwitchRule) (manager : ManagerRule) (host : HostRule) (accounts : AccountsForFrames switch) (loose : AllowsNoMore switch Loose) where
  pub drops_for_first_cause : (old : WorldView) (happens : Event) (new : WorldView) (c : Coming) (v : SwitchView) → IsCounted old →
      WorldStep switch manager host old happens new → coming old happens ≡ Some c → slice_get old.switches c.switch ≡ Some v →
      by_rule (drops_in (written old new)) ≡
      all_for (one_or_none c.frame) (cause_of v c.input) ++ all_for (made_in (written old new)) (cause_of_made v c.input)
  unfolding IsGoodComing Said
  drops_for_first_cause old happens new c v counted step is found =
      let took = step_takes switch manager host old happens new step c is in
      let same : took.before ≡ v = same_Some took.before v (sym took.found ∙ found) in
      let ruled : switch v c.input took.after took.acts = subst (λ u. switch u c.input took.after took.acts) same took.ruled in
      let size : v.k ≡ old.plan.k = all_found (λ (u : SwitchView). u.k ≡ old.plan.k) old.switches c.switch v found counted.formed.ports in
      let shaped : IsShaped v = all_found IsShaped old.switches c.switch v found counted.shaped in
      let well : IsGood v c = good old counted v size happens c is in
      let kept = accounts v c.input took.after took.acts shaped well.can ruled in
      let causes = loose_drops_for_first_cause v c.input took.after took.acts shaped well.can (loose v c.input took.after took.acts ruled) in
      let said : is_said (frame_state (spoken_first c.frame) took.acts) ≡ true = subst (λ first. is_said (frame_state first took.acts) ≡ true) well.first kept.said in
      let both = step_drops switch manager host old happens new step counted.formed.plan in
      let drops : drops_in (written old new) ≡ dropped_by_acts (is_failed_at old c.switch) old.begun c.frame took.acts =
      both.0 ∙ ap (dropped old happens) took.is ∙ ap (λ o. dropped_at old o took.acts) is in
      let makes : made_in (written old new) ≡ made_by_acts old.begun c.frame took.acts =
      both.1 ∙ ap (made old happens) took.is ∙ ap (λ o. made_at old o took.acts) is in
      ap by_rule drops
      ∙ of_acts (is_failed_at old c.switch) old.begun c.frame took.acts (cause_of v c.input) (cause_of_made v c.input) said causes (came_of_rule v c.input) (made_of_rule v c.input)
      ∙ sym (ap (λ ms. all_for (one_or_none c.frame) (cause_of v c.input) ++ all_for ms (cause_of_made v c.input)) makes)
