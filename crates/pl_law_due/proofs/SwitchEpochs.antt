-- A switch keeps its epoch, but where it hears of another.
use Rattle.std.proofs.Common.{◌≡◌, ℕ, ◌+◌, ◌%◌, ◌==◌, ◌&&◌, ◌||◌, nat_lt, Bool, true, false, if◌then◌else◌, List, [], ◌∷◌, Option, Some, None, Result, Ok, Err, refl, ap, ◌∙◌}
use Rattle.std.proofs.lemmas.Bool.{cond_both}
use Rattle.pl_frame.specs.declared.address.SwitchId.{SwitchId}
use Rattle.pl_frame.specs.Ethernet.{payload_of}
use Rattle.pl_layouts.specs.declared.control.Control.{Control}
use Rattle.pl_layouts.specs.declared.control.Control.TheVariants.{Ldm, Proposal, Vote}
use Rattle.pl_layouts.specs.declared.control.ControlError.{ControlError}
use Rattle.pl_layouts.specs.declared.control.Ldm.{Ldm as Message}
use Rattle.pl_layouts.specs.declared.control.Vote.{Vote as Answer}
use Rattle.pl_layouts.specs.Control.{control_in, is_control}
use Rattle.pl_layouts.specs.Placement.{is_known}
use Rattle.pl_layouts.specs.Votes.{counts, gives_way}
use Rattle.pl_journal.specs.declared.cause.Cause.TheVariants.{NotPlaced}
use Rattle.pl_node.specs.declared.acts.Act.TheVariants.{Drop}
use Rattle.pl_node.specs.declared.messages.ToSwitch.{ToSwitch}
use Rattle.pl_node.specs.declared.messages.ToSwitch.TheVariants as say
use Rattle.pl_node.specs.PortRecords.{is_open_to_hosts, port_of}
use Rattle.pl_node.specs.SwitchInputs.SwitchInput.{Comes, Says, Tick}
use Rattle.pl_node.specs.SwitchViews.{SwitchView}
use Rattle.pl_steps.specs.Steps.{SwitchStep, does, rests, ◌▹◌}
use Rattle.pl_switch_rule.specs.Announcing.{tells_neighbours}
use Rattle.pl_switch_rule.specs.Forwarding.{Choice}
use Rattle.pl_switch_rule.specs.Granting.{granted, held_here, is_granted, learns_source}
use Rattle.pl_switch_rule.specs.Intake.{comes_from_host, takes_in_or_spent}
use Rattle.pl_switch_rule.specs.Levels.{after_message, changes_to, finds_host, learns_level, learns_pod, with_message, with_pod}
use Rattle.pl_switch_rule.specs.Messages.{answer_frame, flood_frame, takes_pod}
use Rattle.pl_switch_rule.specs.Positions.{after_vote, fixes_position, frees_others, half, marks, notes_position, with_granted}
use Rattle.pl_switch_rule.specs.SwitchRule.{comes_from_switch, control_comes, data_comes, hears_control, switch_step}
use Rattle.pl_switch_rule.proofs.Exports.{ages_learn, answers_stay, changes_learn, floods_stay, frees_learn, host_frame_learns, invalidates_learns, proposal_holds, switch_frame_stays}

abbrev Keeps : SwitchView → SwitchView → Type 0
Keeps v w = w.epoch ≡ v.epoch

-- ---- control frames
noted : (v : SwitchView) (id : SwitchId) (position : Option ℕ) → Keeps v (notes_position v id position)
noted v id None = refl
noted v id (Some p) = cond_both (nat_lt p (half v.k)) (marks (frees_others v id p) id p) v (Keeps v) (λ h. refl) (λ h. refl)

message_keeps : (v : SwitchView) (port : ℕ) (id : SwitchId) (m : Message) → Keeps v (after_message v port id m)
message_keeps v port id m =
    let learnt : SwitchView = learns_pod (learns_level (with_message v port id m) m.place) m.place in
    cond_both (is_known learnt.place.level 1 && is_known m.place.level 0) (notes_position learnt id m.place.position) learnt (Keeps v)
    (λ h. noted learnt id m.place.position) (λ h. refl)

vote_keeps : (v : SwitchView) (port : ℕ) (vote : Answer) → Keeps v (after_vote v port vote)
vote_keeps v port vote = by (counts v.place v.attempt v.proposed vote) vote.granted (gives_way v.id vote) (v.attempt == 4294967295)
  where
    by : (a b c d : Bool) → Keeps v (if◌then◌else◌ {A = SwitchView} a
        (if b then fixes_position (with_granted v port) else if c then (if d then v else record v { attempt = v.attempt + 1; proposed = (v.proposed + 1) % half v.k; granted = [] }) else v) v)
    by false b c d = refl
    by true true c d = refl
    by true false false d = refl
    by true false true true = refl
    by true false true false = refl

changed : (old new : SwitchView) → Keeps new (changes_to old new).view
changed old new = ap (λ (w : SwitchView). w.epoch) (changes_learn old new)

heard : (v : SwitchView) (port : ℕ) (read : Result Control ControlError) → Keeps v (hears_control v port read).view
heard v port (Err e) = refl
heard v port (Ok (Ldm id m)) = changed v (after_message v port id m) ∙ message_keeps v port id m
heard v port (Ok (Proposal id p)) = ap (λ (w : SwitchView). w.epoch) (proposal_holds v port id p)
heard v port (Ok (Vote id vote)) = changed v (after_vote v port vote) ∙ vote_keeps v port vote

control_keeps : (v : SwitchView) (port : ℕ) (frame : List ℕ) → Keeps v (control_comes v port frame).view
control_keeps v port frame =
    cond_both (port_of v port).host (rests v) (hears_control v port (control_in (payload_of frame))) (λ (step : SwitchStep). Keeps v step.view)
    (λ host. refl) (λ other. heard v port (control_in (payload_of frame)))

-- ---- data frames
host_keeps : (choose : Choice) (v : SwitchView) (port : ℕ) (frame : List ℕ) → Keeps v (comes_from_host choose v port frame).view
host_keeps choose v port frame =
    cond_both (is_known v.place.level 1 || is_known v.place.level 2) (does v (Drop NotPlaced ∷ []))
    (finds_host v port ▹ (λ w. learns_source w port frame) ▹ takes_in_or_spent choose port frame) (λ (step : SwitchStep). Keeps v step.view)
    (λ no_hosts. refl) (λ edge. ap (λ (w : SwitchView). w.epoch) (host_frame_learns choose v port frame))

data_keeps : (choose : Choice) (v : SwitchView) (port : ℕ) (frame : List ℕ) → Keeps v (data_comes choose v port frame).view
data_keeps choose v port frame =
    cond_both (is_open_to_hosts (port_of v port)) (comes_from_host choose v port frame) (comes_from_switch choose v port frame)
    (λ (step : SwitchStep). Keeps v step.view) (λ host. host_keeps choose v port frame)
    (λ switch. ap (λ (w : SwitchView). w.epoch) (switch_frame_stays choose v port frame))

pub frame_keeps : (choose : Choice) (v : SwitchView) (port : ℕ) (frame : List ℕ) → (switch_step choose v (Comes port frame)).view.epoch ≡ v.epoch
frame_keeps choose v port frame =
    cond_both (is_control frame) (control_comes v port frame) (data_comes choose v port frame) (λ (step : SwitchStep). Keeps v step.view)
    (λ control. control_keeps v port frame) (λ data_frame. data_keeps choose v port frame)

pub tick_keeps : (choose : Choice) (v : SwitchView) → (switch_step choose v Tick).view.epoch ≡ v.epoch
tick_keeps choose v = ap (λ (w : SwitchView). w.epoch) (ages_learn (tells_neighbours v).view)

-- ---- orders
pub order_keeps : (choose : Choice) (v : SwitchView) (says : ToSwitch) → ((epoch : ℕ) → says ≡ say.Hello epoch → ⊥) → (switch_step choose v (Says says)).view.epoch ≡ v.epoch
order_keeps choose v (say.Hello epoch) other = absurd (other epoch refl)
order_keeps choose v (say.Pod pod) other =
    cond_both (takes_pod v pod) (changes_to v (with_pod v (Some pod))) (rests v) (λ (step : SwitchStep). Keeps v step.view)
    (λ takes. changed v (with_pod v (Some pod))) (λ stays. refl)
order_keeps choose v (say.Avoid list) other = refl
order_keeps choose v (say.Tree group part) other = refl
order_keeps choose v (say.Answer asker asker_ip ip pmac) other =
    ap (λ (w : SwitchView). w.epoch) (answers_stay choose v (is_granted v asker) (answer_frame asker asker_ip ip pmac))
order_keeps choose v (say.Flood asker asker_ip ip) other = ap (λ (w : SwitchView). w.epoch) (floods_stay v (is_granted v asker) (flood_frame asker asker_ip ip))
order_keeps choose v (say.Invalidate old new number ip) other =
    ap (λ (w : SwitchView). w.epoch) (invalidates_learns v old (record { new = new; number = number; ip = ip }) (held_here v old))
order_keeps choose v (say.Release address) other = ap (λ (w : SwitchView). w.epoch) (frees_learn v address (granted v address))
