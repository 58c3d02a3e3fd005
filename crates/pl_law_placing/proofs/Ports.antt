-- Steps that leave the records of ports as they are.
use Rattle.std.proofs.Common.{◌≡◌, ℕ, ◌+◌, ◌%◌, ◌==◌, ◌||◌, Bool, true, false, if◌then◌else◌, List, [], Option, Some, None, is_none, is_some, refl, ap}
use Rattle.pl_layouts.specs.declared.control.Vote.{Vote as Answer}
use Rattle.pl_layouts.specs.Votes.{counts, gives_way}
use Rattle.pl_node.specs.declared.messages.ToSwitch.{ToSwitch}
use Rattle.pl_node.specs.declared.messages.ToSwitch.TheVariants.{Answer as SayAnswer, Avoid, Flood, Hello, Invalidate, Pod, Tree, Release}
use Rattle.pl_node.specs.declared.neighbour.Neighbour.{Neighbour}
use Rattle.pl_node.specs.PortRecords.{is_open_to_hosts, port_of}
use Rattle.pl_node.specs.SwitchViews.{SwitchView}
use Rattle.pl_steps.specs.Steps.{SwitchStep, rests}
use Rattle.pl_switch_rule.specs.Forwarding.{Choice}
use Rattle.pl_switch_rule.specs.Granting.{granted, is_granted, held_here}
use Rattle.pl_switch_rule.specs.Intake.{comes_from_host}
use Rattle.pl_switch_rule.specs.Levels.{changes_to, with_pod}
use Rattle.pl_switch_rule.specs.Messages.{answer_frame, flood_frame, hears_manager, takes_pod}
use Rattle.pl_switch_rule.specs.Positions.{after_vote, fixes_position, half, with_granted}
use Rattle.pl_switch_rule.specs.SwitchRule.{comes_from_switch, data_comes}
use Rattle.std.proofs.lemmas.Bool.{cond_both}
use Rattle.pl_switch_rule.proofs.Exports.{answers_stay, changes_learn, floods_stay, invalidates_learns, switch_frame_stays, frees_learn}

pub ports_changes : (old new : SwitchView) → (changes_to old new).view.ports ≡ new.ports
ports_changes old new = ap (λ (w : SwitchView). w.ports) (changes_learn old new)

pub ports_manager : (choose : Choice) (v : SwitchView) (says : ToSwitch) → (hears_manager choose v says).view.ports ≡ v.ports
ports_manager choose v (Pod n) =
    cond_both (takes_pod v n) (changes_to v (with_pod v (Some n))) (rests v) (λ (step : SwitchStep). step.view.ports ≡ v.ports)
    (λ takes. ports_changes v (with_pod v (Some n))) (λ other. refl)
ports_manager choose v (Avoid list) = refl
ports_manager choose v (Hello epoch) = refl
ports_manager choose v (Tree group part) = refl
ports_manager choose v (SayAnswer asker asker_ip ip pmac) =
    ap (λ (w : SwitchView). w.ports) (answers_stay choose v (is_granted v asker) (answer_frame asker asker_ip ip pmac))
ports_manager choose v (Flood asker asker_ip ip) = ap (λ (w : SwitchView). w.ports) (floods_stay v (is_granted v asker) (flood_frame asker asker_ip ip))
ports_manager choose v (Invalidate before new number ip) =
    ap (λ (w : SwitchView). w.ports) (invalidates_learns v before (record { new = new; number = number; ip = ip }) (held_here v before))
ports_manager choose v (Release address) = ap (λ (w : SwitchView). w.ports) (frees_learn v address (granted v address))

-- a data frame over a link
pub ports_carried : (choose : Choice) (v : SwitchView) (port : ℕ) (frame : List ℕ) → (port_of v port).host ≡ false →
    is_some (port_of v port).heard ≡ true → (data_comes choose v port frame).view.ports ≡ v.ports
ports_carried choose v port frame no_host heard =
    by (is_open_to_hosts (port_of v port)) (closed (port_of v port).heard no_host heard)
  where
    closed : (o : Option Neighbour) → (port_of v port).host ≡ false → is_some o ≡ true → ((port_of v port).host || is_none o) ≡ false
    closed None no_host some = absurd (cc)
    closed (Some n) no_host some = rw no_host refl

    by : (b : Bool) → b ≡ false → (if◌then◌else◌ {A = SwitchStep} b (comes_from_host choose v port frame) (comes_from_switch choose v port frame)).view.ports ≡ v.ports
    by true e = absurd (cc)
    by false e = ap (λ (w : SwitchView). w.ports) (switch_frame_stays choose v port frame)

pub ports_vote : (v : SwitchView) (port : ℕ) (vote : Answer) → (after_vote v port vote).ports ≡ v.ports
ports_vote v port vote = by (counts v.place v.attempt v.proposed vote) vote.granted (gives_way v.id vote) (v.attempt == 4294967295)
  where
    by : (a b c d : Bool) → (if◌then◌else◌ {A = SwitchView} a (if b then fixes_position (with_granted v port) else if c then (if d then v else record v { attempt = v.attempt + 1; proposed = (v.proposed + 1) % half v.k; granted = [] }) else v) v).ports ≡ v.ports
    by false b c d = refl
    by true true c d = refl
    by true false false d = refl
    by true false true true = refl
    by true false true false = refl
