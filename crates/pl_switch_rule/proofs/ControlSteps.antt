-- The steps in which no data frame comes or is made account for all frames: a control frame, and four messages of the manager.
use Rattle.std.proofs.Common.{◌≡◌, ◌<◌, ℕ, true, false, if◌then◌else◌, List, Option, Result, Ok, Err, refl, sym, ap, subst, ◌∙◌, inl, inr}
use Rattle.pl_frame.specs.declared.address.SwitchId.{SwitchId}
use Rattle.pl_frame.specs.Ethernet.{payload_of}
use Rattle.pl_layouts.specs.declared.control.Control.{Control}
use Rattle.pl_layouts.specs.declared.control.Control.TheVariants as control
use Rattle.pl_layouts.specs.declared.control.ControlError.{ControlError}
use Rattle.pl_node.specs.declared.messages.ToSwitch.TheVariants.{Avoid, Hello, Pod, Tree}
use Rattle.pl_node.specs.declared.messages.TreePart.{TreePart}
use Rattle.pl_layouts.specs.Control.{control_in, is_control}
use Rattle.pl_switch_rule.specs.Forwarding.{Choice}
use Rattle.pl_node.specs.Accounting.{IsComing, IsAccounted, IsShaped, FrameState, first_frame_state, is_said, frame_state}
use Rattle.pl_node.specs.Accounting.FrameState.{Silent, Waiting}
use Rattle.pl_switch_rule.specs.Messages.{hears_pod, with_part}
use Rattle.pl_node.specs.PortRecords.{port_of}
use Rattle.pl_switch_rule.specs.Positions.{after_vote}
use Rattle.pl_switch_rule.specs.Reporting.{hears_hello}
use Rattle.pl_steps.specs.Steps.{SwitchStep, rests}
use Rattle.pl_switch_rule.specs.SwitchRule.{control_comes, data_comes, hears_control, switch_step}
use Rattle.pl_node.specs.SwitchInputs.{SwitchInput}
use Rattle.pl_node.specs.SwitchInputs.SwitchInput.{Comes, Says}
use Rattle.pl_node.specs.SwitchViews.{SwitchView}
use Rattle.pl_switch_rule.proofs.StepParts.{HasEnded, IsEnding, IsMaking, IsQuiet}
use Rattle.pl_switch_rule.proofs.QuietActs.{quiet_either, quiet_self}
use Rattle.pl_switch_rule.proofs.LevelParts.{quiet_changes_to, quiet_hears_message}
use Rattle.pl_switch_rule.proofs.PositionParts.{same_after_vote}
use Rattle.pl_switch_rule.proofs.ControlParts.{quiet_hears_proposal}
use Rattle.pl_switch_rule.proofs.MessageParts.{quiet_hears_hello, quiet_hears_pod, quiet_with_avoid, quiet_with_part}

-- From parts to laws.

pub quiet_is_accounted : (v : SwitchView) (input : SwitchInput) (s : SwitchStep) → first_frame_state input ≡ Silent → IsQuiet v s → IsAccounted v input s.view s.acts
quiet_is_accounted v input s silent q = record {
  said = ap (λ start. is_said (frame_state start s.acts)) silent ∙ ap is_said q.silent;
  fit = q.fit;
  id = q.same.id;
  k = q.same.k;
  shaped = q.same.shaped;
}

pub ended_is_said : (now : FrameState) → HasEnded now → is_said now ≡ true
ended_is_said now (inl passed) = ap is_said passed
ended_is_said now (inr ended) = ap is_said ended

pub ending_is_accounted : (v : SwitchView) (input : SwitchInput) (s : SwitchStep) → first_frame_state input ≡ Waiting → IsEnding v s → IsAccounted v input s.view s.acts
ending_is_accounted v input s waiting e = record {
  said = ap (λ start. is_said (frame_state start s.acts)) waiting ∙ ended_is_said (frame_state Waiting s.acts) e.ends;
  fit = e.fit;
  id = e.same.id;
  k = e.same.k;
  shaped = e.same.shaped;
}

pub making_is_accounted : (v : SwitchView) (input : SwitchInput) (s : SwitchStep) → first_frame_state input ≡ Silent → IsMaking v s → IsAccounted v input s.view s.acts
making_is_accounted v input s silent m = record {
  said = ap (λ start. is_said (frame_state start s.acts)) silent ∙ ended_is_said (frame_state Silent s.acts) m.silent;
  fit = m.further.fit;
  id = m.further.same.id;
  k = m.further.same.k;
  shaped = m.further.same.shaped;
}

-- A control frame.

pub quiet_hears_control : (v : SwitchView) (port : ℕ) (read : Result Control ControlError) → IsShaped v → port < v.k → IsQuiet v (hears_control v port read)
quiet_hears_control v port (Err e) s within = quiet_self v s
quiet_hears_control v port (Ok (control.Ldm id m)) s within = quiet_hears_message v port id m s
quiet_hears_control v port (Ok (control.Proposal id p)) s within = quiet_hears_proposal v port id p s within
quiet_hears_control v port (Ok (control.Vote id vote)) s within = quiet_changes_to v (after_vote v port vote) (same_after_vote v port vote s)

pub quiet_control_comes : (v : SwitchView) (port : ℕ) (frame : List ℕ) → IsShaped v → port < v.k → IsQuiet v (control_comes v port frame)
quiet_control_comes v port frame s within =
    let read = control_in (payload_of frame) in
    quiet_either v (port_of v port).host (rests v) (hears_control v port read) (λ h. quiet_self v s) (λ h. quiet_hears_control v port read s within)

pub accounted_control : (choose : Choice) (v : SwitchView) (port : ℕ) (frame : List ℕ) → IsShaped v → IsComing v.k port frame → is_control frame ≡ true →
    IsAccounted v (Comes port frame) (switch_step choose v (Comes port frame)).view (switch_step choose v (Comes port frame)).acts
accounted_control choose v port frame s coming is =
    let silent : first_frame_state (Comes port frame) ≡ Silent = ap (λ b. if◌then◌else◌ {A = FrameState} b Silent Waiting) is in
    let step : switch_step choose v (Comes port frame) ≡ control_comes v port frame =
    ap (λ b. if◌then◌else◌ {A = SwitchStep} b (control_comes v port frame) (data_comes choose v port frame)) is in
    subst (λ t. IsAccounted v (Comes port frame) t.view t.acts) (sym step)
    (quiet_is_accounted v (Comes port frame) (control_comes v port frame) silent (quiet_control_comes v port frame s coming.within))

-- A data frame, whose part ends it.
pub accounted_data : (choose : Choice) (v : SwitchView) (port : ℕ) (frame : List ℕ) → is_control frame ≡ false → IsEnding v (data_comes choose v port frame) →
    IsAccounted v (Comes port frame) (switch_step choose v (Comes port frame)).view (switch_step choose v (Comes port frame)).acts
accounted_data choose v port frame is ending =
    let waiting : first_frame_state (Comes port frame) ≡ Waiting = ap (λ b. if◌then◌else◌ {A = FrameState} b Silent Waiting) is in
    let step : switch_step choose v (Comes port frame) ≡ data_comes choose v port frame =
    ap (λ b. if◌then◌else◌ {A = SwitchStep} b (control_comes v port frame) (data_comes choose v port frame)) is in
    subst (λ t. IsAccounted v (Comes port frame) t.view t.acts) (sym step)
    (ending_is_accounted v (Comes port frame) (data_comes choose v port frame) waiting ending)

-- Messages.

pub accounted_pod : (choose : Choice) (v : SwitchView) (pod : ℕ) → IsShaped v →
    IsAccounted v (Says (Pod pod)) (switch_step choose v (Says (Pod pod))).view (switch_step choose v (Says (Pod pod))).acts
accounted_pod choose v pod s = quiet_is_accounted v (Says (Pod pod)) (hears_pod v pod) refl (quiet_hears_pod v pod s)

pub accounted_avoid : (choose : Choice) (v : SwitchView) (list : List (SwitchId × ℕ × ℕ)) → IsShaped v →
    IsAccounted v (Says (Avoid list)) (switch_step choose v (Says (Avoid list))).view (switch_step choose v (Says (Avoid list))).acts
accounted_avoid choose v list s = quiet_is_accounted v (Says (Avoid list)) (rests (record v { avoid = list })) refl (quiet_with_avoid v list s)

pub accounted_tree : (choose : Choice) (v : SwitchView) (group : ℕ) (part : Option TreePart) → IsShaped v →
    IsAccounted v (Says (Tree group part)) (switch_step choose v (Says (Tree group part))).view (switch_step choose v (Says (Tree group part))).acts
accounted_tree choose v group part s =
    quiet_is_accounted v (Says (Tree group part)) (rests (record v { parts = with_part group part v.parts })) refl (quiet_with_part v group part s)

pub accounted_hello : (choose : Choice) (v : SwitchView) (epoch : ℕ) → IsShaped v →
    IsAccounted v (Says (Hello epoch)) (switch_step choose v (Says (Hello epoch))).view (switch_step choose v (Says (Hello epoch))).acts
accounted_hello choose v epoch s = quiet_is_accounted v (Says (Hello epoch)) (hears_hello v epoch) refl (quiet_hears_hello v epoch s)
