-- What a message of the fabric manager leads to: nothing, or a frame that is made and ends.
use Rattle.std.proofs.Common.{◌≡◌, ℕ, Bool, true, false, if◌then◌else◌, List, [], Option, Some, None, length, ◌<◌, refl, sym, ap, subst, ◌∙◌}
use Rattle.std.specs.List.{AllByRecursion}
use Rattle.pl_lemmas.proofs.Exports.{all_append}
use Rattle.pl_frame.specs.declared.address.Ip4.{Ip4}
use Rattle.pl_frame.specs.declared.address.Mac.{Mac}
use Rattle.pl_pmac.specs.declared.pmac.Pmac.{Pmac}
use Rattle.pl_switch_rule.specs.declared.came.Came.TheVariants.{FromHost}
use Rattle.pl_node.specs.declared.messages.ToSwitch.TheVariants.{Answer, Flood, Invalidate}
use Rattle.pl_node.specs.declared.trap.Trap.{Trap}
use Rattle.pl_switch_rule.specs.Delivering.{makes}
use Rattle.pl_switch_rule.specs.Forwarding.{Choice}
use Rattle.pl_layouts.specs.Frames.{arriving}
use Rattle.pl_switch_rule.specs.Granting.{held_here, is_granted}
use Rattle.pl_switch_rule.specs.GroupForwarding.{forwards_group}
use Rattle.pl_node.specs.Accounting.{IsFit, IsAccounted, IsMade, IsShaped, first_frame_state, is_said, frame_state}
use Rattle.pl_node.specs.Accounting.FrameState.{Silent}
use Rattle.pl_switch_rule.specs.Messages.{answer_frame, flood_frame, floods, forgets_members, hears_manager, invalidates, probe_frame, probes, probes_at, sets_trap}
use Rattle.pl_steps.specs.Steps.{SwitchStep, does, rests, ◌▹◌}
use Rattle.pl_switch_rule.specs.SwitchRule.{IsChoice}
use Rattle.pl_node.specs.SwitchInputs.{SwitchInput}
use Rattle.pl_node.specs.SwitchInputs.SwitchInput.{Says}
use Rattle.pl_node.specs.AddressUses.{is_in_use}
use Rattle.pl_node.specs.declared.switch_records.Grant.{Grant}
use Rattle.pl_node.specs.SwitchViews.{SwitchView}
use Rattle.pl_switch_rule.proofs.AllSteps.{IsAccountedStep}
use Rattle.pl_switch_rule.proofs.ControlSteps.{ended_is_said}
use Rattle.pl_switch_rule.proofs.DataFrames.{answer_frame_made, arriving_made, flood_frame_made, probe_frame_made}
use Rattle.pl_switch_rule.proofs.GoingHome.{AreGrantedAt, IsGrantedAt, held_at, makes_making}
use Rattle.pl_switch_rule.proofs.GoingOut.{forwards_group_ends, sent_by}
use Rattle.pl_switch_rule.proofs.MessageParts.{quiet_forgets_members, quiet_sets_trap}
use Rattle.pl_switch_rule.proofs.Shapes.{same_self}
use Rattle.pl_switch_rule.proofs.StepParts.{IsMaking, IsQuiet, IsSame, fit_at, make_then_ending, quiet_then_quiet, same_then, frame_state_append}

-- at its end no frame waits
pub record IsSettled (v : SwitchView) (s : SwitchStep) : Type 0 where
  pub said : is_said (frame_state Silent s.acts) ≡ true
  pub fit : AllByRecursion (IsFit v.k) s.acts
  pub same : IsSame v s.view

rests_settled : (v : SwitchView) → IsShaped v → IsSettled v (rests v)
rests_settled v shaped = record { said = refl; fit = tt; same = same_self v shaped }

making_settled : (v : SwitchView) (s : SwitchStep) → IsMaking v s → IsSettled v s
making_settled v s making =
    record { said = ended_is_said (frame_state Silent s.acts) making.silent; fit = making.further.fit; same = making.further.same }

pub quiet_then_settled : (v : SwitchView) (s : SwitchStep) (next : SwitchView → SwitchStep) → IsQuiet v s →
    ((w : SwitchView) → IsSame v w → IsSettled w (next w)) → IsSettled v (s ▹ next)
quiet_then_settled v s next a follows = let b = follows s.view a.same in record {
  said = ap is_said (frame_state_append Silent s.acts (next s.view).acts ∙ ap (λ x. frame_state x (next s.view).acts) a.silent) ∙ b.said;
  fit = all_append (IsFit v.k) s.acts (next s.view).acts a.fit (fit_at v s.view (next s.view).acts a.same b.fit);
  same = same_then v s.view (next s.view).view a.same b.same;
}

-- one of two parts
if_settled : (v : SwitchView) (test : Bool) (a b : SwitchStep) → IsSettled v a → IsSettled v b → IsSettled v (if test then a else b)
if_settled v true a b first other = first
if_settled v false a b first other = other

pub settled_is_accounted : (v : SwitchView) (input : SwitchInput) (s : SwitchStep) → first_frame_state input ≡ Silent → IsSettled v s → IsAccounted v input s.view s.acts
settled_is_accounted v input s silent settled = record {
  said = ap (λ start. is_said (frame_state start s.acts)) silent ∙ settled.said;
  fit = settled.fit;
  id = settled.same.id;
  k = settled.same.k;
  shaped = settled.same.shaped;
}

pub floods_making : (v : SwitchView) (frame : List ℕ) → IsShaped v → IsMade frame → IsMaking v (floods v frame)
floods_making v frame shaped made =
    make_then_ending v frame (λ w. forwards_group w (Some FromHost) frame) shaped made (forwards_group_ends v (Some FromHost) frame shaped made)

-- the frame is made, and passed on to the old port
probes_at_settled : (old : Pmac) (amac : Mac) (o : Option Ip4) (v : SwitchView) → IsShaped v → old.port < v.k → length amac.0 ≡ 6 →
    IsSettled v (probes_at old amac o v)
probes_at_settled old amac None v shaped within six = rests_settled v shaped
probes_at_settled old amac (Some ip) v shaped within six =
    let made = probe_frame_made old ip in
    let passed = arriving_made (probe_frame old ip) None (Some amac) made tt six in
    record {
      said = refl;
      fit = (made, (sent_by v.k old.port (arriving (probe_frame old ip) None (Some amac)) within passed, tt));
      same = same_self v shaped;
    }

probes_settled : (old : Pmac) (grant : Grant) (v : SwitchView) → IsShaped v → IsGrantedAt v.k old.port grant →
    IsSettled v (probes old grant v)
probes_settled old grant v shaped at =
    if_settled v (is_in_use grant.held) (probes_at old grant.amac grant.ip v) (rests v)
    (probes_at_settled old grant.amac grant.ip v shaped at.within at.six) (rests_settled v shaped)

pub invalidates_settled : (v : SwitchView) (old : Pmac) (trap : Trap) (o : Option Grant) → IsShaped v → AreGrantedAt v.k old.port o →
    IsSettled v (invalidates v old trap o)
invalidates_settled v old trap None shaped at = rests_settled v shaped
invalidates_settled v old trap (Some grant) shaped at =
    let set : SwitchStep = does (sets_trap v old grant trap) [] in
    quiet_then_settled v (set ▹ forgets_members old.port grant.amac) (probes old grant)
    (quiet_then_quiet v set (forgets_members old.port grant.amac) (quiet_sets_trap v old grant trap shaped at.six)
    (λ w same. quiet_forgets_members w old.port grant.amac same.shaped))
    (λ w same. probes_settled old grant w same.shaped (subst (λ k. IsGrantedAt k old.port grant) (sym same.k) at))

-- A host that asked is answered.
pub accounted_answer : (choose : Choice) (v : SwitchView) (asker : Pmac) (asker_ip ip : Ip4) (pmac : Pmac) → IsChoice choose → IsShaped v →
    IsAccountedStep choose v (Says (Answer asker asker_ip ip pmac))
accounted_answer choose v asker asker_ip ip pmac is_choice shaped =
    let frame = answer_frame asker asker_ip ip pmac in
    settled_is_accounted v (Says (Answer asker asker_ip ip pmac)) (hears_manager choose v (Answer asker asker_ip ip pmac)) refl
    (if_settled v (is_granted v asker) (makes choose frame v) (rests v)
    (making_settled v (makes choose frame v) (makes_making choose frame v is_choice shaped (answer_frame_made asker asker_ip ip pmac)))
    (rests_settled v shaped))

-- All hosts are asked.
pub accounted_flood : (choose : Choice) (v : SwitchView) (asker : Pmac) (asker_ip ip : Ip4) → IsShaped v →
    IsAccountedStep choose v (Says (Flood asker asker_ip ip))
accounted_flood choose v asker asker_ip ip shaped =
    let frame = flood_frame asker asker_ip ip in
    settled_is_accounted v (Says (Flood asker asker_ip ip)) (hears_manager choose v (Flood asker asker_ip ip)) refl
    (if_settled v (is_granted v asker) (floods v frame) (rests v)
    (making_settled v (floods v frame) (floods_making v frame shaped (flood_frame_made asker asker_ip ip))) (rests_settled v shaped))

-- A host has moved.
pub accounted_invalidate : (choose : Choice) (v : SwitchView) (old new : Pmac) (number : ℕ) (ip : Option Ip4) → IsShaped v →
    IsAccountedStep choose v (Says (Invalidate old new number ip))
accounted_invalidate choose v old new number ip shaped =
    settled_is_accounted v (Says (Invalidate old new number ip)) (hears_manager choose v (Invalidate old new number ip)) refl
    (invalidates_settled v old (record { new = new; number = number; ip = ip }) (held_here v old) shaped (held_at v old shaped))
