-- A control frame comes at a switch, or the number of its pod: it tells, votes, and grants addresses only where it settles.
use Rattle.std.proofs.Common.{◌⊎◌, inl, inr, ◌≡◌, ℕ, ◌<◌, ◌∙◌, arith, reverse, ◌&&◌, nat_lt, Bool, true, false, List, ◌∷◌, Result, Ok, Err, set, refl, sym, ap, subst}
use Rattle.std.proofs.lemmas.Bool.{cond-false, cond-true, cond_both}
use Rattle.pl_frame.specs.Ethernet.{payload_of}
use Rattle.pl_layouts.specs.Control.{control_in, is_control}
use Rattle.pl_layouts.specs.Placement.{is_known}
use Rattle.pl_layouts.specs.declared.control.Control.{Control}
use Rattle.pl_layouts.specs.declared.control.Control.TheVariants as control
use Rattle.pl_layouts.specs.declared.control.ControlError.{ControlError}
use Rattle.pl_node.specs.PortRecords.{place_at, port_of, ports_of_switch}
use Rattle.pl_node.specs.SwitchViews.{SwitchView}
use Rattle.pl_steps.specs.Steps.{SwitchStep, rests}
use Rattle.pl_switch_rule.specs.Granting.{grants_remembered}
use Rattle.pl_switch_rule.specs.Levels.{after_message, changes_to, has_become_placed, settles_in}
use Rattle.pl_switch_rule.specs.Messages.{hears_pod, takes_pod}
use Rattle.pl_switch_rule.specs.Levels.{with_pod}
use Rattle.pl_switch_rule.specs.Positions.{after_vote, answers_proposal, frees_others, half}
use Rattle.pl_switch_rule.specs.SwitchRule.{Loose, control_comes, data_comes, hears_control, switch_step}
use Rattle.pl_switch_rule.specs.Telling.{changes_told}
use Rattle.std.specs.Prelude.{Some}
use Rattle.std.proofs.Math.ListN.{length-set}
use Rattle.pl_wiring.specs.declared.label.SwitchNo.{SwitchNo}
use Rattle.pl_wiring.specs.declared.link.Peer.{Peer}
use Rattle.pl_wiring.specs.declared.link.Peer.TheVariants.{Switch}
use Rattle.pl_wiring.specs.Index.{port_index}
use Rattle.pl_wiring.specs.Peers.{IsPort, peer_of}
use Rattle.pl_node.specs.Accounting.{AccountsForFrames}
use Rattle.pl_node.specs.SwitchInputs.SwitchInput.{Comes, Says}
use Rattle.pl_node.specs.declared.messages.ToSwitch.{ToSwitch}
use Rattle.pl_node.specs.declared.messages.ToSwitch.TheVariants.{Pod}
use Rattle.pl_world.specs.declared.item.Item.{Item}
use Rattle.pl_world.specs.declared.item.Item.TheVariants.{Control as ControlItem}
use Rattle.pl_world.specs.declared.spoken_frame.SpokenFrame.TheVariants.{Silent}
use Rattle.pl_world.specs.Changes.{out_of}
use Rattle.pl_world.specs.Flying.{IsCounted, IsFrame}
use Rattle.pl_world.specs.WorldRule.{SwitchTurn}
use Rattle.pl_world.specs.Worlds.{WorldView}
use Rattle.pl_world.proofs.Exports.{head_is_item, peer_is_port, says_rest, Sound, sound, took_out_balance}
use Rattle.pl_law_flights.specs.OnTheWay.{IsJournaled, history_of, place_in}
use Rattle.pl_law_flights.specs.Standing.{IsMore}
use Rattle.pl_law_flights.proofs.NoFlightAtFirst.{lost_journaled}
use Rattle.pl_law_flights.proofs.Hands.Hand.{Empty}
use Rattle.pl_law_flights.proofs.OverLinks.{taken_out}
use Rattle.pl_law_flights.proofs.Settling.{GrantsWell, HasNoneJustIn, settling_turn}
use Rattle.pl_node.specs.declared.acts.Act.{Act}
use Rattle.pl_law_flights.proofs.SilentSteps.{AreSilent, all_silent_good, silent_append, silent_changes, silent_turn}

-- what changed is told, and nothing is granted
pub silent_change : (old new : SwitchView) → has_become_placed old.place new.place ≡ false → AreSilent (changes_to old new).acts
silent_change old new stays =
    let none : settles_in old.place new ≡ rests new =
    cond-false (has_become_placed old.place new.place) (grants_remembered (ports_of_switch new.k) new) (rests new) stays in
    silent_append (changes_told old new) (settles_in old.place new).acts (silent_changes old new)
    (subst (λ (step : SwitchStep). AreSilent step.acts) (sym none) tt)

-- whether the switch becomes a placed edge switch by what it reads
abbrev pub settles_by : SwitchView → ℕ → Result Control ControlError → Bool
settles_by v port (Err e) = false
settles_by v port (Ok (control.Ldm id m)) = has_become_placed v.place (after_message v port id m).place
settles_by v port (Ok (control.Proposal id p)) = false
settles_by v port (Ok (control.Vote id vote)) = has_become_placed v.place (after_vote v port vote).place

silent_heard : (v : SwitchView) (port : ℕ) (read : Result Control ControlError) → settles_by v port read ≡ false → AreSilent (hears_control v port read).acts
silent_heard v port (Err e) stays = tt
silent_heard v port (Ok (control.Ldm id m)) stays = silent_change v (after_message v port id m) stays
silent_heard v port (Ok (control.Proposal id p)) stays =
    cond_both (is_known v.place.level 1 && is_known (place_at v port).level 0 && nat_lt p.position (half v.k))
    (answers_proposal (frees_others v id p.position) port id p) (rests v) (λ (step : SwitchStep). AreSilent step.acts) (λ here. (tt, tt)) (λ other. tt)
silent_heard v port (Ok (control.Vote id vote)) stays = silent_change v (after_vote v port vote) stays

pub silent_control : (v : SwitchView) (port : ℕ) (frame : List ℕ) → settles_by v port (control_in (payload_of frame)) ≡ false → AreSilent (control_comes v port frame).acts
silent_control v port frame stays = cond_both (port_of v port).host (rests v) (hears_control v port (control_in (payload_of frame)))
    (λ (step : SwitchStep). AreSilent step.acts) (λ host. tt) (λ other. silent_heard v port (control_in (payload_of frame)) stays)

-- and so it is with its pod
pub silent_pod : (v : SwitchView) (pod : ℕ) → has_become_placed v.place (with_pod v (Some pod)).place ≡ false → AreSilent (hears_pod v pod).acts
silent_pod v pod stays = cond_both (takes_pod v pod) (changes_to v (with_pod v (Some pod))) (rests v) (λ (step : SwitchStep). AreSilent step.acts)
    (λ takes. silent_change v (with_pod v (Some pod)) stays) (λ other. tt)

-- What the part on addresses gives where a switch settles: it may grant what it grants, and no frame has just come in there.
pub record MaySettle (w : WorldView) (t : ℕ) (acts : List Act) : Type 0 where
  pub grants : GrantsWell w.plan t acts (reverse w.journal)
  pub none_just_in : HasNoneJustIn w.plan (reverse w.journal) t

-- a control frame comes over a link
pub control_journaled : (w : WorldView) (s port : ℕ) (frame : List ℕ) (items : List Item) (t : SwitchNo) (q : ℕ) (new : WorldView) → AccountsForFrames Loose →
    IsCounted w → IsJournaled w → port < w.plan.k → out_of w s port ≡ ControlItem frame ∷ items → peer_of w.plan s port ≡ Switch t q →
    (turn : SwitchTurn Loose (taken_out w s port items) t.0 (Comes q frame) Silent new) → (settles_by turn.before q (control_in (payload_of frame)) ≡ false) ⊎ MaySettle w t.0 turn.acts →
    IsMore (place_in w.switches) (place_in new.switches) → IsJournaled new
control_journaled w s port frame items t q new accounts counted told within head peer turn by more =
    let so = sound w counted in
    let item : IsFrame true frame = head_is_item w.out (port_index w.plan.k s port) (ControlItem frame) items head so.balance.port_items in
    let port_there = subst (λ (p : Peer). IsPort w.plan.k p) peer (peer_is_port w.plan s port so.rest.is_plan) in
    let v : SwitchView = turn.before in
    let step : switch_step turn.ruled.choose v (Comes q frame) ≡ control_comes v q frame =
    cond-true (is_control frame) (control_comes v q frame) (data_comes turn.ruled.choose v q frame) item.kind in
    let acts : turn.acts ≡ (control_comes v q frame).acts = turn.ruled.steps.done ∙ ap (λ (x : SwitchStep). x.acts) step in
    let so_taken : Sound (taken_out w s port items) = record {
      balance = took_out_balance w.plan w.from_hosts w.out w.journal w.begun (λ i. 0) (λ i. 0) (port_index w.plan.k s port) (ControlItem frame) items head
          (λ i. omega arith) so.balance;
      rest = so.rest;
    } in
    let told_taken : IsJournaled (taken_out w s port items) = lost_journaled w s port (ControlItem frame) items counted told within head in
    elim by [
      | inl stays ↦ silent_turn Loose accounts (taken_out w s port items) t.0 (Comes q frame) new (rw (item.kind) refl)
          (λ u size. record { within = subst (λ n. q < n) (sym size) port_there.1; whole = item.whole }) so_taken told_taken turn more
          (all_silent_good w.plan (place_in new.switches) (history_of (reverse w.journal)) t.0 turn.acts Empty
          (subst AreSilent (sym acts) (silent_control v q frame stays)))
      | inr may ↦ settling_turn Loose accounts (taken_out w s port items) t.0 (Comes q frame) new (rw (item.kind) refl)
          (λ u size. record { within = subst (λ n. q < n) (sym size) port_there.1; whole = item.whole }) so_taken told_taken turn more may.grants may.none_just_in
    ]

-- and it learns a pod
pub pod_journaled : (w : WorldView) (t pod : ℕ) (rest : List ToSwitch) (new : WorldView) → AccountsForFrames Loose → IsCounted w → IsJournaled w →
    (turn : SwitchTurn Loose (record w { from_manager = set w.from_manager t rest }) t (Says (Pod pod)) Silent new) →
    (has_become_placed turn.before.place (with_pod turn.before (Some pod)).place ≡ false) ⊎ MaySettle w t turn.acts → IsMore (place_in w.switches) (place_in new.switches) → IsJournaled new
pod_journaled w t pod rest new accounts counted told turn by more =
    let so = sound w counted in
    let so_said : Sound (record w { from_manager = set w.from_manager t rest }) = record {
      balance = so.balance;
      rest = says_rest w.from_manager _ (length-set w.from_manager t _) so.rest;
    } in
    elim by [
      | inl stays ↦ silent_turn Loose accounts (record w { from_manager = set w.from_manager t rest }) t (Says (Pod pod)) new refl (λ u size. tt) so_said told turn more
          (all_silent_good w.plan (place_in new.switches) (history_of (reverse w.journal)) t turn.acts Empty
          (subst AreSilent (sym turn.ruled.steps.done) (silent_pod turn.before pod stays)))
      | inr may ↦ settling_turn Loose accounts (record w { from_manager = set w.from_manager t rest }) t (Says (Pod pod)) new refl (λ u size. tt) so_said told turn more
          may.grants may.none_just_in
    ]
