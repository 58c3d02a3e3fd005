-- What a step writes of places and of registrations: none, or what a switch came to know, or what the manager registers; or it says that the manager
-- began anew.
use Rattle.std.proofs.Common.{◌≡◌, ℕ, ◌+◌, Bool, true, false, if◌then◌else◌, List, [], ◌∷◌, ◌++◌, set, slice_get, fold, Option, Some, None, refl, sym, ap, ◌∙◌, subst}
use Rattle.std.specs.List.{filter_map, position}
use Rattle.pl_frame.specs.declared.address.SwitchId.{SwitchId}
use Rattle.pl_layouts.specs.declared.place.Place.{Place}
use Rattle.pl_layouts.specs.Equality.{same_switch}
use Rattle.pl_layouts.specs.Placement.{same_place}
use Rattle.pl_journal.specs.declared.entry.Entry.{Entry}
use Rattle.pl_journal.specs.declared.entry.Entry.TheVariants.{Placed, Registered, Restarted}
use Rattle.pl_node.specs.declared.acts.ManagerAct.{ManagerAct}
use Rattle.pl_node.specs.declared.acts.ManagerAct.TheVariants.{Number, Say}
use Rattle.pl_node.specs.declared.messages.ToManager.{ToManager}
use Rattle.pl_node.specs.declared.messages.ToSwitch.{ToSwitch}
use Rattle.pl_node.specs.HostInputs.{HostRule}
use Rattle.pl_node.specs.ManagerDuties.{ManagerRule, numbered_by}
use Rattle.pl_node.specs.ManagerViews.{ManagerView, restarted_manager}
use Rattle.pl_node.specs.SwitchInputs.{SwitchInput, SwitchRule}
use Rattle.pl_node.specs.SwitchViews.{SwitchView}
use Rattle.pl_world.specs.declared.event.Event.{Event}
use Rattle.pl_world.specs.declared.event.Event.TheVariants as event
use Rattle.pl_world.specs.declared.spoken_frame.SpokenFrame.{SpokenFrame}
use Rattle.pl_world.specs.declared.attachment.AttachmentPoint.{AttachmentPoint}
use Rattle.pl_world.specs.Changes.{noted, said_to, switch_no}
use Rattle.pl_world.specs.LinksAndMoves.{host_moved}
use Rattle.pl_world.specs.OtherActs.{manager_act_done}
use Rattle.pl_world.specs.SwitchActs.{acts_done, begins}
use Rattle.pl_world.specs.WorldRule.{ManagerTurn, SwitchTurn, WorldStep}
use Rattle.pl_world.specs.Worlds.{WorldView}
use Rattle.pl_world.proofs.Exports.{turned, Turned as TurnsBy}
use Rattle.pl_world.proofs.Exports.Turned.{NoTurn, OfFailed, OfHost, OfManager, OfMoved, OfRepaired, OfRestarted, OfSwitch}
use Rattle.pl_law_records.proofs.EntriesWritten.{Adds, IsOther, AddsOtherEntries, acts_quiet, adds_nothing, adds_others, adds_then, failed_quiet, moved_quiet, quiet_self, quiet_takes, quiet_then, quiet_writes, repaired_quiet, turn_quiet}

-- a switch that came to know another place, with it
abbrev pub placed_then : ℕ → Place → Place → List (ℕ × Place)
placed_then s old new = if same_place old new then [] else (s, new) ∷ []

-- the manager begins anew
pub record BeginsAnew (w : WorldView) (happens : Event) (new : WorldView) : Type 0 where
  pub is : happens ≡ event.Restart
  pub journal : new.journal ≡ w.journal ++ Restarted (w.manager.epoch + 1) ∷ []
  pub manager : new.manager ≡ restarted_manager w.manager.k (w.manager.epoch + 1)
  pub switches : new.switches ≡ w.switches

-- What a step does to places and registrations.
pub data Outcome (manager : ManagerRule) (w : WorldView) (happens : Event) (new : WorldView) : Type 0 where
  Neither : AddsOtherEntries w new → Outcome manager w happens new
  Turned : (s : ℕ) (before after : SwitchView) → slice_get w.switches s ≡ Some before → new.switches ≡ set w.switches s after →
      Adds w.journal new.journal (placed_then s before.place after.place) [] → new.manager ≡ w.manager → Outcome manager w happens new
  Managed : (id : SwitchId) (told : ToManager) (after : ManagerView) (acts : List ManagerAct) → manager w.manager id told after acts → new.manager ≡ after →
      Adds w.journal new.journal [] (filter_map numbered_by acts) → new.switches ≡ w.switches → Outcome manager w happens new
  Restarts : BeginsAnew w happens new → Outcome manager w happens new

module _ (manager : ManagerRule) where
  -- a switch turns, after entries that say nothing
  switch_outcome : (rule : SwitchRule) (w mid : WorldView) (happens : Event) (s : ℕ) (input : SwitchInput) (speech : SpokenFrame) (new : WorldView) →
      AddsOtherEntries w mid → SwitchTurn rule mid s input speech new → Outcome manager w happens new
  switch_outcome rule w mid happens s input speech new first turn =
      let start : WorldView = record mid { switches = set mid.switches s turn.after } in
      let done = acts_done s (begins start speech) turn.acts in
      let amid = acts_quiet s (begins start speech) turn.acts tt in
      let acted : Adds mid.journal (done.world.journal ++ done.late) [] [] =
      adds_then mid.journal done.world.journal (done.world.journal ++ done.late) [] [] [] [] amid.left.adds
      (adds_others done.world.journal done.late amid.late) in
      let all = adds_then w.journal mid.journal (done.world.journal ++ done.late) [] [] [] [] first.adds acted in
      let last = placed_adds (done.world.journal ++ done.late) turn.before.place turn.after.place in
      Turned s turn.before turn.after (ap (λ views. slice_get views s) (sym first.switches) ∙ turn.found)
      (ap (λ (x : WorldView). x.switches) turn.changed ∙ amid.left.switches ∙ ap (λ views. set views s turn.after) first.switches)
      (subst (λ j. Adds w.journal j (placed_then s turn.before.place turn.after.place) []) (sym (ap (λ (x : WorldView). x.journal) turn.changed))
      (adds_then w.journal (done.world.journal ++ done.late) _ [] _ [] [] all last))
      (ap (λ (x : WorldView). x.manager) turn.changed ∙ amid.left.manager ∙ first.manager)
    where
      placed_adds : (j : List Entry) (old now : Place) → Adds j (j ++ (if same_place old now then [] else Placed (switch_no s) now ∷ [])) (placed_then s old now) []
      placed_adds j old now = by (same_place old now)
        where
          by : (b : Bool) → Adds j (j ++ (if b then [] else Placed (switch_no s) now ∷ [])) (if b then [] else (s, now) ∷ []) []
          by true = adds_others j [] tt
          by false = record { entries = Placed (switch_no s) now ∷ []; added = refl; of_places = refl; of_registrations = refl; of_restarts = refl }

  -- the manager steps
  said_quiet : (w : WorldView) (says : ToSwitch) (to : Option ℕ) → AddsOtherEntries w (said_to w says to)
  said_quiet w says None = quiet_self w
  said_quiet w says (Some t) = record { adds = adds_nothing w.journal; switches = refl; manager = refl }

  pub record Numbers (w : WorldView) (acts : List ManagerAct) (new : WorldView) : Type 0 where
    pub adds : Adds w.journal new.journal [] (filter_map numbered_by acts)
    pub switches : new.switches ≡ w.switches
    pub same : new.manager ≡ w.manager

  manager_numbers : (w : WorldView) (acts : List ManagerAct) → Numbers w acts (fold manager_act_done w acts)
  manager_numbers w [] = record { adds = adds_nothing w.journal; switches = refl; same = refl }
  manager_numbers w (Say to says ∷ acts) =
      let mid = said_to w says (position (same_switch to) w.plan.ids) in
      let q = said_quiet w says (position (same_switch to) w.plan.ids) in
      let rest = manager_numbers mid acts in
      record {
        adds = adds_then w.journal mid.journal (fold manager_act_done mid acts).journal [] [] [] (filter_map numbered_by acts) q.adds rest.adds;
        switches = rest.switches ∙ q.switches;
        same = rest.same ∙ q.manager;
      }
  manager_numbers w (Number pmac n ∷ acts) =
      let mid = noted w (Registered pmac n) in
      let rest = manager_numbers mid acts in
      record {
        adds = adds_then w.journal mid.journal (fold manager_act_done mid acts).journal [] [] ((pmac, n) ∷ []) (filter_map numbered_by acts)
            (record { entries = Registered pmac n ∷ []; added = refl; of_places = refl; of_registrations = refl; of_restarts = refl }) rest.adds;
        switches = rest.switches;
        same = rest.same;
      }

  manager_outcome : (w mid : WorldView) (happens : Event) (s : ℕ) (told : ToManager) (new : WorldView) → AddsOtherEntries w mid →
      ManagerTurn manager mid s told new → Outcome manager w happens new
  manager_outcome w mid happens s told new first turn =
      let start : WorldView = record mid { manager = turn.after } in
      let numbers = manager_numbers start turn.acts in
      let changed = turn.changed in
      Managed turn.id told turn.after turn.acts (subst (λ (m : ManagerView). manager m turn.id told turn.after turn.acts) first.manager turn.ruled)
      (ap (λ (x : WorldView). x.manager) changed ∙ numbers.same)
      (subst (λ j. Adds w.journal j [] (filter_map numbered_by turn.acts)) (sym (ap (λ (x : WorldView). x.journal) changed))
      (adds_then w.journal mid.journal (fold manager_act_done start turn.acts).journal [] [] [] (filter_map numbered_by turn.acts) first.adds numbers.adds))
      (ap (λ (x : WorldView). x.switches) changed ∙ numbers.switches ∙ first.switches)

  module _ (switch : SwitchRule) (host : HostRule) where
    by_turn : (w : WorldView) (happens : Event) (new : WorldView) → TurnsBy AddsOtherEntries switch manager host w happens new → Outcome manager w happens new
    by_turn w happens new (NoTurn q) = Neither q
    by_turn w happens new (OfSwitch mid s input speech q turn) = switch_outcome switch w mid happens s input speech new q turn
    by_turn w happens new (OfHost mid h input answer q turn) = Neither (quiet_then w mid new q (turn_quiet host mid h input answer new turn))
    by_turn w happens new (OfManager mid s told q turn) = manager_outcome w mid happens s told new q turn
    by_turn w happens new (OfMoved h s port from is at turn) =
        let to : AttachmentPoint = record { edge = s; port = port } in
        let moved = host_moved w h.0 from to in Neither (quiet_then w moved new (moved_quiet w h.0 from to) (turn_quiet host moved h.0 _ _ new turn))
    by_turn w happens new (OfFailed a b link is found fails) = Neither (subst (λ x. AddsOtherEntries w x) (sym fails) (failed_quiet w link))
    by_turn w happens new (OfRepaired a b link is found repairs) = Neither (subst (λ x. AddsOtherEntries w x) (sym repairs) (repaired_quiet w link))
    by_turn w happens new (OfRestarted is anew) = Restarts (record {
      is = is;
      journal = ap (λ (x : WorldView). x.journal) anew;
      manager = ap (λ (x : WorldView). x.manager) anew;
      switches = ap (λ (x : WorldView). x.switches) anew;
    })

    pub outcome : (old : WorldView) (happens : Event) (new : WorldView) → WorldStep switch manager host old happens new → Outcome manager old happens new
    outcome old happens new step =
        let counted : WorldView = record old { steps = old.steps + 1 } in
        same (by_turn counted happens new
        (turned AddsOtherEntries IsOther quiet_writes quiet_takes (λ id s. (refl, refl, refl)) (λ id h frame. (refl, refl, refl))
        (λ h skip. (refl, refl, refl)) switch manager host counted happens new step))
      where
        same : Outcome manager (record old { steps = old.steps + 1 }) happens new → Outcome manager old happens new
        same (Neither q) = Neither (record { adds = q.adds; switches = q.switches; manager = q.manager })
        same (Turned s before after found switches adds stays) = Turned s before after found switches adds stays
        same (Managed id told after acts ruled is adds switches) = Managed id told after acts ruled is adds switches
        same (Restarts anew) = Restarts (record { is = anew.is; journal = anew.journal; manager = anew.manager; switches = anew.switches })
