-- Where a switch becomes a placed edge switch, each address that it grants may be granted then.
use Rattle.std.proofs.Common.{◌≡◌, ℕ, zero, suc, ◌+◌, ◌<◌, ◌&&◌, not, true, false, List, [], ◌∷◌, None, Some, Result, Ok, Err, get_or, reverse, slice_get, refl, sym, ◌∙◌, ap, subst, arith}
use Rattle.std.specs.List.{AllByRecursion, range_with_len}
use Rattle.std.proofs.lemmas.Bool.{and_parts, and_right, cond-true, cond_both, false≢true, not-true}
use Rattle.pl_frame.specs.Ethernet.{payload_of}
use Rattle.pl_pmac.specs.declared.pmac.Pmac.{Pmac}
use Rattle.pl_layouts.specs.Control.{control_in}
use Rattle.pl_layouts.specs.declared.control.Control.{Control}
use Rattle.pl_layouts.specs.declared.control.Control.TheVariants as control
use Rattle.pl_layouts.specs.declared.control.ControlError.{ControlError}
use Rattle.pl_layouts.specs.declared.place.Place.{Place}
use Rattle.pl_layouts.specs.Placement.{is_known, is_placed}
use Rattle.pl_node.specs.PortRecords.{port_of, ports_of_switch}
use Rattle.pl_node.specs.Accounting.{IsShaped, WereGranted}
use Rattle.pl_node.specs.SwitchViews.{SwitchView}
use Rattle.pl_steps.specs.Steps.{SwitchStep, rests}
use Rattle.pl_switch_rule.specs.Granting.{freed_at, grants_remembered}
use Rattle.pl_switch_rule.specs.Levels.{after_message, changes_to, has_become_placed, settles_in, with_pod}
use Rattle.pl_switch_rule.specs.Messages.{hears_pod, takes_pod}
use Rattle.pl_switch_rule.specs.Positions.{after_vote}
use Rattle.pl_switch_rule.specs.SwitchRule.{control_comes, hears_control}
use Rattle.pl_switch_rule.specs.Telling.{changes_told}
use Rattle.pl_world.specs.Worlds.{WorldView}
use Rattle.pl_law_addresses.specs.EdgeAddresses.{is_settled}
use Rattle.pl_law_addresses.proofs.Exports.{IsPlacing, message_placing, pod_placing, vote_placing}
use Rattle.pl_law_flights.specs.Standing.{FirstAddresses, IsNextAddress, KnowsHosts}
use Rattle.pl_switch_rule.proofs.Exports.{changes_learn}
use Rattle.pl_law_flights.proofs.ComingIn.{same_address}
use Rattle.pl_law_flights.proofs.ControlFrames.{settles_by}
use Rattle.pl_law_flights.proofs.Remembering.{IsReady, range_apart, remembered_well, well_behind}
use Rattle.pl_law_flights.proofs.Settling.{GrantsWell}
use Rattle.pl_law_flights.proofs.SilentSteps.{silent_changes}

-- what holds of each port of a switch
all_ports : (P : ℕ → Type 0) (from many top : ℕ) → from + many ≡ top → ((q : ℕ) → q < top → P q) → AllByRecursion P (range_with_len from many)
all_ports P from zero top is each = tt
all_ports P from (suc many) top is each = (each from (omega (arith, is)), all_ports P (from + 1) many top (omega (arith, is)) each)

-- what is told and granted leaves the place
changes_place : (old new : SwitchView) → (changes_to old new).view.place ≡ new.place
changes_place old new = ap (λ (w : SwitchView). w.place) (changes_learn old new)

-- what becomes placed was not placed before
pub was_unplaced : (old new : Place) → has_become_placed old new ≡ true → is_placed old ≡ false
was_unplaced old new settles = not-true (is_placed old) ((and_parts (is_known new.level 0 && is_placed new) (not (is_placed old)) settles).1)

pub unplaced_before : (v : SwitchView) (q : ℕ) (read : Result Control ControlError) → settles_by v q read ≡ true → is_placed v.place ≡ false
unplaced_before v q (Err e) settles = absurd (false≢true settles)
unplaced_before v q (Ok (control.Ldm id m)) settles = was_unplaced v.place (after_message v q id m).place settles
unplaced_before v q (Ok (control.Proposal id p)) settles = absurd (false≢true settles)
unplaced_before v q (Ok (control.Vote id vote)) settles = was_unplaced v.place (after_vote v q vote).place settles

-- where nothing was granted nothing is free
none_freed : (vmids : List ℕ) → WereGranted [] vmids → vmids ≡ []
none_freed [] were = refl
none_freed (vmid ∷ vmids) were = absurd (let some = were.0.0 in let within = were.0.1 in omega (arith, some, within))

module _ (w new : WorldView) (t : ℕ) (v : SwitchView) (found : slice_get w.switches t ≡ Some v) (size : v.k ≡ w.plan.k)
    (knows : KnowsHosts w.plan (reverse w.journal) t v) (shaped : IsShaped v) (first : FirstAddresses w new) where
  abbrev Grants : SwitchStep → Type 0
  Grants step = slice_get new.switches t ≡ Some step.view → GrantsWell w.plan t step.acts (reverse w.journal)

  changes_well : (u : SwitchView) → IsPlacing v u → has_become_placed v.place u.place ≡ true → Grants (changes_to v u)
  changes_well u p settles there =
      let past = reverse w.journal in
      let unsettled : is_settled v.place ≡ false = and_right (is_known v.place.level 0) (is_placed v.place) (was_unplaced v.place u.place settles) in
      let settled_u : is_settled u.place ≡ true = (and_parts (is_settled u.place) (not (is_placed v.place)) settles).0 in
      let after : SwitchView = (changes_to v u).view in
      let same : after.place ≡ u.place = changes_place v u in
      let ready : (port : ℕ) → port < u.k → IsReady w.plan t past u port = λ port within.
      record {
        empty = ap (λ gs. get_or gs port []) p.grants ∙ knows.empty unsettled port;
        none_free = ap (λ fs. get_or fs port []) p.freed
            ∙ none_freed (freed_at v port) (subst (λ gs. WereGranted gs (freed_at v port)) (knows.empty unsettled port) (shaped.free port));
        may = subst (λ (x : Pmac). IsNextAddress past t x) (same_address u after port 1 same)
            (first t v after found there unsettled (ap is_settled same ∙ settled_u) port (subst (λ n. port < n) (p.k ∙ size) within));
        stood = λ h source is. knows.stood port h source (ap (λ ss. get_or ss port None) (sym p.remembered) ∙ is);
      } in
      let all : AllByRecursion (IsReady w.plan t past u) (ports_of_switch u.k) = all_ports (IsReady w.plan t past u) 0 u.k u.k (omega arith) ready in
      well_behind w.plan t past (changes_told v u) (settles_in v.place u).acts (silent_changes v u)
      (subst (λ (step : SwitchStep). GrantsWell w.plan t step.acts past)
      (sym (cond-true (has_become_placed v.place u.place) (grants_remembered (ports_of_switch u.k) u) (rests u) settles))
      (remembered_well w.plan t (ports_of_switch u.k) u past (range_apart 0 u.k) all))

  heard_well : (q : ℕ) (read : Result Control ControlError) → settles_by v q read ≡ true → Grants (hears_control v q read)
  heard_well q (Err e) settles there = tt
  heard_well q (Ok (control.Ldm id m)) settles there = changes_well (after_message v q id m) (message_placing v q id m) settles there
  heard_well q (Ok (control.Proposal id p)) settles there = absurd (false≢true settles)
  heard_well q (Ok (control.Vote id vote)) settles there = changes_well (after_vote v q vote) (vote_placing v q vote) settles there

  pub control_well : (q : ℕ) (frame : List ℕ) → settles_by v q (control_in (payload_of frame)) ≡ true → Grants (control_comes v q frame)
  control_well q frame settles = cond_both (port_of v q).host (rests v) (hears_control v q (control_in (payload_of frame))) Grants
      (λ host there. tt) (λ other. heard_well q (control_in (payload_of frame)) settles)

  pub pod_well : (pod : ℕ) → has_become_placed v.place (with_pod v (Some pod)).place ≡ true → Grants (hears_pod v pod)
  pod_well pod settles = cond_both (takes_pod v pod) (changes_to v (with_pod v (Some pod))) (rests v) Grants
      (λ takes. changes_well (with_pod v (Some pod)) (pod_placing v pod takes) settles) (λ other there. tt)
