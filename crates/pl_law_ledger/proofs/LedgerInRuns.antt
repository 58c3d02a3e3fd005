-- In every run pods and positions of placed edge switches are numbers of one byte. A step of a world in which all is kept keeps the ledger.
use Rattle.std.proofs.Common.{◌≡◌, ◌≤◌, ◌<◌, ◌+◌, ℕ, ◌&&◌, nat_le, Bool, true, false, cond, if◌then◌else◌, List, [], ◌∷◌, ◌++◌, length, Some, None, slice_get, refl, sym, ap, subst, ◌∙◌, arith}
use Rattle.std.proofs.lemmas.Bool.{and_parts, leb-false}
use Rattle.std.proofs.lemmas.Option.{get_or_from_slice_get, none-some, slice_get_within}
use Rattle.pl_layouts.specs.Placement.{is_known}
use Rattle.pl_layouts.proofs.Exports.{known_is}
use Rattle.pl_wiring.specs.Plan.{Plan}
use Rattle.pl_node.specs.HostDuties.{HostsSendData, HostsSendOwn}
use Rattle.pl_node.specs.HostInputs.{HostRule}
use Rattle.pl_node.specs.ManagerViews.{numbers_before}
use Rattle.pl_node.specs.SwitchViews.{SwitchView}
use Rattle.pl_pmac.specs.declared.pmac.Pmac.{Pmac}
use Rattle.pl_frame.specs.declared.address.Mac.{Mac}
use Rattle.pl_frame.specs.declared.address.SwitchId.{SwitchId}
use Rattle.pl_switch_rule.specs.Granting.{granted}
use Rattle.pl_journal.specs.declared.entry.Entry.{Entry}
use Rattle.pl_journal.specs.declared.entry.Entry.TheVariants.{Line, Settled, Unsettled}
use Rattle.pl_manager_rule.specs.WholeRule.{whole_rule}
use Rattle.pl_switch_rule.specs.SwitchRule.{Loose}
use Rattle.pl_world.specs.declared.event.Event.{Event}
use Rattle.pl_world.specs.declared.limits.Limits.{Limits}
use Rattle.pl_world.specs.Booting.{CanBegin, booted}
use Rattle.pl_world.specs.Changes.{noted}
use Rattle.pl_world.specs.declared.error.StepError.TheVariants.{JournalFull, StepsSpent}
use Rattle.pl_world.specs.Hearing.{IsWithinHearing}
use Rattle.pl_world.specs.Refusals.{is_full, refusal, refusal_of_event}
use Rattle.pl_world.specs.Runs.{Befalls, IsMark, Moment, WorldRun}
use Rattle.pl_world.specs.Runs.Moment.{Mark, Step}
use Rattle.pl_world.specs.WorldRule.{WorldStep}
use Rattle.pl_world.specs.Worlds.{WorldView}
use Rattle.pl_law_control_plane.specs.ControlPlanes.{control_plane, no_switch}
use Rattle.pl_law_control_plane.specs.Restarts.{OnPlane}
use Rattle.pl_law_control_plane.specs.Restarts.OnPlane.{BeginsAnew, Steps}
use Rattle.pl_law_due.specs.Due.{due_plane}
use Rattle.pl_law_places.specs.Told.{IsTrueOf}
use Rattle.pl_law_places.proofs.Exports.{true_of_itself}
use Rattle.pl_law_votes.proofs.Exports.{fixed_are_apart}
use Rattle.pl_law_addresses.specs.Addressed.{IsGrantedBySome, IsGrounded}
use Rattle.pl_law_addresses.specs.EdgeAddresses.{IsHeldFor}
use Rattle.pl_law_addresses.specs.OwnAddresses.{own_ip}
use Rattle.pl_law_addresses.proofs.Exports.{exists_at, facts_of}
use Rattle.pl_law_epochs.proofs.Exports.{registered_held, world_tables}
use Rattle.pl_law_invariant.specs.ControlInvariant.{ControlInvariant}
use Rattle.pl_law_invariant.proofs.Exports.{grounded, run_keeps_all, world_on_plane}
use Rattle.pl_law_placing.proofs.Exports.{seen_later, step_seen}
use Rattle.pl_law_pods.proofs.Exports.{known_below, numbers_told}
use Rattle.pl_law_ledger.specs.Ledgers.{AreInBounds, IsLedger}
use Rattle.pl_law_ledger.proofs.EventsKeepLedger.{happens_ledger}
use Rattle.pl_law_ledger.proofs.GrantsWritten.{one_quiet, parts_of}
use Rattle.pl_law_ledger.proofs.TurnsKeepLedger.{AreFormed, IsIn, IsReady, KeepsLedger}

-- what else holds in every run
abbrev pub AlsoHolds : HostRule → Plan → Limits → (WorldView → Type 0) → Type 0
AlsoHolds host plan limits Also = (moments : List Moment) (w : WorldView) → WorldRun Loose whole_rule host (booted plan limits) moments w → Also w

-- what holds at each moment where it is kept by the steps of worlds in which all is kept, and what else is so in every run
module _ (host : HostRule) (sends : HostsSendData host) (owns : HostsSendOwn host) (Also Holds : WorldView → Type 0)
    (steps : (old : WorldView) (event : Event) (new : WorldView) → ControlInvariant old → ControlInvariant new → Also old → Holds old →
    refusal old event ≡ None → WorldStep Loose whole_rule host old event new → Holds new)
    (marks : (w : WorldView) (entry : Entry) → IsMark entry → ControlInvariant w → Holds w → Holds (noted w entry)) where
  run_more : (old mid new : WorldView) (moments : List Moment) (moment : Moment) → WorldRun Loose whole_rule host old moments mid →
      Befalls Loose whole_rule host mid moment new →
      WorldRun Loose whole_rule host old (moments ++ moment ∷ []) new
  run_more old mid new [] moment run more = (new, subst (λ (w : WorldView). Befalls Loose whole_rule host w moment new) run more, refl)
  run_more old mid new (x ∷ moments) moment run more = (run.0, run.1, run_more run.0 mid new moments moment run.2 more)

  from_there : (plan : Plan) (limits : Limits) → CanBegin plan → AlsoHolds host plan limits Also → (before : List Moment) (old : WorldView) →
      WorldRun Loose whole_rule host (booted plan limits) before old →
      Holds old → (moments : List Moment) (new : WorldView) → WorldRun Loose whole_rule host old moments new → Holds new
  from_there plan limits can also before old run holds [] new same = subst Holds (sym same) holds
  from_there plan limits can also before old run holds (Step event ∷ moments) new rest =
      let longer = run_more (booted plan limits) old rest.0 before (Step event) run rest.1 in
      from_there plan limits can also (before ++ Step event ∷ []) rest.0 longer
      (steps old event rest.0 (run_keeps_all host sends owns plan limits before old can run)
      (run_keeps_all host sends owns plan limits (before ++ Step event ∷ []) rest.0 can longer) (also before old run) holds
      rest.1.0 rest.1.1) moments new rest.2
  from_there plan limits can also before old run holds (Mark entry ∷ moments) new rest =
      let longer = run_more (booted plan limits) old rest.0 before (Mark entry) run rest.1 in
      from_there plan limits can also (before ++ Mark entry ∷ []) rest.0 longer
      (subst Holds (sym rest.1.1) (marks old entry rest.1.0 (run_keeps_all host sends owns plan limits before old can run) holds)) moments new rest.2

  pub kept_in_run : (plan : Plan) (limits : Limits) → CanBegin plan → AlsoHolds host plan limits Also → Holds (booted plan limits) →
      (moments : List Moment) (new : WorldView) →
      WorldRun Loose whole_rule host (booted plan limits) moments new → Holds new
  kept_in_run plan limits can also holds moments new run = from_there plan limits can also [] (booted plan limits) refl holds moments new run

-- ---- numbers of one byte
pub in_bounds : (w : WorldView) → ControlInvariant w → AreInBounds w.switches
in_bounds w kept s v x found local =
    let is = kept.counted.formed.plan in
    let f = control_plane w in
    let here : f.view s ≡ v = get_or_from_slice_get w.switches s v no_switch found in
    let two = and_parts (is_known v.place.level 0) (is_known v.place.pod x.pod && is_known v.place.position x.position) local in
    let rest = and_parts (is_known v.place.pod x.pod) (is_known v.place.position x.position) two.1 in
    let pod : (f.view s).place.pod ≡ Some x.pod = ap (λ (u : SwitchView). u.place.pod) here ∙ known_is v.place.pod x.pod rest.0 in
    let position : (f.view s).place.position ≡ Some x.position = ap (λ (u : SwitchView). u.place.position) here ∙ known_is v.place.position x.position rest.1 in
    let below = (known_below f kept.placed kept.numbered s x.pod pod).2 in
    let most = is.arity.most in
    let small = ((kept.placed.own s).position x.position position).1 in
    record { pod = omega (arith, below, most); position = omega (arith, small, most) }

pub grounds : (w : WorldView) → ControlInvariant w → IsGrounded w
grounds w kept = grounded w kept.counted kept.placed kept.voting kept.numbered

-- ---- what is known of places is known later
pub places_grow : (host : HostRule) (old : WorldView) (event : Event) (new : WorldView) → ControlInvariant old → refusal old event ≡ None →
    WorldStep Loose whole_rule host old event new →
    (s : ℕ) → IsTrueOf ((control_plane old).view s).place ((control_plane new).view s).place
places_grow host old event new kept none step = by (world_on_plane host old event new kept none step)
  where
    by : OnPlane Loose whole_rule (control_plane old) (control_plane new) → (s : ℕ) →
        IsTrueOf ((control_plane old).view s).place ((control_plane new).view s).place
    by (Steps taken) =
        let is = kept.counted.formed.plan in
        seen_later (control_plane old) (control_plane new)
        (step_seen whole_rule (control_plane old) (control_plane new) is kept.placed
        (fixed_are_apart old.plan (control_plane old).view (control_plane old).says is kept.voting)
        (numbers_told (control_plane old) is kept.gathered kept.numbered) taken.0)
    by (BeginsAnew anew) = λ s.
        subst (λ (v : SwitchView). IsTrueOf ((control_plane old).view s).place v.place) (sym (anew.alike.view s))
        (true_of_itself ((control_plane old).view s).place)

-- ---- the ledger
-- an address that a switch of the wiring granted is granted in the world
pub granted_in_world : (w : WorldView) → ControlInvariant w → (x : Pmac) (mac : Mac) (s : ℕ) (id : SwitchId) → slice_get w.plan.ids s ≡ Some id →
    IsHeldFor (λ y. granted ((control_plane w).view s) y) x mac → IsGrantedBySome w.switches x mac
granted_in_world w kept x mac s id named held =
    let many : length w.switches ≡ length w.plan.ids = kept.counted.formed.switches ∙ sym kept.counted.formed.plan.ids_many in
    let v = exists_at w.switches s (subst (λ n. s < n) (sym many) (slice_get_within w.plan.ids s id named)) in
    record {
      switch = s;
      view = v.0;
      found = v.1;
      granted_to = subst (λ (u : SwitchView). IsHeldFor (λ y. granted u y) x mac) (get_or_from_slice_get w.switches s v.0 no_switch v.1) held;
    }

-- where addresses are in order, each switch has its lists of them, and what is registered is somebody's
pub ready : (w : WorldView) → ControlInvariant w → IsReady (parts_of w)
ready w kept = record {
  listed = λ s v found.
      let table = world_tables w kept.counted kept.addresses s v found in
      record { many = table.many; many_freed = table.many_freed; empty = table.empty; free = table.free };
  registered = λ x reg is.
      let at = registered_held (λ mac. own_ip w.plan mac) (due_plane (control_plane w)) kept.addresses.addressed x reg is in
      granted_in_world w kept x reg.amac at.switch reg.switch at.named at.granted_to;
}

pub formed : (w : WorldView) → ControlInvariant w → AreFormed w.switches
formed w kept = record { shaped = kept.counted.shaped; bounds = in_bounds w kept; apart = (grounds w kept).apart }

-- the numbers of the next epoch are above all that were given
numbers_left : (w : WorldView) (event : Event) → IsWithinHearing w → refusal w event ≡ None → w.manager.learnt.count ≤ numbers_before (w.manager.epoch + 1)
numbers_left w event within none = by (nat_le w.limits.steps w.steps) refl none
  where
    by : (b : Bool) → nat_le w.limits.steps w.steps ≡ b → cond b (Some StepsSpent) (if is_full w then Some JournalFull else refusal_of_event w event) ≡ None →
        w.manager.learnt.count ≤ numbers_before (w.manager.epoch + 1)
    by true spent is = absurd (none-some StepsSpent (sym is))
    by false left is =
        let less = leb-false w.limits.steps w.steps left in let most = within.within.addresses in let few = within.few_steps in omega (arith, less, most, few)

pub step_keeps : (host : HostRule) (old : WorldView) (event : Event) (new : WorldView) → ControlInvariant old → ControlInvariant new → IsWithinHearing old →
    IsLedger old →
    refusal old event ≡ None → WorldStep Loose whole_rule host old event new → KeepsLedger (control_plane old) (parts_of old) (parts_of new)
step_keeps host old event new kept kept_then within entered none step =
    let counted : WorldView = record old { steps = old.steps + 1 } in
    let ready_old = ready old kept in
    let a = kept.addresses in
    happens_ledger counted (facts_of old kept.counted) kept.hosts (record { listed = ready_old.listed; registered = ready_old.registered }) kept.own
    (grounds old kept).neighbours
    (formed old kept) entered host event new (formed new kept_then)
    kept.gathered (record { addressed = a.addressed; reported = a.reported; lead = a.lead }) (numbers_left old event within none) step

pub mark_written : (w : WorldView) (entry : Entry) → IsMark entry → parts_of (noted w entry) ≡ parts_of w
mark_written w (Line n) is = one_quiet w (Line n) (λ past. refl)
mark_written w (Settled rounds) is = one_quiet w (Settled rounds) (λ past. refl)
mark_written w (Unsettled pending) is = one_quiet w (Unsettled pending) (λ past. refl)
mark_written w entry is = absurd is

pub entered_mark : (w : WorldView) (entry : Entry) → IsMark entry → ControlInvariant w → IsLedger w → IsLedger (noted w entry)
entered_mark w entry is kept entered = subst IsIn (sym (mark_written w entry is)) entered
