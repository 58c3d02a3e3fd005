-- Numbers of registrations rise over all epochs of the manager, since it makes fewer steps than an epoch has numbers.
use Rattle.std.proofs.Common.{◌≡◌, ◌+◌, ◌*◌, ◌<◌, ◌≤◌, nat_le, Bool, true, false, if◌then◌else◌, List, [], ◌∷◌, ◌++◌, length, reverse, Option, Some, None, refl, sym, ap, ◌∙◌, subst, arith, append-nil, inl, inr}
use Rattle.std.specs.List.{cons_option}
use Rattle.std.proofs.lemmas.Bool.{leb-false}
use Rattle.std.proofs.lemmas.Option.{none-some}
use Rattle.std.proofs.lemmas.List.{reverse-append}
use Rattle.std.proofs.lemmas.List.Elements.{filter_map-append}
use Rattle.pl_wiring.specs.Plan.{Plan}
use Rattle.pl_journal.specs.declared.entry.Entry.{Entry}
use Rattle.pl_journal.specs.declared.entry.Entry.TheVariants.{Registered, Restarted}
use Rattle.pl_node.specs.HostInputs.{HostRule}
use Rattle.pl_node.specs.ManagerDuties.{AnswersDuly, ManagerRule}
use Rattle.pl_node.specs.SwitchInputs.{SwitchRule}
use Rattle.pl_world.specs.declared.error.StepError.{StepError}
use Rattle.pl_world.specs.declared.error.StepError.TheVariants.{JournalFull, StepsSpent}
use Rattle.pl_world.specs.declared.event.Event.{Event}
use Rattle.pl_world.specs.declared.limits.Limits.{Limits}
use Rattle.pl_world.specs.Booting.{booted}
use Rattle.pl_world.specs.Changes.{noted}
use Rattle.pl_world.specs.Hearing.{IsWithinHearing}
use Rattle.pl_world.specs.Refusals.{is_full, refusal, refusal_of_event}
use Rattle.pl_world.specs.Runs.{IsMark, Moment, WorldRun}
use Rattle.pl_world.specs.Runs.Moment.{Mark, Step}
use Rattle.pl_world.specs.WorldRule.{WorldStep}
use Rattle.pl_world.specs.Worlds.{WorldView}
use Rattle.pl_world.proofs.Exports.{marked_within, step_within}
use Rattle.pl_law_records.specs.Entries.{AreInTurn, AreRising, last_given, last_number}
use Rattle.pl_law_records.proofs.EntriesWritten.{restart_in, restarts_in}
use Rattle.pl_law_records.proofs.EntryRuns.{HasRegistered, mark_is_other, marked_registered, registered_at_first, registers, step_registered}
use Rattle.pl_law_records.proofs.StepsWriteEntries.{BeginsAnew}

-- they rise so far, up to the number that the manager knows
abbrev Rises : List Entry → Type 0
Rises past = AreRising past × (last_given past ≤ last_number past)

-- while it does not begin anew
rises_over : (newer past : List Entry) → restarts_in newer ≡ [] → AreInTurn (newer ++ past) → Rises past → Rises (newer ++ past)
rises_over [] past free turn rises = rises
rises_over (Registered pmac n ∷ newer) past free turn rises =
    let rest = rises_over newer past free turn.1 rises in
    let next = turn.0 in
    let below = rest.1 in
    ((omega (arith, next, below), rest.0), omega arith)
rises_over (Restarted epoch ∷ newer) past free turn rises = absurd (cc free)
rises_over (e ∷ newer) past free turn rises = rises_over newer past free turn rises

free_reversed : (es : List Entry) → restarts_in es ≡ [] → restarts_in (reverse es) ≡ []
free_reversed [] free = refl
free_reversed (Restarted epoch ∷ es) free = absurd (cc free)
free_reversed (e ∷ es) free =
    ap restarts_in (reverse-append (e ∷ []) es) ∙ filter_map-append restart_in (reverse es) (e ∷ []) ∙ append-nil (restarts_in (reverse es))
    ∙ free_reversed es free

goes_on_rises : (old entries new : List Entry) → new ≡ old ++ entries → restarts_in entries ≡ [] → AreInTurn (reverse new) →
    Rises (reverse old) → Rises (reverse new)
goes_on_rises old entries new added free turn rises =
    let split : reverse new ≡ reverse entries ++ reverse old = ap reverse added ∙ reverse-append old entries in
    subst Rises (sym split) (rises_over (reverse entries) (reverse old) (free_reversed entries free) (subst AreInTurn split turn) rises)

-- a step is made only while some are left
steps_left : (w : WorldView) (e : Event) → refusal w e ≡ None → w.steps < w.limits.steps
steps_left w e none = by (nat_le w.limits.steps w.steps) refl none
  where
    by : (b : Bool) → nat_le w.limits.steps w.steps ≡ b →
        (if◌then◌else◌ {A = Option StepError} b (Some StepsSpent) (if is_full w then Some JournalFull else refusal_of_event w e)) ≡ None →
        w.steps < w.limits.steps
    by true spent none = absurd (none-some StepsSpent (sym none))
    by false left none = leb-false w.limits.steps w.steps left

record Risen (w : WorldView) : Type 0 where
  registered : HasRegistered w
  within : IsWithinHearing w
  rises : Rises (reverse w.journal)

-- all numbers of an epoch are above those of the epochs before it
anew_rises : (old : WorldView) (happens : Event) (new : WorldView) → BeginsAnew old happens new → old.steps < old.limits.steps → Risen old →
    Rises (reverse new.journal)
anew_rises old happens new anew left are =
    let epoch = old.manager.epoch + 1 in
    let newest : Restarted epoch ∷ reverse old.journal ≡ reverse new.journal =
    sym (ap reverse anew.journal ∙ reverse-append old.journal (Restarted epoch ∷ [])) in
    let load : old.manager.learnt.count + length old.manager.kept ≤ old.manager.epoch * 4294967296 + old.steps = are.within.within.addresses in
    let few = are.within.few_steps in
    let count = are.registered.count in
    let rises = are.rises.1 in
    let below : last_given (reverse old.journal) ≤ (old.manager.epoch + 1) * 4294967296 = omega (arith, load, few, left, count, rises) in
    subst Rises newest (are.rises.0, below)

module _ (switch : SwitchRule) (manager : ManagerRule) (host : HostRule) (duly : AnswersDuly manager) where
  step_risen : (old : WorldView) (happens : Event) (new : WorldView) → refusal old happens ≡ None →
      WorldStep switch manager host old happens new → Risen old → Risen new
  step_risen old happens new none step are =
      let registered = step_registered switch manager host duly old happens new step are.registered in
      record {
        registered = registered;
        within = step_within switch manager host duly old happens new are.within step;
        rises = elim (registers switch manager host old happens new step duly) [
          | inl r ↦ goes_on_rises old.journal r.entries new.journal r.added r.goes_on registered.numbers are.rises
          | inr anew ↦ anew_rises old happens new anew (steps_left old happens none) are
        ];
      }

  marked_risen : (old : WorldView) (entry : Entry) → IsMark entry → Risen old → Risen (noted old entry)
  marked_risen old entry mark are =
      let registered = marked_registered switch manager host duly old entry mark are.registered in
      record {
        registered = registered;
        within = marked_within old (noted old entry) entry refl are.within;
        rises =
            goes_on_rises old.journal (entry ∷ []) (old.journal ++ entry ∷ []) refl (ap (λ o. cons_option o []) (mark_is_other entry mark).2)
            registered.numbers are.rises;
      }

  run_risen : (old : WorldView) (moments : List Moment) (new : WorldView) → Risen old → WorldRun switch manager host old moments new → Risen new
  run_risen old [] new are same = subst Risen (sym same) are
  run_risen old (Step event ∷ moments) new are run = run_risen run.0 moments new (step_risen old event run.0 run.1.0 run.1.1 are) run.2
  run_risen old (Mark entry ∷ moments) new are run = run_risen run.0 moments new (subst Risen (sym run.1.1) (marked_risen old entry run.1.0 are)) run.2

  pub numbers_rise : (plan : Plan) (limits : Limits) (moments : List Moment) (new : WorldView) → limits.steps ≤ 4000000000 →
      WorldRun switch manager host (booted plan limits) moments new → AreRising (reverse new.journal)
  numbers_rise plan limits moments new few run = (run_risen (booted plan limits) moments new (record {
    registered = registered_at_first plan limits;
    within = record { within = record { same_k = refl; heard = λ t heard. absurd (cc heard); addresses = omega arith }; few_steps = few };
    rises = (tt, omega arith);
  }) run).rises.0
