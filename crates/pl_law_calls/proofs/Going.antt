-- A run goes on, and what is promised of each run holds then.
use Rattle.std.proofs.Common.{◌≡◌, ◌≤◌, ◌++◌, List, [], ◌∷◌, MatchOption, Option, Some, None, refl}
use Rattle.pl_journal.specs.declared.entry.Entry.{Entry}
use Rattle.pl_wiring.specs.Plan.{IsPlan, Plan}
use Rattle.pl_node.specs.HostInputs.{HostRule}
use Rattle.pl_node.specs.ManagerDuties.{ManagerRule}
use Rattle.pl_node.specs.SwitchInputs.{SwitchRule}
use Rattle.pl_world.specs.declared.limits.Limits.{Limits}
use Rattle.pl_world.specs.Booting.{CanBegin, booted}
use Rattle.pl_world.specs.declared.error.StepError.{StepError}
use Rattle.pl_world.specs.declared.event.Event.{Event}
use Rattle.pl_world.specs.Changes.{noted}
use Rattle.pl_world.specs.Ready.{CanStep}
use Rattle.pl_world.specs.Refusals.{refusal}
use Rattle.pl_world.specs.Runs.{IsMark, Moment, WorldRun}
use Rattle.pl_world.specs.Runs.Moment.{Mark, Step}
use Rattle.pl_world.specs.WorldRule.{WorldStep}
use Rattle.pl_world.specs.Worlds.{WorldView}
use Rattle.pl_fabric.specs.Executions.{Makes}
use Rattle.pl_fabric.proofs.Exports.{IsRun}
use Rattle.pl_law_ledger.specs.Ledgers.{WhereNumbersSuffice}
use Rattle.pl_law_ledger.proofs.Exports.{numbers_last}
use Rattle.pl_law_registration.proofs.Exports.{longer}
use Rattle.pl_law_calls.specs.Moments.{IsOfRun}
use Rattle.pl_law_theorem.proofs.Exports.{can_begin}
use Rattle.pl_law_theorem.specs.OneSwitch.{IsOneSwitch}

module _ (switch : SwitchRule) (manager : ManagerRule) (host : HostRule) where
  pub begins : (plan : Plan) (limits : Limits) → IsPlan plan → IsOfRun switch manager host (booted plan limits)
  begins plan limits is = record { plan = plan; limits = limits; begins = can_begin plan is; moments = []; run = refl }

  pub goes_on : (old new : WorldView) → IsOfRun switch manager host old → IsRun switch manager host old new → IsOfRun switch manager host new
  goes_on old new of more = record {
    plan = of.plan;
    limits = of.limits;
    begins = of.begins;
    moments = of.moments ++ more.0;
    run = longer switch manager host (booted of.plan of.limits) old new of.moments more.0 of.run more.1;
  }

  -- one event is a run of one step, or of none
  by_refusal : (o : Option StepError) (event : Event) (old : WorldView) (end : Option StepError) (new : WorldView) → refusal old event ≡ o →
      MatchOption o ((end ≡ None) × WorldStep switch manager host old event new) (λ reason. (end ≡ Some reason) × (new ≡ old)) →
      IsRun switch manager host old new
  by_refusal None event old end new is done = (Step event ∷ [], (new, (is, done.1), refl))
  by_refusal (Some reason) event old end new is done = ([], done.1)

  pub makes_run : (event : Event) (old : WorldView) (end : Option StepError) (new : WorldView) → Makes switch manager host event old end new →
      IsRun switch manager host old new
  makes_run event old end new done = by_refusal (refusal old event) event old end new refl done

  -- so is a mark
  pub marks_run : (entry : Entry) (old : WorldView) → IsMark entry → IsRun switch manager host old (noted old entry)
  marks_run entry old is = (Mark entry ∷ [], (noted old entry, (is, refl), refl))

  -- a run leaves the limits
  pub few_then : (old new : WorldView) → CanStep old → IsRun switch manager host old new → new.limits.steps ≤ 4000000000
  few_then old new can run = numbers_last switch manager host old run.0 new run.1 can.hearing.few_steps

  module _ (law : (plan : Plan) (limits : Limits) (moments : List Moment) (new : WorldView) → CanBegin plan →
      WorldRun switch manager host (booted plan limits) moments new →
      WhereNumbersSuffice (IsOneSwitch switch manager host) new) where
    pub promised : (w : WorldView) → IsOfRun switch manager host w → w.limits.steps ≤ 4000000000 → IsOneSwitch switch manager host w
    promised w of few = law of.plan of.limits of.moments w of.begins of.run few
