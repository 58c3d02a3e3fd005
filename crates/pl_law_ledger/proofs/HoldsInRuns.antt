-- Each step and each mark keeps the ledger and where traps lead; so does each run, as long as no more steps are made than an epoch has numbers.
use Rattle.std.proofs.Common.{◌≡◌, ◌≤◌, List, Some, None, refl, sym, subst, ◌∙◌}
use Rattle.std.proofs.lemmas.Option.{none-some}
use Rattle.pl_lemmas.proofs.Exports.{from_map}
use Rattle.pl_wiring.specs.Plan.{Plan}
use Rattle.pl_journal.specs.declared.entry.Entry.{Entry}
use Rattle.pl_node.specs.HostDuties.{HostsSendData, HostsSendOwn}
use Rattle.pl_node.specs.HostInputs.{HostRule}
use Rattle.pl_node.specs.ManagerDuties.{ManagerRule}
use Rattle.pl_node.specs.SwitchFacts.{switch_at_boot}
use Rattle.pl_node.specs.SwitchInputs.{SwitchRule}
use Rattle.pl_node.specs.SwitchViews.{SwitchView}
use Rattle.pl_manager_rule.specs.WholeRule.{whole_rule}
use Rattle.pl_manager_rule.proofs.Exports.{whole_answers}
use Rattle.pl_switch_rule.specs.Granting.{granted}
use Rattle.pl_switch_rule.specs.SwitchRule.{Loose}
use Rattle.pl_world.specs.declared.event.Event.{Event}
use Rattle.pl_world.specs.declared.limits.Limits.{Limits}
use Rattle.pl_world.specs.Booting.{CanBegin, booted}
use Rattle.pl_world.specs.Changes.{noted}
use Rattle.pl_world.specs.Refusals.{refusal}
use Rattle.pl_world.specs.Runs.{IsMark, Moment, WorldRun}
use Rattle.pl_world.specs.WorldRule.{WorldStep}
use Rattle.pl_world.specs.Worlds.{WorldView}
use Rattle.pl_world.proofs.Exports.{begun_within, marked_within, run_along, step_limits, step_plan, step_within}
use Rattle.pl_law_epochs.proofs.Exports.{world_stood}
use Rattle.pl_law_invariant.specs.ControlInvariant.{ControlInvariant}
use Rattle.pl_law_ledger.specs.Leading.{HoldsLedger, Rises}
use Rattle.pl_law_ledger.specs.Ledgers.{WhereNumbersSuffice}
use Rattle.pl_law_ledger.proofs.GrantsWritten.{Parts}
use Rattle.pl_law_ledger.proofs.LedgerAtFirst.{boot_ledger}
use Rattle.pl_law_ledger.proofs.LedgerInRuns.{entered_mark, grounds, kept_in_run, mark_written, step_keeps}
use Rattle.pl_law_ledger.proofs.Rising.{rises_whole, rises_written, traps_then}

pub holds_step : (host : HostRule) (old : WorldView) (event : Event) (new : WorldView) → ControlInvariant old → ControlInvariant new → HoldsLedger old →
    refusal old event ≡ None → WorldStep Loose whole_rule host old event new → HoldsLedger new
holds_step host old event new kept kept_then holds none step =
    let keeps = step_keeps host old event new kept kept_then holds.within holds.entered none step in
    record {
      within = step_within Loose whole_rule host whole_answers old event new holds.within step;
      entered = keeps.ledger;
      traps = traps_then old new kept kept_then holds (step_plan Loose whole_rule host old event new step) keeps
          (world_stood host old event new kept.counted kept.hosts kept.own (grounds old kept)
          (grounds new kept_then).apart none kept.gathered kept.addresses step);
    }

pub holds_mark : (w : WorldView) (entry : Entry) → IsMark entry → ControlInvariant w → HoldsLedger w → HoldsLedger (noted w entry)
holds_mark w entry is kept holds = record {
  within = marked_within w (noted w entry) entry refl holds.within;
  entered = entered_mark w entry is kept holds.entered;
  traps = λ s v x y trap found t.
      rises_whole (noted w entry) x y trap
      (subst (λ (p : Parts). Rises p.entries x y trap) (sym (mark_written w entry is)) (rises_written w x y trap (holds.traps s v x y trap found t)));
}

pub boot_holds : (plan : Plan) (limits : Limits) → limits.steps ≤ 4000000000 → HoldsLedger (booted plan limits)
boot_holds plan limits few = record {
  within = begun_within (booted plan limits) plan limits few refl;
  entered = boot_ledger plan limits;
  traps = λ s v x y trap found t.
      let it = from_map (λ id. switch_at_boot id plan.k) plan.ids s v found in
      absurd (none-some t.grant (subst (λ (u : SwitchView). granted u x ≡ Some t.grant) (sym it.2) t.found));
}

-- the limits of a run are those of its beginning
limits_of_run : (switch : SwitchRule) (manager : ManagerRule) (host : HostRule) (old : WorldView) (moments : List Moment) (new : WorldView) →
    WorldRun switch manager host old moments new →
    new.limits ≡ old.limits
limits_of_run switch manager host = run_along (λ a b. b.limits ≡ a.limits) (λ w. refl) (λ a b c one next. next ∙ one) switch manager host
    (λ old event new none step. step_limits switch manager host old event new step) (λ w entry is. refl)

-- so they suffice at each moment where they do at one
pub numbers_last : (switch : SwitchRule) (manager : ManagerRule) (host : HostRule) (old : WorldView) (moments : List Moment) (new : WorldView) →
    WorldRun switch manager host old moments new →
    old.limits.steps ≤ 4000000000 → new.limits.steps ≤ 4000000000
numbers_last switch manager host old moments new run few = subst (λ (l : Limits). l.steps ≤ 4000000000)
    (sym (limits_of_run switch manager host old moments new run)) few

pub numbers_sufficed : (switch : SwitchRule) (manager : ManagerRule) (host : HostRule) (old : WorldView) (moments : List Moment) (new : WorldView) →
    WorldRun switch manager host old moments new →
    new.limits.steps ≤ 4000000000 → old.limits.steps ≤ 4000000000
numbers_sufficed switch manager host old moments new run few = subst (λ (l : Limits). l.steps ≤ 4000000000)
    (limits_of_run switch manager host old moments new run) few

pub numbers_suffice : (switch : SwitchRule) (manager : ManagerRule) (host : HostRule) (plan : Plan) (limits : Limits) (moments : List Moment)
    (new : WorldView) →
    WorldRun switch manager host (booted plan limits) moments new → new.limits.steps ≤ 4000000000 → limits.steps ≤ 4000000000
numbers_suffice switch manager host plan limits moments new run few = numbers_sufficed switch manager host (booted plan limits) moments new run few

pub holds_in_run : (host : HostRule) → HostsSendData host → HostsSendOwn host → (plan : Plan) (limits : Limits) → CanBegin plan →
    (moments : List Moment) (new : WorldView) →
    WorldRun Loose whole_rule host (booted plan limits) moments new → WhereNumbersSuffice HoldsLedger new
holds_in_run host sends owns plan limits can moments new run few =
    kept_in_run host sends owns (λ w. Unit {0}) HoldsLedger (λ old event next kept kept_then also. holds_step host old event next kept kept_then) holds_mark plan limits can
    (λ before w there. tt) (boot_holds plan limits (numbers_suffice Loose whole_rule host plan limits moments new run few)) moments new run
