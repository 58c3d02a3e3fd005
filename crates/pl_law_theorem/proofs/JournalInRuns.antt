-- In every run the journal is a run of the lossy switch with good trails, where frames of groups arrive well.
use Rattle.std.proofs.Common.{◌≡◌, List, None, refl, sym, ap, subst, reverse}
use Rattle.pl_wiring.specs.Plan.{Plan}
use Rattle.pl_node.specs.HostDuties.{HostsKeepFrames, HostsSendData, HostsSendOwn}
use Rattle.pl_node.specs.HostInputs.{HostRule}
use Rattle.pl_manager_rule.specs.WholeRule.{whole_rule}
use Rattle.pl_manager_rule.proofs.Exports.{whole_answers}
use Rattle.pl_switch_rule.specs.SwitchRule.{Loose}
use Rattle.pl_world.specs.declared.event.Event.{Event}
use Rattle.pl_world.specs.declared.limits.Limits.{Limits}
use Rattle.pl_world.specs.Booting.{CanBegin, booted}
use Rattle.pl_world.specs.Changes.{noted}
use Rattle.pl_world.specs.Flying.{IsCounted}
use Rattle.pl_world.specs.Refusals.{refusal}
use Rattle.pl_world.specs.Restarting.{CountsRestarts}
use Rattle.pl_world.specs.Runs.{IsMark, Moment, WorldRun}
use Rattle.pl_world.specs.WorldRule.{WorldStep}
use Rattle.pl_world.specs.Worlds.{WorldView}
use Rattle.pl_world.proofs.Exports.{sound, step_plan}
use Rattle.pl_journal.specs.declared.entry.Entry.{Entry}
use Rattle.pl_journal.specs.declared.entry.Entry.TheVariants.{Line, Settled, Unsettled}
use Rattle.pl_law_runs.proofs.Exports.{mark_counts, step_counts}
use Rattle.pl_law_invariant.specs.ControlInvariant.{ControlInvariant}
use Rattle.pl_law_invariant.proofs.Exports.{step_stays_granted}
use Rattle.pl_law_ledger.specs.Leading.{HoldsLedger}
use Rattle.pl_law_ledger.specs.Ledgers.{WhereNumbersSuffice}
use Rattle.pl_law_ledger.proofs.Exports.{boot_holds, holds_mark, holds_step, kept_in_run, numbers_suffice}
use Rattle.pl_law_flights.specs.Given.{IsGroundForStep}
use Rattle.pl_law_flights.specs.OnTheWay.{IsJournaled, JournalSays, history_of, place_in}
use Rattle.pl_law_flights.proofs.Exports.{booted_journaled, counts, kept, nobody, note, reverse_noted, same_history, step_journaled}
use Rattle.pl_law_theorem.specs.Groups.{GroupsAreWell, GroupsArriveWell}
use Rattle.pl_law_theorem.proofs.Hosting.{stands_on, stands_on_hosts}
use Rattle.pl_law_theorem.proofs.StepsKeepJournal.{first_addresses, is_more, numbers_well}

-- ---- a mark of a script
pub mark_journaled : (w : WorldView) (entry : Entry) → IsMark entry → IsCounted w → IsJournaled w → IsJournaled (noted w entry)
mark_journaled w entry is counted journaled = by entry is
  where
    by : (e : Entry) → IsMark e → IsJournaled (noted w e)
    by (Line n) is = subst (λ p. JournalSays w.plan (place_in w.switches) p w.links w.attachments w.from_hosts w.out)
        (sym (reverse_noted w.journal (reverse w.journal) (Line n) refl))
        (note w.plan (place_in w.switches) (reverse w.journal) w.links w.attachments w.from_hosts w.out (Line n) 0
        (nobody (reverse w.journal) w.from_hosts w.out (λ i. 0) (counts w (reverse w.journal) (λ i. 0) refl (sound w counted).balance))
        (λ g other. kept w.plan (reverse w.journal) (Line n) g tt) (same_history
        (history_of (reverse w.journal))) tt tt journaled.links_agree journaled.attachments_agree journaled)
    by (Settled n) is = subst (λ p. JournalSays w.plan (place_in w.switches) p w.links w.attachments w.from_hosts w.out)
        (sym (reverse_noted w.journal (reverse w.journal) (Settled n) refl))
        (note w.plan (place_in w.switches) (reverse w.journal) w.links w.attachments w.from_hosts w.out (Settled n) 0
        (nobody (reverse w.journal) w.from_hosts w.out (λ i. 0) (counts w (reverse w.journal) (λ i. 0) refl (sound w counted).balance))
        (λ g other. kept w.plan (reverse w.journal) (Settled n) g tt)
        (same_history (history_of (reverse w.journal))) tt tt journaled.links_agree journaled.attachments_agree journaled)
    by (Unsettled n) is = subst (λ p. JournalSays w.plan (place_in w.switches) p w.links w.attachments w.from_hosts w.out)
        (sym (reverse_noted w.journal (reverse w.journal) (Unsettled n) refl))
        (note w.plan (place_in w.switches) (reverse w.journal) w.links w.attachments w.from_hosts w.out (Unsettled n) 0
        (nobody (reverse w.journal) w.from_hosts w.out (λ i. 0) (counts w (reverse w.journal) (λ i. 0) refl (sound w counted).balance))
        (λ g other. kept w.plan (reverse w.journal) (Unsettled n) g tt)
        (same_history (history_of (reverse w.journal))) tt tt journaled.links_agree journaled.attachments_agree journaled)
    by e is = absurd is

module _ (host : HostRule) (sends : HostsSendData host) (owns : HostsSendOwn host) (keeps : HostsKeepFrames host) where
  -- ---- what each step needs
  pub is_given : (old : WorldView) (event : Event) (new : WorldView) → ControlInvariant old → ControlInvariant new → HoldsLedger old →
      GroupsArriveWell host old →
      CountsRestarts old → refusal old event ≡ None → WorldStep Loose whole_rule host old event new → IsGroundForStep whole_rule host old new
  is_given old event new kept kept_then holds groups epochs none step =
      let same = step_plan Loose whole_rule host old event new step in
      record {
        on = stands_on old kept holds;
        hosts = stands_on_hosts old kept holds.entered;
        more = is_more host old event new kept none step;
        first = first_addresses old new kept kept_then holds.entered (step_stays_granted host sends owns old event new kept kept_then step)
            (ap (λ (p : Plan). p.k) (sym same));
        numbers = numbers_well old kept holds;
        come_first = groups.first;
        members = groups.members;
        trees = groups.trees;
        epochs = epochs;
      }

  record HoldsBoth (w : WorldView) : Type 0 where
    holds : HoldsLedger w
    journaled : IsJournaled w
    epochs : CountsRestarts w

  step_both : (old : WorldView) (event : Event) (new : WorldView) → ControlInvariant old → ControlInvariant new → GroupsArriveWell host old → HoldsBoth old →
      refusal old event ≡ None →
      WorldStep Loose whole_rule host old event new → HoldsBoth new
  step_both old event new kept kept_then groups both none step = record {
    holds = holds_step host old event new kept kept_then both.holds none step;
    journaled = step_journaled whole_rule host sends keeps old event new kept.counted
        (is_given old event new kept kept_then both.holds groups both.epochs none step) none step both.journaled;
    epochs = step_counts Loose whole_rule host whole_answers old event new step both.epochs;
  }

  mark_both : (w : WorldView) (entry : Entry) → IsMark entry → ControlInvariant w → HoldsBoth w → HoldsBoth (noted w entry)
  mark_both w entry is kept both = record {
    holds = holds_mark w entry is kept both.holds;
    journaled = mark_journaled w entry is kept.counted both.journaled;
    epochs = mark_counts Loose whole_rule host whole_answers w entry is both.epochs;
  }

  pub journaled_in_run : (plan : Plan) (limits : Limits) → CanBegin plan → GroupsAreWell host plan limits → (moments : List Moment) (new : WorldView) →
      WorldRun Loose whole_rule host (booted plan limits) moments new → WhereNumbersSuffice IsJournaled new
  journaled_in_run plan limits can groups moments new run few =
      (kept_in_run host sends owns (GroupsArriveWell host) HoldsBoth step_both mark_both plan limits can groups
      (record { holds = boot_holds plan limits (numbers_suffice Loose whole_rule host plan limits moments new run few); journaled = booted_journaled plan limits can; epochs = refl }) moments new run).journaled
