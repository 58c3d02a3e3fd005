-- Each step keeps edge switches on their way to their places, and so does each run from the beginning.
use Rattle.std.proofs.Common.{◌≡◌, List, None, inl, inr, true≢false, sym, subst}
use Rattle.pl_wiring.specs.Plan.{Plan}
use Rattle.pl_node.specs.HostDuties.{HostsSendData, HostsSendOwn}
use Rattle.pl_node.specs.HostInputs.{HostRule}
use Rattle.pl_manager_rule.specs.WholeRule.{whole_rule}
use Rattle.pl_switch_rule.specs.SwitchRule.{Loose}
use Rattle.pl_world.specs.declared.event.Event.{Event}
use Rattle.pl_journal.specs.declared.entry.Entry.{Entry}
use Rattle.pl_world.specs.declared.limits.Limits.{Limits}
use Rattle.pl_world.specs.Booting.{CanBegin, booted}
use Rattle.pl_world.specs.Refusals.{refusal}
use Rattle.pl_world.specs.Runs.{IsMark, Moment, WorldRun}
use Rattle.pl_world.specs.Changes.{noted}
use Rattle.pl_world.specs.WorldRule.{WorldStep}
use Rattle.pl_world.specs.Worlds.{WorldView}
use Rattle.pl_law_control_plane.specs.ControlPlanes.{control_plane}
use Rattle.pl_law_control_plane.proofs.Exports.{plan_same}
use Rattle.pl_law_votes.proofs.Exports.{fixed_are_apart}
use Rattle.pl_law_pods.proofs.Exports.{numbers_told}
use Rattle.pl_law_invariant.specs.ControlInvariant.{ControlInvariant}
use Rattle.pl_law_invariant.proofs.Exports.{can_tell, holds_in_run, kept_at_first, world_on_plane}
use Rattle.pl_law_placing.specs.Bounding.{IsBounded}
use Rattle.pl_law_placing.specs.Noting.{AreNotedBy}
use Rattle.pl_law_placing.specs.Parking.{AreParkedBy}
use Rattle.pl_law_placing.specs.Placing.{ArePlacing}
use Rattle.pl_law_placing.specs.Trying.{AreTryingBy}
use Rattle.pl_law_placing.proofs.Bounding.{seen_bounded}
use Rattle.pl_world.proofs.Exports.{one_more_step}
use Rattle.pl_law_placing.proofs.NothingTriedAtFirst.{bounded_at_first, crossed_at_first, noted_at_first, parked_at_first, trying_at_first}
use Rattle.pl_law_placing.proofs.KeepingParking.{seen_parked}
use Rattle.pl_law_placing.proofs.KeepingPlacing.{seen_trying}
use Rattle.pl_law_placing.proofs.Levels.{seen_later, step_levels}
use Rattle.pl_law_placing.proofs.Notes.{seen_noted}
use Rattle.pl_law_placing.proofs.Receiving.{marked_goes}
use Rattle.pl_law_placing.proofs.Seeing.{seen_on}

placing_at_first : (plan : Plan) (limits : Limits) → ArePlacing (booted plan limits)
placing_at_first plan limits = record {
  trying = trying_at_first plan limits;
  parked = parked_at_first plan limits;
  noted = noted_at_first plan limits;
  bounded = bounded_at_first plan limits;
  crossed = crossed_at_first plan;
  levels = λ s h. absurd (true≢false (sym h));
}

module _ (host : HostRule) where
  pub step_places : (old : WorldView) (event : Event) (new : WorldView) → ControlInvariant old → ArePlacing old → refusal old event ≡ None →
      WorldStep Loose whole_rule host old event new → ArePlacing new
  step_places old event new before placing none step =
      let f = control_plane old in let g = control_plane new in
      let is = before.counted.formed.plan in
      let taken = world_on_plane host old event new before none step in
      let same = plan_same Loose whole_rule f g taken in
      let apart = fixed_are_apart f.plan f.view f.says is before.voting in
      let seen = seen_on whole_rule f g is before.placed apart (numbers_told f is before.gathered before.numbered) taken in
      let later = seen_later f g seen in
      let levels = step_levels old before new host event placing.crossed placing.levels later step in
      record {
        trying = subst (λ (p : Plan). AreTryingBy p g.view g.says) (sym same)
            (seen_trying f g is before.placed (can_tell old before.counted before.placed) placing.trying seen);
        parked = subst (λ (p : Plan). AreParkedBy p g.view g.says) (sym same)
            (seen_parked f g is before.placed (can_tell old before.counted before.placed) placing.trying placing.parked seen);
        noted = subst (λ (p : Plan). AreNotedBy p g.view g.says) (sym same)
            (seen_noted f g is before.placed (can_tell old before.counted before.placed) before.voting placing.noted seen);
        bounded = λ s. subst (λ n. IsBounded n (g.view s)) (sym (one_more_step Loose whole_rule host old event new step))
            (seen_bounded old.steps f g placing.bounded seen s);
        crossed = levels.0;
        levels = levels.1;
      }

  module _ (sends : HostsSendData host) (owns : HostsSendOwn host) where
    noted_places : (old : WorldView) (entry : Entry) → IsMark entry → ArePlacing old → ArePlacing (noted old entry)
    noted_places old entry mark placing =
        let goes = marked_goes old entry mark placing.crossed in
        record {
          trying = placing.trying;
          parked = placing.parked;
          noted = placing.noted;
          bounded = placing.bounded;
          crossed = goes.crossed;
          levels = λ s h. elim (goes.received s h) [ inl before ↦ placing.levels s before | inr never ↦ absurd never ];
        }

    pub run_places : (plan : Plan) (limits : Limits) (moments : List Moment) (new : WorldView) → CanBegin plan →
        WorldRun Loose whole_rule host (booted plan limits) moments new → ArePlacing new
    run_places plan limits moments new can run =
        holds_in_run host sends owns ArePlacing (λ old event next kept after placing none step. step_places old event next kept placing none step) noted_places
        (booted plan limits) moments new (kept_at_first plan limits can) (placing_at_first plan limits) run
