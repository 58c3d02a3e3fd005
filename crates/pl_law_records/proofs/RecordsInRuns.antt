-- At the beginning nothing was told; and what each step keeps, each run keeps.
use Rattle.std.proofs.Common.{◌≡◌, ℕ, ◌==◌, zero, suc, List, [], ◌∷◌, map, get_or, None, nat_cmp, refl, sym, ap, ◌∙◌, subst}
use Rattle.std.specs.List.Sorted.{IsStrictlySortedBy}
use Rattle.std.specs.Map.{keys_of, lookup}
use Rattle.pl_lemmas.proofs.Exports.{replicated}
use Rattle.pl_frame.specs.declared.address.SwitchId.{SwitchId}
use Rattle.pl_layouts.specs.Placement.{nowhere}
use Rattle.pl_wiring.specs.Labels.{switch_count}
use Rattle.pl_wiring.specs.Plan.{Plan}
use Rattle.pl_node.specs.HostDuties.{HostsSendData, HostsSendOwn}
use Rattle.pl_node.specs.HostInputs.{HostRule}
use Rattle.pl_node.specs.ManagerViews.{booted_manager}
use Rattle.pl_node.specs.SwitchFacts.{switch_at_boot}
use Rattle.pl_node.specs.SwitchViews.{SwitchView}
use Rattle.pl_manager_rule.specs.Histories.{members_said, place_said}
use Rattle.pl_manager_rule.specs.WholeRule.{whole_rule}
use Rattle.pl_switch_rule.specs.Intake.{has_member_of}
use Rattle.pl_switch_rule.specs.SwitchRule.{Loose}
use Rattle.pl_switch_rule.proofs.Exports.{loose_steps_are_accounted}
use Rattle.pl_world.specs.declared.event.Event.{Event}
use Rattle.pl_world.specs.declared.limits.Limits.{Limits}
use Rattle.pl_world.specs.Booting.{CanBegin, booted}
use Rattle.pl_world.specs.Flying.{IsCounted}
use Rattle.pl_world.specs.Refusals.{refusal}
use Rattle.pl_world.specs.Runs.{Moment, WorldRun}
use Rattle.pl_world.specs.WorldRule.{WorldStep}
use Rattle.pl_world.specs.Worlds.{WorldView}
use Rattle.pl_law_control_plane.specs.ControlPlanes.{ControlPlane, control_plane, no_switch}
use Rattle.pl_law_control_plane.specs.HostsAtEdges.{HostsAtEdges}
use Rattle.pl_law_control_plane.proofs.Exports.{step_on_plane}
use Rattle.pl_law_due.specs.Due.{due_plane, words_of}
use Rattle.pl_law_due.specs.DueSteps.{OnDue}
use Rattle.pl_law_due.specs.DueSteps.OnDue.{BeginsAnew, Steps}
use Rattle.pl_law_due.specs.Gathering.{GathersWell, IsSized}
use Rattle.pl_law_due.proofs.Exports.{on_due, whole_due}
use Rattle.pl_law_invariant.specs.ControlInvariant.{ControlInvariant}
use Rattle.pl_law_invariant.proofs.Exports.{holds_in_run, kept_at_first, world_due, world_unheard}
use Rattle.pl_law_records.specs.Records.{HaveOrders, HaveReported}
use Rattle.pl_law_records.specs.Words.{avoid_said, last_said, part_said}
use Rattle.pl_law_records.proofs.ListsOfRecords.{no_list, no_part}
use Rattle.pl_law_records.proofs.DueOrders.{due_ordered, restart_ordered}
use Rattle.pl_law_records.proofs.Reporting.{due_reported, restart_reported}

-- a switch that knows nothing of its place, of members and of trees
record IsNew (v : SwitchView) : Type 0 where
  place : v.place ≡ nowhere
  members : v.members ≡ []
  avoid : v.avoid ≡ []
  parts : v.parts ≡ []

new_switch : (ids : List SwitchId) (k s : ℕ) → IsNew (get_or (map (λ id. switch_at_boot id k) ids) s no_switch)
new_switch [] k s = record { place = refl; members = refl; avoid = refl; parts = refl }
new_switch (id ∷ ids) k zero = record { place = refl; members = refl; avoid = refl; parts = refl }
new_switch (id ∷ ids) k (suc s) = new_switch ids k s

pub reported_at_first : (plan : Plan) (limits : Limits) → HaveReported (due_plane (control_plane (booted plan limits)))
reported_at_first plan limits s id named loud =
    let new = new_switch plan.ids plan.k s in
    let none : (due_plane (control_plane (booted plan limits))).reports s ≡ [] =
    whole_due (control_plane (booted plan limits)) refl s id named ∙ ap words_of (replicated (switch_count plan.k) s []) in
    record {
      place = ap (last_said place_said nowhere) none ∙ sym new.place;
      members = λ group. ap (last_said (members_said group) _) none ∙ ap (λ ms. has_member_of ms group) (sym new.members);
    }

pub ordered_at_first : (plan : Plan) (limits : Limits) → HaveOrders (control_plane (booted plan limits))
unfolding IsStrictlySortedBy
ordered_at_first plan limits s id named =
    let new = new_switch plan.ids plan.k s in
    let none = replicated (switch_count plan.k) s [] in
    let told = (booted_manager plan.k).told in
    record {
      avoid = ap (last_said avoid_said _) none ∙ new.avoid ∙ sym (no_list told id (λ h. h));
      parts = λ group. ap (last_said (part_said group) _) none ∙ ap (lookup (λ g. g == group)) new.parts ∙ sym (no_part told id (λ h. h) [] group);
      rising = subst (λ ps. IsStrictlySortedBy nat_cmp (keys_of ps)) (sym new.parts) tt;
    }

-- orders and records are the same by what is due
orders_due : (f : ControlPlane) → HaveOrders f → HaveOrders (due_plane f)
orders_due f has s id named = let was = has s id named in record { avoid = was.avoid; parts = was.parts; rising = was.rising }

due_orders : (f : ControlPlane) → HaveOrders (due_plane f) → HaveOrders f
due_orders f has s id named = let is = has s id named in record { avoid = is.avoid; parts = is.parts; rising = is.rising }

module _ (host : HostRule) where
  pub step_reported : (old : WorldView) (event : Event) (new : WorldView) → ControlInvariant old → refusal old event ≡ None →
      WorldStep Loose whole_rule host old event new → HaveReported (due_plane (control_plane old)) → HaveReported (due_plane (control_plane new))
  step_reported old event new before none step told = by (world_due host old event new before none step)
    where
      f : ControlPlane
      f = due_plane (control_plane old)

      g : ControlPlane
      g = due_plane (control_plane new)

      by : OnDue Loose f g → HaveReported g
      by (Steps due) = due_reported f g before.counted.formed.plan (world_unheard old before) told due
      by (BeginsAnew anew) = restart_reported f g before.counted.formed.plan anew

  pub step_ordered : (old : WorldView) (event : Event) (new : WorldView) → IsCounted old → HostsAtEdges old → IsSized (control_plane old) →
      GathersWell (control_plane old) → refusal old event ≡ None → WorldStep Loose whole_rule host old event new → HaveOrders (control_plane old) → HaveOrders (control_plane new)
  step_ordered old event new counted hosts size well none step has =
      let is = counted.formed.plan in
      due_orders (control_plane new) (by (on_due (control_plane old) (control_plane new) is size well
      (step_on_plane Loose whole_rule host loose_steps_are_accounted old event new counted hosts none step)))
    where
      f : ControlPlane
      f = due_plane (control_plane old)

      g : ControlPlane
      g = due_plane (control_plane new)

      by : OnDue Loose f g → HaveOrders g
      by (Steps due) = due_ordered f g counted.formed.plan (orders_due (control_plane old) has) due
      by (BeginsAnew anew) = restart_ordered f g counted.formed.plan (orders_due (control_plane old) has) anew

  module _ (sends : HostsSendData host) (owns : HostsSendOwn host) where
    pub run_reported : (plan : Plan) (limits : Limits) (moments : List Moment) (new : WorldView) → CanBegin plan →
        WorldRun Loose whole_rule host (booted plan limits) moments new → HaveReported (due_plane (control_plane new))
    run_reported plan limits moments new can run =
        holds_in_run host sends owns (λ w. HaveReported (due_plane (control_plane w)))
        (λ old event next before after told none step. step_reported old event next before none step told) (λ w entry is told. told)
        (booted plan limits) moments new (kept_at_first plan limits can) (reported_at_first plan limits) run

    pub run_ordered : (plan : Plan) (limits : Limits) (moments : List Moment) (new : WorldView) → CanBegin plan →
        WorldRun Loose whole_rule host (booted plan limits) moments new → HaveOrders (control_plane new)
    run_ordered plan limits moments new can run =
        holds_in_run host sends owns (λ w. HaveOrders (control_plane w))
        (λ old event next before after has none step. step_ordered old event next before.counted before.hosts before.size before.gathered none step has)
        (λ w entry is has. has)
        (booted plan limits) moments new (kept_at_first plan limits can) (ordered_at_first plan limits) run
