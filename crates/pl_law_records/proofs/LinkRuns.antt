-- In every run the last reports on links say what the switches would tell now.
use Rattle.std.proofs.Common.{◌≡◌, ℕ, List, Option, Some, None, slice_get, refl, sym, ap, ◌∙◌, arith}
use Rattle.std.proofs.lemmas.Option.{same_Some, slice_get-get_or}
use Rattle.pl_frame.specs.declared.address.SwitchId.{SwitchId}
use Rattle.pl_wiring.specs.declared.link.Peer.{Peer}
use Rattle.pl_wiring.specs.declared.link.Peer.TheVariants.{HostPort, Switch}
use Rattle.pl_wiring.specs.Peers.{peer_of}
use Rattle.pl_wiring.specs.Plan.{IsPlan, Plan}
use Rattle.pl_node.specs.declared.neighbour.Neighbour.{Neighbour}
use Rattle.pl_node.specs.HostDuties.{HostsSendData, HostsSendOwn}
use Rattle.pl_node.specs.HostInputs.{HostRule}
use Rattle.pl_node.specs.PortRecords.{heard_id, port_of}
use Rattle.pl_manager_rule.specs.WholeRule.{whole_rule}
use Rattle.pl_switch_rule.specs.SwitchRule.{Loose}
use Rattle.pl_world.specs.declared.event.Event.{Event}
use Rattle.pl_world.specs.declared.limits.Limits.{Limits}
use Rattle.pl_world.specs.Booting.{CanBegin, booted}
use Rattle.pl_world.specs.Refusals.{refusal}
use Rattle.pl_world.specs.Runs.{Moment, WorldRun}
use Rattle.pl_world.specs.WorldRule.{WorldStep}
use Rattle.pl_world.specs.Worlds.{WorldView}
use Rattle.pl_law_control_plane.specs.ControlPlanes.{AreAdjacent, ControlPlane, control_plane}
use Rattle.pl_law_control_plane.specs.Restarts.{OnPlane, Restarts}
use Rattle.pl_law_control_plane.proofs.Exports.{adjacent_there, adjacent_turned}
use Rattle.pl_law_due.specs.Due.{due_plane}
use Rattle.pl_law_due.specs.DueSteps.{DueStep, OnDue}
use Rattle.pl_law_due.specs.DueSteps.OnDue.{BeginsAnew, Steps}
use Rattle.pl_law_due.specs.Gathering.{AreUnheard}
use Rattle.pl_law_invariant.specs.ControlInvariant.{ControlInvariant}
use Rattle.pl_law_invariant.proofs.Exports.{holds_in_run, kept_at_first, world_due, world_on_plane, world_unheard}
use Rattle.pl_law_records.specs.Records.{HaveToldLinks, HaveToldNeighbours, NamesNeighbours}
use Rattle.pl_law_records.proofs.Pairing.{due_links, links_at_first, restart_links}
use Rattle.pl_law_records.proofs.Strangers.{due_neighbours, neighbours_at_first, restart_neighbours}

-- where places are true, switches name their neighbours as the wiring has them
pub names_neighbours : (w : WorldView) → ControlInvariant w → NamesNeighbours (control_plane w)
names_neighbours w kept s p x h = by (peer_of w.plan s p) refl
  where
    is : IsPlan w.plan
    is = kept.counted.formed.plan

    none_there : (o : Option Neighbour) → o ≡ None → heard_id o ≡ Some x → ⊥
    none_there None e k = absurd (cc k)
    none_there (Some n) e k = absurd (cc e)

    is_heard : (t q : ℕ) → AreAdjacent w.plan t q s p → (o : Option Neighbour) → (port_of ((control_plane w).view s) p).heard ≡ o → heard_id o ≡ Some x →
        ((control_plane w).view t).id ≡ x
    is_heard t q adjacent None e k = absurd (cc k)
    is_heard t q adjacent (Some n) e k = sym ((kept.placed.links t q s p adjacent).recorded.known n e).named ∙ same_Some n.id x k

    by : (peer : Peer) → peer_of w.plan s p ≡ peer → (t : ℕ) × (q : ℕ) × AreAdjacent w.plan s p t q × (slice_get w.plan.ids t ≡ Some x)
    by HostPort e = absurd (none_there (port_of ((control_plane w).view s) p).heard (kept.placed.strangers s p e) h)
    by (Switch t q) e =
        let turned = adjacent_turned w.plan s p t.0 q kept.counted.formed.plan e in
        let there = (adjacent_there w.plan t.0 q s p kept.counted.formed.plan turned).0 in
        let many = kept.counted.formed.plan.ids_many in
        let nobody : SwitchId = record { 0 = 0 } in
        let id = is_heard t.0 q turned (port_of ((control_plane w).view s) p).heard refl h in
        (t.0, q, e, slice_get-get_or w.plan.ids t.0 nobody (omega (arith, many, there)) ∙ ap Some (sym (kept.voting.ids t.0) ∙ id))

module _ (host : HostRule) (sends : HostsSendData host) (owns : HostsSendOwn host) where
  -- What each step of the control plane keeps, and a restart, holds in every run from the beginning.
  module _ (Holds : ControlPlane → Type 0)
      (keeps : (f g : ControlPlane) → IsPlan f.plan → IsPlan g.plan → NamesNeighbours g → Holds f → OnPlane Loose whole_rule f g → Holds g) where
    told_step : (old : WorldView) (event : Event) (new : WorldView) → ControlInvariant old → ControlInvariant new → Holds (control_plane old) → refusal old event ≡ None →
        WorldStep Loose whole_rule host old event new → Holds (control_plane new)
    told_step old event new kept after told none step =
        keeps (control_plane old) (control_plane new) kept.counted.formed.plan after.counted.formed.plan (names_neighbours new after) told
        (world_on_plane host old event new kept none step)

    pub run_holds : (plan : Plan) (limits : Limits) (moments : List Moment) (new : WorldView) → CanBegin plan → Holds (control_plane (booted plan limits)) →
        WorldRun Loose whole_rule host (booted plan limits) moments new → Holds (control_plane new)
    run_holds plan limits moments new can first run =
        holds_in_run host sends owns (λ w. Holds (control_plane w)) told_step (λ w entry is told. told) (booted plan limits) moments new (kept_at_first plan limits can) first run

  -- and what each step to what is due keeps, and what holds where the manager began anew
  module _ (Holds : ControlPlane → Type 0)
      (keeps : (f g : ControlPlane) → IsPlan f.plan → IsPlan g.plan → NamesNeighbours g → AreUnheard f → Holds f → DueStep Loose f g → Holds g)
      (begins : (f g : ControlPlane) → IsPlan f.plan → Restarts f g → Holds g) where
    due_step : (old : WorldView) (event : Event) (new : WorldView) → ControlInvariant old → ControlInvariant new → Holds (due_plane (control_plane old)) → refusal old event ≡ None →
        WorldStep Loose whole_rule host old event new → Holds (due_plane (control_plane new))
    due_step old event new kept after told none step = by (world_due host old event new kept none step)
      where
        f : ControlPlane
        f = due_plane (control_plane old)

        g : ControlPlane
        g = due_plane (control_plane new)

        by : OnDue Loose f g → Holds g
        by (Steps due) = keeps f g kept.counted.formed.plan after.counted.formed.plan (names_neighbours new after) (world_unheard old kept) told due
        by (BeginsAnew anew) = begins f g kept.counted.formed.plan anew

    pub run_due : (plan : Plan) (limits : Limits) (moments : List Moment) (new : WorldView) → CanBegin plan → Holds (due_plane (control_plane (booted plan limits))) →
        WorldRun Loose whole_rule host (booted plan limits) moments new → Holds (due_plane (control_plane new))
    run_due plan limits moments new can first run =
        holds_in_run host sends owns (λ w. Holds (due_plane (control_plane w))) due_step (λ w entry is told. told) (booted plan limits) moments new (kept_at_first plan limits can) first run

  pub run_links : (plan : Plan) (limits : Limits) (moments : List Moment) (new : WorldView) → CanBegin plan →
      WorldRun Loose whole_rule host (booted plan limits) moments new → HaveToldLinks (due_plane (control_plane new))
  run_links plan limits moments new can run = run_due HaveToldLinks due_links restart_links plan limits moments new can (links_at_first plan limits) run

  pub run_neighbours : (plan : Plan) (limits : Limits) (moments : List Moment) (new : WorldView) → CanBegin plan →
      WorldRun Loose whole_rule host (booted plan limits) moments new → HaveToldNeighbours (due_plane (control_plane new))
  run_neighbours plan limits moments new can run =
      run_due HaveToldNeighbours due_neighbours restart_neighbours plan limits moments new can (neighbours_at_first plan limits) run
