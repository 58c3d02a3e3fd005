-- In every run parts of trees lead down, and so at each port at most one frame of each root comes.
use Rattle.std.proofs.Common.{◌≡◌, ℕ, zero, suc, ◌==◌, ◌<◌, true, List, [], ◌∷◌, map, Option, None, Some, get_or, slice_get, refl, sym, ap, ◌∙◌, subst, arith}
use Rattle.std.specs.List.{AllByRecursion}
use Rattle.std.proofs.lemmas.Bool.{false≢true}
use Rattle.std.proofs.lemmas.Option.{get_or_from_slice_get, slice_get_within}
use Rattle.pl_lemmas.proofs.Exports.{replicated}
use Rattle.pl_frame.specs.declared.address.SwitchId.{SwitchId}
use Rattle.pl_wiring.specs.declared.label.SwitchNo.{SwitchNo}
use Rattle.pl_wiring.specs.declared.link.Peer.{Peer}
use Rattle.pl_wiring.specs.declared.link.Peer.TheVariants.{HostPort, Switch}
use Rattle.pl_wiring.specs.Labels.{switch_count}
use Rattle.pl_wiring.specs.Peers.{peer_of}
use Rattle.pl_wiring.specs.Plan.{IsPlan, Plan}
use Rattle.pl_node.specs.declared.messages.TreePart.{TreePart}
use Rattle.pl_node.specs.declared.neighbour.Neighbour.{Neighbour}
use Rattle.pl_node.specs.HostDuties.{HostsSendData, HostsSendOwn}
use Rattle.pl_node.specs.HostInputs.{HostRule}
use Rattle.pl_node.specs.PortRecords.{heard_place, id_at, place_at, port_of}
use Rattle.pl_node.specs.SwitchFacts.{part_of, switch_at_boot}
use Rattle.pl_node.specs.SwitchViews.{SwitchView}
use Rattle.pl_manager_rule.specs.WholeRule.{whole_rule}
use Rattle.pl_switch_rule.specs.SwitchRule.{Loose}
use Rattle.pl_world.specs.declared.event.Event.{Event}
use Rattle.pl_world.specs.declared.limits.Limits.{Limits}
use Rattle.pl_world.specs.Booting.{CanBegin, booted}
use Rattle.pl_world.specs.Refusals.{refusal}
use Rattle.pl_world.specs.Runs.{Moment, WorldRun}
use Rattle.pl_world.specs.WorldRule.{WorldStep}
use Rattle.pl_world.specs.Worlds.{WorldView}
use Rattle.pl_world.proofs.Exports.{all_found}
use Rattle.pl_law_control_plane.specs.ControlPlanes.{AreAdjacent, ControlPlane, control_plane, no_switch}
use Rattle.pl_law_control_plane.specs.HostsAtEdges.{IsAtEdge}
use Rattle.pl_law_control_plane.proofs.Exports.{adjacent_turned, plan_same}
use Rattle.pl_law_due.specs.Due.{due_plane}
use Rattle.pl_law_due.specs.DueSteps.{OnDue}
use Rattle.pl_law_due.specs.DueSteps.OnDue.{BeginsAnew, Steps}
use Rattle.pl_law_due.proofs.Exports.{nothing_due}
use Rattle.pl_law_places.specs.Places.{ArePlaced}
use Rattle.pl_law_places.specs.Told.{IsTrueOf}
use Rattle.pl_law_votes.proofs.Exports.{fixed_are_apart}
use Rattle.pl_law_pods.proofs.Exports.{numbers_told}
use Rattle.pl_law_placing.proofs.Exports.{seen_later, seen_on}
use Rattle.pl_law_invariant.specs.ControlInvariant.{ControlInvariant}
use Rattle.pl_law_invariant.proofs.Exports.{grounded, holds_in_run, kept_at_first, world_due, world_on_plane}
use Rattle.pl_law_records.specs.Records.{is_neighbour}
use Rattle.pl_law_records.proofs.Exports.{names_neighbours, neighbour_is}
use Rattle.pl_law_copies.specs.Copies.{ComesOnce}
use Rattle.pl_law_copies.specs.Standing.{KnowTrees, KnowsTree}
use Rattle.pl_law_copies.proofs.CopiesInRuns.{mark_once, once_at_first, step_once}
use Rattle.pl_law_copies.specs.Trees.{AreTrees, IsTrueOrder, IsTruePart, IsTrueReport, PartLeadsOn}
use Rattle.pl_law_copies.proofs.DueTrees.{due_trees, restart_trees}
use Rattle.pl_law_copies.proofs.KeepingTrees.{level_is}
use Rattle.pl_law_copies.proofs.Parts.{found_true}
use Rattle.pl_journal.specs.Flights.{level_of}

-- where places are true and parts lead down, switches know the tree around them
module _ (w : WorldView) (kept : ControlInvariant w) (trees : AreTrees w.plan (due_plane (control_plane w))) where
  f : ControlPlane
  f = control_plane w

  is : IsPlan w.plan
  is = kept.counted.formed.plan

  adjacent_back : (t q : ℕ) (u : SwitchNo) (r : ℕ) → peer_of w.plan t q ≡ Switch u r → AreAdjacent w.plan u.0 r t q
  adjacent_back t q u r peer = adjacent_turned w.plan t q u.0 r is peer

  near_level : (t q : ℕ) (u : SwitchNo) (r n : ℕ) → peer_of w.plan t q ≡ Switch u r → (place_at ((control_plane w).view t) q).level ≡ Some n → n ≡ level_of w.plan.k u.0
  near_level t q u r n peer level = by_heard (port_of ((control_plane w).view t) q).heard refl level
    where
      by_heard : (o : Option Neighbour) → (port_of ((control_plane w).view t) q).heard ≡ o → (heard_place o).level ≡ Some n → n ≡ level_of w.plan.k u.0
      by_heard None e known = absurd (cc)
      by_heard (Some x) e known =
          level_is w.plan (control_plane w) kept.placed u.0 n (((kept.placed.links u.0 r t q (adjacent_back t q u r peer)).recorded.known x e).so.level n known)

  host_port : (t q : ℕ) → (port_of ((control_plane w).view t) q).host ≡ true → peer_of w.plan t q ≡ HostPort
  host_port t q host = by_peer (peer_of w.plan t q) refl
    where
      by_peer : (p : Peer) → peer_of w.plan t q ≡ p → peer_of w.plan t q ≡ HostPort
      by_peer HostPort e = e
      by_peer (Switch u r) e = absurd (false≢true (sym (kept.placed.links u.0 r t q (adjacent_back t q u r e)).recorded.no_host ∙ host))

  -- the part of a switch, and the switch that is named at a port of it
  held_part : (t group : ℕ) (part : TreePart) → part_of ((control_plane w).view t) group ≡ Some part → PartLeadsOn w.plan (level_of w.plan.k t) part
  held_part t group part has =
      (found_true (λ part. IsTruePart w.plan (level_of w.plan.k t) (Some part.1)) (λ g. g == group) ((control_plane w).view t).parts (trees.held t) part has).2

  named_there : (t q : ℕ) (u : SwitchNo) (r : ℕ) (id : SwitchId) → peer_of w.plan t q ≡ Switch u r → id_at ((control_plane w).view t) q ≡ Some id →
      slice_get w.plan.ids u.0 ≡ Some id
  named_there t q u r id peer known =
      let named = names_neighbours w kept t q id known in
      let same : Switch u r ≡ Switch (record { 0 = named.0 }) named.1 = sym peer ∙ named.2 in
      let there : u.0 ≡ named.0 = ap number_at same in
      ap (slice_get w.plan.ids) there ∙ named.3
    where
      number_at : Peer → ℕ
      number_at (Switch x y) = x.0
      number_at HostPort = 0

  pub know_trees : KnowTrees w
  know_trees = record {
    free = λ h attachment found. (all_found (IsAtEdge w.plan) w.attachments h attachment found kept.hosts).free;
    each = λ t v found.
        let here : (control_plane w).view t ≡ v = get_or_from_slice_get w.switches t v no_switch found in
        let within = slice_get_within w.switches t v found in
        let there : t < switch_count w.plan.k = (let many = kept.counted.formed.switches in omega arith) in
        subst (λ (x : SwitchView). KnowsTree w.plan t x) here (record {
          level = level_is w.plan (control_plane w) kept.placed t;
          near = near_level t;
          strangers = kept.placed.strangers t;
          hosts = host_port t;
          members = (kept.placed.sound t there).homes.members;
          up = λ group part q u r id has peer known. (held_part t group part has).up u.0 id (named_there t q u r id peer known);
          down = λ group part q u r id has peer known. (held_part t group part has).down u.0 id (named_there t q u r id peer known);
        });
    closed = (grounded w kept.counted kept.placed kept.voting kept.numbered).neighbours;
  }

-- At the beginning nothing was told.

new_parts : (ids : List SwitchId) (k s : ℕ) → (get_or (map (λ id. switch_at_boot id k) ids) s no_switch).parts ≡ []
new_parts [] k s = refl
new_parts (id ∷ ids) k zero = refl
new_parts (id ∷ ids) k (suc s) = new_parts ids k s

trees_at_first : (plan : Plan) (limits : Limits) → AreTrees plan (due_plane (control_plane (booted plan limits)))
trees_at_first plan limits = record {
  reports = λ s. subst (AllByRecursion (IsTrueReport plan s ((control_plane (booted plan limits)).view s).place)) (sym (nothing_due (control_plane (booted plan limits)) refl s (replicated (switch_count plan.k) s []))) tt;
  places = tt;
  links = tt;
  members = tt;
  orders = λ s. subst (AllByRecursion (IsTrueOrder plan (level_of plan.k s))) (sym (replicated (switch_count plan.k) s [])) tt;
  held = λ s. subst (AllByRecursion (λ part. IsTruePart plan (level_of plan.k s) (Some part.1))) (sym (new_parts plan.ids plan.k s)) tt;
}

-- what switches know of places goes not by what is due
placed_due : (plan : Plan) (f : ControlPlane) → ArePlaced plan f → ArePlaced plan (due_plane f)
placed_due plan f placed = record { links = placed.links; strangers = placed.strangers; own = placed.own; pods = placed.pods; sound = placed.sound }

-- both at once
pub record HoldsOnce (w : WorldView) : Type 0 where
  pub trees : AreTrees w.plan (due_plane (control_plane w))
  pub come : ComesOnce w

-- a step keeps both
module _ (host : HostRule) (old : WorldView) (event : Event) (new : WorldView) (kept : ControlInvariant old) (after : ControlInvariant new)
    (holds : HoldsOnce old) (none : refusal old event ≡ None) (step : WorldStep Loose whole_rule host old event new) where
  same_plan : new.plan ≡ old.plan
  same_plan = plan_same Loose whole_rule (control_plane old) (control_plane new) (world_on_plane host old event new kept none step)

  grown : (s : ℕ) → IsTrueOf ((control_plane old).view s).place ((control_plane new).view s).place
  grown =
      let f = control_plane old in
      let is = kept.counted.formed.plan in
      seen_later f (control_plane new)
      (seen_on whole_rule f (control_plane new) is kept.placed (fixed_are_apart f.plan f.view f.says is kept.voting)
      (numbers_told f is kept.gathered kept.numbered) (world_on_plane host old event new kept none step))

  near : (s p : ℕ) (u : SwitchId) → id_at ((control_plane new).view s) p ≡ Some u → is_neighbour old.plan s u ≡ true
  near s p u at =
      let names = names_neighbours new after s p u at in
      subst (λ (x : Plan). is_neighbour x s u ≡ true) same_plan (neighbour_is new.plan s p names.0 names.1 u after.counted.formed.plan names.2 names.3)

  trees_by : OnDue Loose (due_plane (control_plane old)) (due_plane (control_plane new)) → AreTrees old.plan (due_plane (control_plane new))
  trees_by (Steps due) =
      due_trees old.plan kept.counted.formed.plan (due_plane (control_plane old)) (due_plane (control_plane new)) refl
      (placed_due old.plan (control_plane old) kept.placed) grown near holds.trees due
  trees_by (BeginsAnew anew) = restart_trees old.plan (due_plane (control_plane old)) (due_plane (control_plane new)) anew holds.trees

  step_holds_once : HoldsOnce new
  step_holds_once = record {
    trees = subst (λ (p : Plan). AreTrees p (due_plane (control_plane new))) (sym same_plan) (trees_by (world_due host old event new kept none step));
    come = step_once whole_rule host old event new kept.counted (know_trees old kept holds.trees) none step holds.come;
  }

pub run_once : (host : HostRule) → HostsSendData host → HostsSendOwn host → (plan : Plan) (limits : Limits) (moments : List Moment) (new : WorldView) →
    CanBegin plan → WorldRun Loose whole_rule host (booted plan limits) moments new → HoldsOnce new
run_once host sends owns plan limits moments new can run =
    holds_in_run host sends owns HoldsOnce (step_holds_once host)
    (λ w entry mark holds. record { trees = holds.trees; come = mark_once w entry mark holds.come })
    (booted plan limits) moments new (kept_at_first plan limits can) (record { trees = trees_at_first plan limits; come = once_at_first plan limits }) run
