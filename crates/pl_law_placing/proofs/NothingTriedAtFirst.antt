-- At the beginning no position was tried.
use Rattle.std.proofs.Common.{◌≡◌, ℕ, zero, suc, ◌*◌, ◌<◌, [], map, replicate, get_or, Some, None, refl, sym, ap, subst, arith}
use Rattle.std.specs.List.{AllByRecursion}
use Rattle.pl_lemmas.proofs.Exports.{replicated}
use Rattle.pl_frame.specs.declared.address.SwitchId.{SwitchId}
use Rattle.pl_wiring.specs.Labels.{switch_count}
use Rattle.pl_wiring.specs.Plan.{Plan}
use Rattle.pl_node.specs.declared.switch_records.Hold.{Hold}
use Rattle.pl_node.specs.SwitchFacts.{hold_at, switch_at_boot}
use Rattle.pl_world.specs.declared.limits.Limits.{Limits}
use Rattle.pl_world.specs.Booting.{booted}
use Rattle.pl_law_control_plane.specs.ControlPlanes.{control_plane, no_switch}
use Rattle.pl_law_control_plane.proofs.Exports.{booted_view, nothing_said}
use Rattle.pl_law_votes.specs.Voting.{aggregation_no, edge_no}
use Rattle.pl_node.specs.PortRecords.{heard_place, new_port, place_at}
use Rattle.pl_node.proofs.Exports.{unheld}
use Rattle.pl_law_placing.specs.Bounding.{IsBounded}
use Rattle.pl_law_placing.specs.Noting.{AreNoted}
use Rattle.pl_law_placing.specs.Parking.{AreParked, IsInTurn, IsNotPast, IsVoteOfOneThere}
use Rattle.pl_law_placing.specs.Receiving.{HaveCrossed, ItemHasCrossed}
use Rattle.pl_law_placing.specs.Trying.{AreTrying, IsTrueVote, IsTrying}

pub trying_at_first : (plan : Plan) (limits : Limits) → AreTrying (control_plane (booted plan limits))
trying_at_first plan limits = record {
  held = λ pod j q hold label is.
      absurd (booted_view (λ v. (q : ℕ) (hold : Hold) → hold_at v q ≡ Some hold → ⊥) (λ id k. unheld id k) plan.k plan.ids (aggregation_no plan.k pod j) q hold is);
  said = λ pod j port label.
      subst (AllByRecursion (IsTrueVote plan.k (λ s. get_or (map (λ id. switch_at_boot id plan.k) plan.ids) s no_switch) pod))
      (sym (nothing_said plan.k (switch_count plan.k * plan.k) (aggregation_no plan.k pod j) port)) tt;
  trying = booted_view IsTrying (λ id k. record { first = λ one. refl; few = λ none. omega arith }) plan.k plan.ids;
  reasons = λ pod i label more.
      absurd (booted_view (λ v. 1 < v.attempt → ⊥) (λ id k more. omega (arith, more)) plan.k plan.ids (edge_no plan.k pod i) more);
}

pub parked_at_first : (plan : Plan) (limits : Limits) → AreParked (control_plane (booted plan limits))
parked_at_first plan limits = record {
  turns = booted_view IsInTurn (λ id k. record { attempt = refl; fixed = λ x at. absurd (cc at) }) plan.k plan.ids;
  kept = λ pod i q label below.
      absurd (booted_view (λ v. q < v.proposed → ⊥) (λ id k below. omega (arith, below)) plan.k plan.ids (edge_no plan.k pod i) below);
  held = λ pod j q hold label is.
      absurd (booted_view (λ v. (q : ℕ) (hold : Hold) → hold_at v q ≡ Some hold → ⊥) (λ id k. unheld id k) plan.k plan.ids (aggregation_no plan.k pod j) q hold is);
  said = λ pod j port label.
      subst (AllByRecursion (IsVoteOfOneThere plan.k (λ s. get_or (map (λ id. switch_at_boot id plan.k) plan.ids) s no_switch) pod))
      (sym (nothing_said plan.k (switch_count plan.k * plan.k) (aggregation_no plan.k pod j) port)) tt;
  proposals = λ s port.
      subst (AllByRecursion (IsNotPast (get_or (map (λ id. switch_at_boot id plan.k) plan.ids) s no_switch).proposed))
      (sym (nothing_said plan.k (switch_count plan.k * plan.k) s port)) tt;
}

untold : (id : SwitchId) (k q : ℕ) → (place_at (switch_at_boot id k) q).position ≡ None
untold id k q = ap (λ r. (heard_place r.heard).position) (replicated k q new_port)

pub noted_at_first : (plan : Plan) (limits : Limits) → AreNoted (control_plane (booted plan limits))
noted_at_first plan limits pod i j p q edge aggregation adjacent = record {
  marked = λ x y hold is has own. absurd (never x is);
  silent = λ x is. absurd (never x is);
}
  where
    never : (x : ℕ) → (place_at (get_or (map (λ id. switch_at_boot id plan.k) plan.ids) (aggregation_no plan.k pod j) no_switch) q).position ≡ Some x → ⊥
    never x is =
        let none = booted_view (λ v. (place_at v q).position ≡ None) (λ id k. untold id k q) plan.k plan.ids (aggregation_no plan.k pod j) in
        absurd (cc (none, is))

pub bounded_at_first : (plan : Plan) (limits : Limits) (s : ℕ) → IsBounded (booted plan limits).steps ((control_plane (booted plan limits)).view s)
bounded_at_first plan limits s =
    booted_view (IsBounded 0) (λ id k. record { few = λ level. absurd (cc level); at_first = λ never. refl }) plan.k plan.ids s

pub crossed_at_first : (plan : Plan) → HaveCrossed [] (replicate (switch_count plan.k * plan.k) []) 0
crossed_at_first plan = record { items = empty (switch_count plan.k * plan.k); unsent = λ id more. refl }
  where
    empty : (n : ℕ) → AllByRecursion (AllByRecursion (ItemHasCrossed [] 0)) (replicate n [])
    empty zero = tt
    empty (suc n) = (tt, empty n)
