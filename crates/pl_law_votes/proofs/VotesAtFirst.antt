-- At the beginning the votes are in order: nothing is held, granted or said.
use Rattle.std.proofs.Common.{◌≡◌, ℕ, zero, suc, ◌*◌, ◌==◌, true≢false, List, [], ◌∷◌, map, replicate, get_or, Some, None, refl, sym, ◌∙◌, ap, subst}
use Rattle.std.specs.List.{AllByRecursion, list_any}
use Rattle.pl_frame.specs.declared.address.SwitchId.{SwitchId}
use Rattle.pl_wiring.specs.Labels.{switch_count}
use Rattle.pl_wiring.specs.Plan.{Plan}
use Rattle.pl_node.specs.declared.switch_records.Hold.{Hold}
use Rattle.pl_node.specs.SwitchFacts.{hold_at, switch_at_boot}
use Rattle.pl_node.specs.SwitchViews.{SwitchView}
use Rattle.pl_node.proofs.Exports.{unheld}
use Rattle.pl_world.specs.declared.limits.Limits.{Limits}
use Rattle.pl_world.specs.Booting.{booted}
use Rattle.pl_law_control_plane.specs.ControlPlanes.{control_plane, no_switch, queue_out, said}
use Rattle.pl_law_control_plane.proofs.Exports.{booted_view, nothing_said}
use Rattle.pl_law_votes.specs.Counting.{AreNumbersRising, LeadsToAggregation}
use Rattle.pl_law_votes.specs.Pairs.{IsGoodPair, voter_of}
use Rattle.pl_law_votes.specs.Voting.{AreVoting, aggregation_no, edge_no}
use Rattle.pl_law_votes.proofs.Hearing.{AreOf}

booted_id : (k : ℕ) (ids : List SwitchId) (s : ℕ) → (get_or (map (λ id. switch_at_boot id k) ids) s no_switch).id ≡ get_or ids s (record { 0 = 0 })
booted_id k [] s = refl
booted_id k (id ∷ ids) zero = refl
booted_id k (id ∷ ids) (suc s) = booted_id k ids s

pair_at_first : (v w : SwitchView) (p : ℕ) → v.place.position ≡ None → v.granted ≡ [] → ((q : ℕ) (hold : Hold) → hold_at w q ≡ Some hold → ⊥) →
    IsGoodPair (voter_of v p) (hold_at w) [] []
pair_at_first v w p none empty unheld = record {
  fixed = λ q is. absurd (cc (none, is));
  sent = tt;
  rising = tt;
  sound = tt;
  counted = λ is. absurd (true≢false (sym is ∙ ap (λ xs. list_any (λ r. r == p) xs) empty));
  marks = λ q hold is own fixed. absurd (unheld q hold is);
}

abbrev first_view : Plan → ℕ → SwitchView
first_view plan s = get_or (map (λ id. switch_at_boot id plan.k) plan.ids) s no_switch

pub votes_at_first : (plan : Plan) (limits : Limits) → AreVoting (control_plane (booted plan limits))
votes_at_first plan limits = record {
  ids = booted_id plan.k plan.ids;
  named = λ s port. subst (AreOf (first_view plan s).id) (sym (silent s port)) tt;
  holders = λ s q hold is. absurd (none_held s q hold is);
  pairs = λ pod i j p q edge aggregation adjacent.
      let e = edge_no plan.k pod i in let a = aggregation_no plan.k pod j in
      subst (λ xs. IsGoodPair (voter_of (first_view plan e) p) (hold_at (first_view plan a)) xs (said (queue_out plan.k (replicate (switch_count plan.k * plan.k) []) a q))) (sym (silent e p))
      (subst (λ xs. IsGoodPair (voter_of (first_view plan e) p) (hold_at (first_view plan a)) [] xs) (sym (silent a q))
      (pair_at_first (first_view plan e) (first_view plan a) p (unfixed e) (ungranted e) (none_held a)));
  counting = λ pod i edge.
      let e = edge_no plan.k pod i in
      record {
        once = subst (λ xs. AreNumbersRising xs) (sym (ungranted e)) tt;
        leads = subst (λ xs. AllByRecursion (LeadsToAggregation plan pod e) xs) (sym (ungranted e)) tt;
        most = λ q is. let none = unfixed e in absurd (cc (none, is));
      };
}
  where
    silent : (s port : ℕ) → said (queue_out plan.k (replicate (switch_count plan.k * plan.k) []) s port) ≡ []
    silent s port = nothing_said plan.k (switch_count plan.k * plan.k) s port

    unfixed : (s : ℕ) → (get_or (map (λ id. switch_at_boot id plan.k) plan.ids) s no_switch).place.position ≡ None
    unfixed s = booted_view (λ v. v.place.position ≡ None) (λ id k. refl) plan.k plan.ids s

    ungranted : (s : ℕ) → (get_or (map (λ id. switch_at_boot id plan.k) plan.ids) s no_switch).granted ≡ []
    ungranted s = booted_view (λ v. v.granted ≡ []) (λ id k. refl) plan.k plan.ids s

    none_held : (s q : ℕ) (hold : Hold) → hold_at (get_or (map (λ id. switch_at_boot id plan.k) plan.ids) s no_switch) q ≡ Some hold → ⊥
    none_held s = booted_view (λ v. (q : ℕ) (hold : Hold) → hold_at v q ≡ Some hold → ⊥) (λ id k. unheld id k) plan.k plan.ids s
