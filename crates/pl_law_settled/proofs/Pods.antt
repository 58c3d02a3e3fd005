-- In a settled fabric a pod whose links are live is at rest.
use Rattle.std.proofs.Common.{◌≡◌, ℕ, ◌<◌, ◌/◌, ◌&&◌, ◌||◌, Bool, true, false, true≢false, slice_get, Option, Some, None, refl, sym, ap, ◌∙◌, subst, arith, inl, inr, lt-ltb}
use Rattle.std.proofs.lemmas.Option.{slice_get-get_or}
use Rattle.std.proofs.lemmas.Bool.{and_from}
use Rattle.pl_lemmas.proofs.Exports.{all_at, second_false}
use Rattle.pl_layouts.specs.declared.place.Place.{Place}
use Rattle.pl_layouts.specs.Placement.{is_known}
use Rattle.pl_wiring.specs.declared.label.Label.TheVariants.{Aggregation, Edge}
use Rattle.pl_wiring.specs.declared.link.Peer.{Peer}
use Rattle.pl_wiring.specs.Labels.{IsLabel, label_of, switch_count}
use Rattle.pl_wiring.specs.LiveLinks.{is_live, is_live_at}
use Rattle.pl_wiring.proofs.Exports.{at_contained, label_of-number_of, peer_is_switch}
use Rattle.pl_node.specs.PortRecords.{heard_place, is_usable, place_at}
use Rattle.pl_node.specs.SwitchFacts.{holder_of, is_answered, is_news, present_attempt}
use Rattle.pl_node.specs.SwitchViews.{SwitchView}
use Rattle.pl_world.specs.Worlds.{WorldView}
use Rattle.pl_fabric.specs.Settled.{IsSettled, IsSettledEnd, IsSettledTowards, holds_another, would_change, would_change_by}
use Rattle.pl_law_control_plane.specs.ControlPlanes.{AreAdjacent, control_plane, no_switch}
use Rattle.pl_law_control_plane.proofs.Exports.{adjacent_there, adjacent_turned}
use Rattle.pl_law_votes.specs.Voting.{aggregation_no, edge_no}
use Rattle.pl_law_invariant.specs.ControlInvariant.{ControlInvariant}
use Rattle.pl_law_placing.specs.Placing.{ArePlacing}
use Rattle.pl_law_placing.specs.Resting.{HasFirst, HavePositions, IsRestingLink, IsRestingPod}
use Rattle.pl_law_placing.proofs.Exports.{answered, few_attempts, world_first, world_positions}
use Rattle.pl_law_settled.specs.Whole.{IsWholePod}
use Rattle.pl_law_settled.proofs.Proposals.{presents}
use Rattle.pl_journal.specs.Flights.{label_level}

neither : (a b : Bool) → (a || b) ≡ false → b ≡ false
neither true b none = absurd (true≢false none)
neither false b none = none

three : (a b c : Bool) → a ≡ true → b ≡ true → c ≡ true → (a && b && c) ≡ true
three a b c x y z = rw (x, y, z) refl

-- A proposal that reaches an aggregation switch, and would change nothing, brings no news.
no_news : (v : SwitchView) (p : ℕ) (u : SwitchView) (q : ℕ) → would_change v p u q ≡ false → is_usable v p ≡ true → place_at v p ≡ u.place → place_at u q ≡ v.place →
    u.place.level ≡ Some 1 → v.proposed < u.k / 2 → v.place.level ≡ Some 0 → v.place.position ≡ None → is_news v p v.attempt (holder_of u v.proposed) ≡ false
no_news v p u q unchanged usable down up above within level none =
    let to = and_from (is_usable v p) (is_known (place_at v p).level 1) usable (ap (λ (x : Place). is_known x.level 1) down ∙ ap (λ (x : Option ℕ). is_known x 1) above) in
    let changed = second_false (is_usable v p && is_known (place_at v p).level 1) (would_change_by v p u q (present_attempt v)) unchanged to in
    let at : would_change_by v p u q (Some (v.attempt, v.proposed)) ≡ false = subst (λ (o : Option (ℕ × ℕ)). would_change_by v p u q o ≡ false) (presents v level none) changed in
    let answers : is_answered u q v.proposed ≡ true =
    three _ _ _ (ap (λ (x : Option ℕ). is_known x 1) above) (ap (λ (x : Place). is_known x.level 0) up ∙ ap (λ (x : Option ℕ). is_known x 0) level) (lt-ltb v.proposed (u.k / 2) within) in
    neither (holds_another u v.id v.proposed) (is_news v p v.attempt (holder_of u v.proposed)) (second_false (is_answered u q v.proposed) _ at answers)

module _ (w : WorldView) (kept : ControlInvariant w) (is : IsSettled w) where
  there : (s : ℕ) → s < switch_count w.plan.k → slice_get w.switches s ≡ Some ((control_plane w).view s)
  there s within = let many = kept.counted.formed.switches in slice_get-get_or w.switches s no_switch (omega (arith, within, many))

  end_of : (s p t q : ℕ) → AreAdjacent w.plan s p t q →
      IsSettledEnd w.manager (is_live_at w.links s p) ((control_plane w).view s) p ((control_plane w).view t) q
  end_of s p t q adjacent =
      let plan = kept.counted.formed.plan in
      let here = adjacent_there w.plan s p t q plan adjacent in
      let beyond = adjacent_there w.plan t q s p plan (adjacent_turned w.plan s p t q plan adjacent) in
      subst (λ (peer : Peer). IsSettledTowards w s ((control_plane w).view s) p peer) adjacent
      ((is.switches s ((control_plane w).view s) (there s here.0)).links p here.1) ((control_plane w).view t) (there t beyond.0)

  moved : (a b c d : ℕ) → a ≡ c → b ≡ d → is_live_at w.links a b ≡ true → is_live_at w.links c d ≡ true
  moved a b c d switch port live = subst (λ n. is_live_at w.links c n ≡ true) port (subst (λ n. is_live_at w.links n b ≡ true) switch live)

  -- a link is live at both ends
  live_beyond : (s p t q : ℕ) → AreAdjacent w.plan s p t q → is_live_at w.links s p ≡ true → is_live_at w.links t q ≡ true
  live_beyond s p t q adjacent live =
      let any = (peer_is_switch w.plan s p (record { 0 = t }) q kept.counted.formed.plan).0 adjacent in
      let link = any.1 in
      let same : is_live_at w.links link.upper.0 link.upper_port ≡ is_live_at w.links link.lower.0 link.lower_port =
      at_contained (λ l. is_live_at w.links l.upper.0 l.upper_port ≡ is_live w.links l) w.plan.links link kept.counted.formed.links.agree (any.0, any.2, any.3) in
      elim any.4 [
        | inl e ↦ moved _ _ t q e.2 e.3 (same ∙ moved s p _ _ (sym e.0) (sym e.1) live)
        | inr e ↦ moved _ _ t q e.2 e.3 (sym same ∙ moved s p _ _ (sym e.0) (sym e.1) live)
      ]

  size : (s : ℕ) → s < switch_count w.plan.k → ((control_plane w).view s).k ≡ w.plan.k
  size s within =
      let many = kept.counted.formed.switches in
      all_at (λ (v : SwitchView). v.k ≡ w.plan.k) w.switches s no_switch (omega (arith, within, many)) kept.counted.formed.ports

  -- an aggregation switch that heard an edge switch knows its level
  level_above : (pod j q : ℕ) → IsLabel w.plan.k (Aggregation pod j) → aggregation_no w.plan.k pod j < switch_count w.plan.k →
      (place_at ((control_plane w).view (aggregation_no w.plan.k pod j)) q).level ≡ Some 0 → ((control_plane w).view (aggregation_no w.plan.k pod j)).place.level ≡ Some 1
  level_above pod j q label within heard = by (aggregation_no w.plan.k pod j) (label_of-number_of w.plan.k (Aggregation pod j) label) within heard
    where
      by : (t : ℕ) → label_of w.plan.k t ≡ Aggregation pod j → t < switch_count w.plan.k → (place_at ((control_plane w).view t) q).level ≡ Some 0 →
          ((control_plane w).view t).place.level ≡ Some 1
      by t of below told = known ((control_plane w).view t).place.level refl
        where
          known : (o : Option ℕ) → ((control_plane w).view t).place.level ≡ o → ((control_plane w).view t).place.level ≡ Some 1
          known None none = absurd ((kept.placed.sound t below).full.one q told none)
          known (Some x) some = some ∙ ap Some ((kept.placed.own t).level x some ∙ ap label_level of)

  module _ (placing : ArePlacing w) (pod : ℕ) (whole : IsWholePod w pod) where
    resting_link : (i j p q : ℕ) → IsLabel w.plan.k (Edge pod i) → IsLabel w.plan.k (Aggregation pod j) →
        AreAdjacent w.plan (edge_no w.plan.k pod i) p (aggregation_no w.plan.k pod j) q →
        IsRestingLink ((control_plane w).view (edge_no w.plan.k pod i)) p ((control_plane w).view (aggregation_no w.plan.k pod j)) q
    resting_link i j p q edge aggregation adjacent =
        let s = edge_no w.plan.k pod i in let t = aggregation_no w.plan.k pod j in
        let v = (control_plane w).view s in let u = (control_plane w).view t in
        let plan = kept.counted.formed.plan in
        let turned = adjacent_turned w.plan s p t q plan adjacent in
        let here = adjacent_there w.plan s p t q plan adjacent in
        let beyond = adjacent_there w.plan t q s p plan turned in
        let live = whole i j p q edge aggregation adjacent in
        let below = end_of s p t q adjacent in
        let above = end_of t q s p turned in
        let up : place_at u q ≡ v.place = ap heard_place (above.current (live_beyond s p t q adjacent live)) in
        let down : place_at v p ≡ u.place = ap heard_place (below.current live) in
        record {
          told_up = up;
          told_down = down;
          answered = λ level none.
              let one = level_above pod j q aggregation beyond.0 (ap (λ (x : Place). x.level) up ∙ level) in
              let within = subst (λ k. v.proposed < k / 2) (size s here.0 ∙ sym (size t beyond.0)) (kept.placed.sound s here.0).able.position in
              let attempts = few_attempts w kept placing pod i edge in
              let size = plan.arity.most in
              answered v u p (omega (arith, attempts, size)) (no_news v p u q below.no_news (below.usable ∙ live) down up one within level none);
        }

    pub resting_pod : IsRestingPod (control_plane w) pod
    resting_pod i j p q edge aggregation adjacent = resting_link i j p q edge aggregation adjacent

    pub settled_positions : HavePositions (control_plane w) pod
    settled_positions = world_positions w kept placing pod resting_pod

    pub settled_first : (i : ℕ) → IsLabel w.plan.k (Edge pod i) → ((control_plane w).view (edge_no w.plan.k pod i)).place.level ≡ Some 0 → HasFirst (control_plane w) pod
    settled_first = world_first w kept placing pod resting_pod
