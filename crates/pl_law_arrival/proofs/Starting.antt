-- Where a live path goes up from one edge switch and down to another, the first link of it leads to a switch from which a way leads down.
use Rattle.std.proofs.Common.{◌≡◌, ℕ, ◌≤◌, ◌++◌, true, List, [], ◌∷◌, length, reverse, slice_get, Option, Some, None, refl, sym, ap, ◌∙◌, subst, inl, inr, arith}
use Rattle.std.proofs.lemmas.Option.{same_Some}
use Rattle.pl_pmac.specs.declared.pmac.Pmac.{Pmac}
use Rattle.pl_layouts.specs.declared.place.Place.{Place}
use Rattle.pl_wiring.specs.declared.label.SwitchNo.{SwitchNo}
use Rattle.pl_wiring.specs.declared.link.Link.{Link}
use Rattle.pl_wiring.specs.FatTree.{IsBelow, IsTreeLink}
use Rattle.pl_wiring.specs.Labels.{label_of}
use Rattle.pl_wiring.specs.LiveLinks.{IsLive, is_live_at}
use Rattle.pl_wiring.specs.Paths.{Climbs, IsLivePath, LeadsUp}
use Rattle.pl_wiring.proofs.Exports.{at_contained, label_of-number_of, peer_is_switch}
use Rattle.pl_law_control_plane.proofs.Exports.{adjacent_labels}
use Rattle.pl_law_places.proofs.Exports.{near_edge}
use Rattle.pl_law_arrival.specs.Ways.{AreLinked, IsLast, LeadsDown}
use Rattle.pl_law_arrival.proofs.Calm.{Calm, Net, back, fabric, place_of_port, there}
use Rattle.pl_law_arrival.proofs.Avoiding.{IsHome}
use Rattle.pl_law_arrival.proofs.RowsSendOn.{one_below, pod_above}
use Rattle.pl_journal.specs.Flights.{label_level}
use Rattle.pl_journal.proofs.Exports.{core_above}

-- a live link that leads up
record Up (n : Net) (a b : ℕ) : Type 0 where
  linked : AreLinked (fabric n) a b
  below : IsBelow (label_of n.plan.k a) (label_of n.plan.k b)

up_of : (n : Net) → Calm n → (a b : SwitchNo) → LeadsUp n.plan n.links a b → Up n a.0 b.0
up_of n calm a b any =
    let link : Link = any.1 in
    let tree = at_contained (IsTreeLink n.plan.k) n.plan.links link calm.is.tree.no_other (any.0, any.2, any.3) in
    let low : link.lower.0 ≡ a.0 = ap (λ (x : SwitchNo). x.0) any.4.0 in
    let high : link.upper.0 ≡ b.0 = ap (λ (x : SwitchNo). x.0) any.4.1 in
    let label_a : label_of n.plan.k a.0 ≡ tree.lower = ap (label_of n.plan.k) (sym low) ∙ ap (label_of n.plan.k) tree.joins.0 ∙ label_of-number_of n.plan.k tree.lower tree.lower_in_range in
    let label_b : label_of n.plan.k b.0 ≡ tree.upper = ap (label_of n.plan.k) (sym high) ∙ ap (label_of n.plan.k) tree.joins.1 ∙ label_of-number_of n.plan.k tree.upper tree.upper_in_range in
    record {
      linked = record {
        port = link.lower_port;
        by = record {
          into = link.upper_port;
          adjacent = (peer_is_switch n.plan a.0 link.lower_port b link.upper_port calm.is).1 (any.0, link, any.2, any.3, inl (low, refl, high, refl));
          live = subst (λ x. is_live_at n.links x link.lower_port ≡ true) low any.4.2;
        };
      };
      below = subst (λ x. IsBelow x (label_of n.plan.k b.0)) (sym label_a) (subst (λ x. IsBelow tree.lower x) (sym label_b) tree.below);
    }

module _ (n : Net) (calm : Calm n) where
  -- what a known level is
  level_is : (s x : ℕ) → label_level (label_of n.plan.k s) ≡ x → ((n.view s).place.level ≡ None → ⊥) → (n.view s).place.level ≡ Some x
  level_is s x label some = by (n.view s).place.level refl
    where
      by : (o : Option ℕ) → (n.view s).place.level ≡ o → (n.view s).place.level ≡ Some x
      by None e = absurd (some e)
      by (Some y) e = e ∙ ap Some ((calm.own s).level y e ∙ label)

  -- above an edge switch that knows its pod are aggregation switches that know it too
  record IsAbove (s x a : ℕ) : Type 0 where
    level : (n.view a).place.level ≡ Some 1
    pod : (n.view a).place.pod ≡ Some x
    label : label_level (label_of n.plan.k a) ≡ 1

  above : (s x a : ℕ) → AreLinked (fabric n) s a → (n.view s).place.level ≡ Some 0 → (n.view s).place.pod ≡ Some x → IsAbove s x a
  above s x a l level of_pod =
      let other = back n calm s a l in
      let zero = sym ((calm.own s).level 0 level) in
      let near = near_edge (label_of n.plan.k a) (label_of n.plan.k s) (adjacent_labels n.plan a other.port s other.by.into calm.is other.by.adjacent) zero in
      let place = place_of_port n calm a other.port s other.by in
      let one = level_is a 1 near.0 ((calm.full a (there n calm s a l)).one other.port (ap (λ (p : Place). p.level) place ∙ level)) in
      let pod = pod_above n calm s a x l level of_pod one in
      record { level = one; pod = pod.1 ∙ ap Some (calm.one_number a s pod.0 x near.1 pod.1 of_pod); label = near.0 }

  module _ (to : Pmac) (t : ℕ) (home : IsHome n to t) where
    last_above : (a : ℕ) → AreLinked (fabric n) t a → IsLast (fabric n) to.pod t a
    last_above a l = let up = above t to.pod a l home.level home.pod in record { level = up.level; pod_is = up.pod; linked = back n calm t a l }

    module _ (s own : ℕ) (level : (n.view s).place.level ≡ Some 0) (of_pod : (n.view s).place.pod ≡ Some own) where
      abbrev pub First : Type 0
      First = (a : ℕ) × AreLinked (fabric n) s a × LeadsDown (fabric n) to.pod t a

      over_core : (a c b : ℕ) → Up n s a → Up n a c → Up n b c → Up n t b → (a ≡ b → ⊥) → First
      over_core a c b to_a to_c from_b from_t differ =
          let k = n.plan.k in
          let first = above s own a to_a.linked level of_pod in
          let last = last_above b from_t.linked in
          let up = above t to.pod b from_t.linked home.level home.pod in
          let two = core_above (label_of k a) (label_of k c) to_c.below first.label in
          let down_a = back n calm a c to_c.linked in
          let down_b = back n calm b c from_b.linked in
          let other : own ≡ to.pod → ⊥ = λ same. differ (one_below n calm c a b to.pod down_a down_b two first.level up.level (first.pod ∙ ap Some same) up.pod) in
          let place_a = place_of_port n calm c down_a.port a down_a.by in
          let place_b = place_of_port n calm c down_b.port b down_b.by in
          let at_two = level_is c 2 two ((calm.full c (there n calm a c to_c.linked)).two down_a.port down_b.port own to.pod
          (ap (λ (p : Place). p.level) place_a ∙ first.level) (ap (λ (p : Place). p.level) place_b ∙ up.level)
          (ap (λ (p : Place). p.pod) place_a ∙ first.pod) (ap (λ (p : Place). p.pod) place_b ∙ up.pod) other) in (
            a,
            to_a.linked,
            inr (record {
              level = first.level;
              own = own;
              pod_is = first.pod;
              another = other;
              top = c;
              linked = to_c.linked;
              is_top = record { level = at_two; last = b; linked = down_b; is_last = last };
            }),
          )

      -- over a path with a switch at the top
      pub starts : (end : SwitchNo) (path : List SwitchNo) (from : SwitchNo) → from.0 ≡ s → end.0 ≡ t → (s ≡ t → ⊥) → IsLivePath n.plan n.links from end path → First
      starts end path from is_s is_t differ way = by way.up way.down way.as_many way.two_at_most way.starts way.ends way.climbs way.falls way.whole
        where
          no : SwitchNo → ℕ
          no x = x.0

          first_is : (x y : SwitchNo) → Some x ≡ Some y → x.0 ≡ y.0
          first_is x y e = ap no (same_Some x y e)

          over : (a b c x y : SwitchNo) → (x.0 ≡ s) → (y.0 ≡ t) → (a ≡ b → ⊥) → LeadsUp n.plan n.links x a → LeadsUp n.plan n.links a c → LeadsUp n.plan n.links b c → LeadsUp n.plan n.links y b → First
          over a b c x y is_x is_y apart xa ac bc yb =
              over_core a.0 c.0 b.0 (subst (λ z. Up n z a.0) is_x (up_of n calm x a xa)) (up_of n calm a c ac) (up_of n calm b c bc) (subst (λ z. Up n z b.0) is_y (up_of n calm y b yb))
              (λ same. apart (same_no a b same))
            where
              same_no : (p q : SwitchNo) → p.0 ≡ q.0 → p ≡ q
              same_no p q e = ap (λ m. let z : SwitchNo = record { 0 = m } in z) e

          by : (up down : List SwitchNo) → length down ≡ length up → length up ≤ 2 → slice_get (up ++ way.top ∷ []) 0 ≡ Some from → slice_get (down ++ way.top ∷ []) 0 ≡ Some end →
              Climbs n.plan.links (IsLive n.links) (up ++ way.top ∷ []) → Climbs n.plan.links (IsLive n.links) (down ++ way.top ∷ []) → path ≡ up ++ way.top ∷ reverse down → First
          by [] [] many few begins ends climbs falls whole = absurd (differ (sym is_s ∙ sym (first_is way.top from begins) ∙ first_is way.top end ends ∙ is_t))
          by (x ∷ []) (y ∷ []) many few begins ends climbs falls whole =
              let sx : x.0 ≡ s = first_is x from begins ∙ is_s in
              let ty : y.0 ≡ t = first_is y end ends ∙ is_t in
              let to = subst (λ z. Up n z way.top.0) sx (up_of n calm x way.top climbs.0) in
              let back_up = subst (λ z. Up n z way.top.0) ty (up_of n calm y way.top falls.0) in
              (way.top.0, to.linked, inl (last_above way.top.0 back_up.linked))
          by (x ∷ a ∷ []) (y ∷ b ∷ []) many few begins ends climbs falls whole =
              over a b way.top x y (first_is x from begins ∙ is_s) (first_is y end ends ∙ is_t)
              (λ same. way.distinct 1 3 a (omega arith) (rw whole (omega arith)) (rw whole same))
              climbs.0 climbs.1.0 falls.1.0 falls.0
          by [] (y ∷ down) many few begins ends climbs falls whole = absurd (omega (arith, many))
          by (x ∷ up) [] many few begins ends climbs falls whole = absurd (omega (arith, many))
          by (x ∷ []) (y ∷ b ∷ down) many few begins ends climbs falls whole = absurd (omega (arith, many))
          by (x ∷ a ∷ up) (y ∷ []) many few begins ends climbs falls whole = absurd (omega (arith, many))
          by (x ∷ a ∷ c ∷ up) down many few begins ends climbs falls whole = absurd (omega (arith, few))
          by (x ∷ a ∷ []) (y ∷ b ∷ d ∷ down) many few begins ends climbs falls whole = absurd (omega (arith, many))
