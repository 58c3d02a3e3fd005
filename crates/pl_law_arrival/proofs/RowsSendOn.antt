-- At each kind of place on its way a frame has a port by which it may leave, and each such port leads to a switch of the next kind.
use Rattle.std.proofs.Common.{◌≡◌, ◌⊎◌, ℕ, ◌<◌, ◌&&◌, not, true, false, cond, Option, Some, None, refl, sym, ap, ◌∙◌, subst, inl, inr, true≢false}
use Rattle.std.proofs.lemmas.Bool.{and_from, and_left, and_parts, and_right, not-true, not_from_false}
use Rattle.pl_pmac.specs.declared.pmac.Pmac.{Pmac}
use Rattle.pl_layouts.specs.declared.place.Place.{Place}
use Rattle.pl_layouts.specs.Placement.{is_known}
use Rattle.pl_layouts.proofs.Exports.{is_known_of, known_is}
use Rattle.pl_wiring.specs.declared.label.Label.{Label}
use Rattle.pl_wiring.specs.declared.label.Label.TheVariants.{Aggregation, Core, Edge}
use Rattle.pl_wiring.specs.FatTree.{IsBelow}
use Rattle.pl_wiring.specs.Labels.{label_of}
use Rattle.pl_wiring.proofs.Exports.{same_label}
use Rattle.pl_node.specs.AvoidLists.{is_level_above, is_sent_down, leads_to}
use Rattle.pl_node.specs.ManagerViews.{has_level, has_pod, place_of}
use Rattle.pl_node.specs.PortRecords.{id_at, is_usable, is_usable_to, place_at}
use Rattle.pl_node.specs.SwitchFacts.{is_avoided}
use Rattle.pl_switch_rule.specs.declared.came.Came.TheVariants.{FromAbove, FromBelow, FromHost}
use Rattle.pl_switch_rule.specs.Forwarding.{is_candidate, leads_from_aggregation, leads_from_core, leads_from_edge, leads_to_pod, leads_to_position, leads_up}
use Rattle.pl_switch_rule.specs.Granting.{is_local}
use Rattle.pl_law_control_plane.proofs.Exports.{adjacent_labels}
use Rattle.pl_law_places.specs.Known.{pod_of}
use Rattle.pl_law_places.proofs.Exports.{near_edge}
use Rattle.pl_law_arrival.specs.Ways.{AreLinked, HasPortOn, IsOfOtherPod, IsLast, IsTop, LeadsBy, LeadsDown}
use Rattle.pl_law_arrival.proofs.ArrivalLemmas.{at_aggregation, at_core, at_edge, known_other, level_differs}
use Rattle.pl_law_arrival.proofs.Calm.{Calm, Net, back, fabric, here, id_of_port, place_of_port, port_here, port_usable, there, usable_leads}
use Rattle.pl_law_arrival.proofs.Leading.{down_leads, leads_is_down, leads_is_top, top_leads}
use Rattle.pl_law_arrival.proofs.Avoiding.{IsHome, edge_label, leads_unless, not_avoided, one_edge_pod}
use Rattle.pl_journal.specs.Flights.{label_level}

-- ---- labels
upper_label : (label : Label) → label_level label ≡ 1 → (pod j : ℕ) × (label ≡ Aggregation pod j)
upper_label (Edge pod i) e = absurd (cc e)
upper_label (Aggregation pod j) e = (pod, j, refl)
upper_label (Core group m) e = absurd (cc e)

core_label : (label : Label) → label_level label ≡ 2 → (group m : ℕ) × (label ≡ Core group m)
core_label (Edge pod i) e = absurd (cc e)
core_label (Aggregation pod j) e = absurd (cc e)
core_label (Core group m) e = (group, m, refl)

-- an aggregation switch below a core switch has the number of its group
in_group : (a c : Label) (pod j group m : ℕ) → a ≡ Aggregation pod j → c ≡ Core group m → IsBelow c a ⊎ IsBelow a c → j ≡ group
in_group a c pod j group m is_a is_c (inl below) = absurd (subst (λ x. IsBelow x (Aggregation pod j)) is_c (subst (λ x. IsBelow c x) is_a below))
in_group a c pod j group m is_a is_c (inr below) = subst (λ x. IsBelow x (Core group m)) is_a (subst (λ x. IsBelow a x) is_c below)

module _ (n : Net) (calm : Calm n) where
  -- ---- ports
  port_to : (s u x : ℕ) (l : AreLinked (fabric n) s u) → (n.view u).place.level ≡ Some x → is_usable_to (n.view s) x l.port ≡ true
  port_to s u x l level =
      and_from (is_usable (n.view s) l.port) (is_known (place_at (n.view s) l.port).level x) (port_usable n calm s u l)
      (is_known_of (place_at (n.view s) l.port).level x (ap (λ (p : Place). p.level) (place_of_port n calm s l.port u l.by) ∙ level))

  to_switch : (s x p : ℕ) → is_usable_to (n.view s) x p ≡ true → (u : ℕ) × LeadsBy (fabric n) s p u × ((n.view u).place.level ≡ Some x)
  to_switch s x p h =
      let both = and_parts (is_usable (n.view s) p) (is_known (place_at (n.view s) p).level x) h in
      let at = usable_leads n calm s p both.0 in
      (at.0, at.1, sym (ap (λ (q : Place). q.level) (place_of_port n calm s p at.0 at.1)) ∙ known_is (place_at (n.view s) p).level x both.1)

  within_k : (s u : ℕ) (l : AreLinked (fabric n) s u) → l.port < (n.view s).k
  within_k s u l = subst (λ k. l.port < k) (sym (calm.size s (here n calm s u l))) (port_here n calm s u l)

  -- two aggregation switches of one pod below one core switch are one
  pub one_below : (c u a x : ℕ) → AreLinked (fabric n) c u → AreLinked (fabric n) c a → label_level (label_of n.plan.k c) ≡ 2 → (n.view u).place.level ≡ Some 1 →
      (n.view a).place.level ≡ Some 1 → (n.view u).place.pod ≡ Some x → (n.view a).place.pod ≡ Some x → u ≡ a
  one_below c u a x to_u to_a two level_u level_a pod_u pod_a =
      let k = n.plan.k in
      let core = core_label (label_of k c) two in
      let one = upper_label (label_of k u) (sym ((calm.own u).level 1 level_u)) in
      let other = upper_label (label_of k a) (sym ((calm.own a).level 1 level_a)) in
      let i = in_group (label_of k u) (label_of k c) one.0 one.1 core.0 core.1 one.2 core.2 (adjacent_labels n.plan c to_u.port u to_u.by.into calm.is to_u.by.adjacent) in
      let j = in_group (label_of k a) (label_of k c) other.0 other.1 core.0 core.1 other.2 core.2 (adjacent_labels n.plan c to_a.port a to_a.by.into calm.is to_a.by.adjacent) in
      let pods : Some one.0 ≡ Some other.0 = sym (ap pod_of one.2) ∙ calm.one_pod u a x pod_u pod_a ∙ ap pod_of other.2 in
      let pod : one.0 ≡ other.0 = cc pods in
      same_label k u a (one.2 ∙ ap (λ p. Aggregation p one.1) pod ∙ ap (Aggregation other.0) (i ∙ sym j) ∙ sym other.2)

  -- a switch that is linked to two edge switches of one position
  one_position : (a u t x : ℕ) → AreLinked (fabric n) a u → AreLinked (fabric n) a t → (n.view u).place.level ≡ Some 0 → (n.view t).place.level ≡ Some 0 →
      (n.view u).place.position ≡ Some x → (n.view t).place.position ≡ Some x → u ≡ t
  one_position a u t x to_u to_t level_u level_t at_u at_t =
      let k = n.plan.k in
      let zero_u : label_level (label_of k u) ≡ 0 = sym ((calm.own u).level 0 level_u) in
      let zero_t : label_level (label_of k t) ≡ 0 = sym ((calm.own t).level 0 level_t) in
      let one = edge_label (label_of k u) zero_u in
      let other = edge_label (label_of k t) zero_t in
      let p = (near_edge (label_of k a) (label_of k u) (adjacent_labels n.plan a to_u.port u to_u.by.into calm.is to_u.by.adjacent) zero_u).1 in
      let q = (near_edge (label_of k a) (label_of k t) (adjacent_labels n.plan a to_t.port t to_t.by.into calm.is to_t.by.adjacent) zero_t).1 in
      calm.positions one.0 one.1 other.1 x u t one.2 (one_edge_pod one.0 one.1 other.0 other.1 (label_of k u) (label_of k t) one.2 other.2 (sym p ∙ q)) at_u at_t

  -- an aggregation switch that is linked to an edge switch which knows its pod knows it too
  pub pod_above : (s u x : ℕ) → AreLinked (fabric n) s u → (n.view s).place.level ≡ Some 0 → (n.view s).place.pod ≡ Some x → (n.view u).place.level ≡ Some 1 →
      (own : ℕ) × ((n.view u).place.pod ≡ Some own)
  pod_above s u x l level of_pod above = by (n.view u).place.pod refl
    where
      by : (o : Option ℕ) → (n.view u).place.pod ≡ o → (own : ℕ) × ((n.view u).place.pod ≡ Some own)
      by (Some own) e = (own, e)
      by None e =
          let other = back n calm s u l in
          let place = place_of_port n calm u other.port s other.by in
          absurd ((calm.full u (there n calm s u l)).up other.port x above (ap (λ (p : Place). p.level) place ∙ level) (ap (λ (p : Place). p.pod) place ∙ of_pod) e)

  module _ (to : Pmac) (t : ℕ) (home : IsHome n to t) where
    -- ---- up
    up_port : (s u x : ℕ) (l : AreLinked (fabric n) s u) → (n.view u).place.level ≡ Some x → leads_to n.told to.pod (n.view t).id (n.view u).id ≡ true →
        leads_up (n.view s) x to l.port ≡ true
    up_port s u x l level leads =
        let free = not_avoided n calm to t home s (n.view u).id (here n calm s u l) leads in
        and_from (is_usable_to (n.view s) x l.port) (not (is_avoided (n.view s) (id_at (n.view s) l.port) to.pod to.position)) (port_to s u x l level)
        (not_from_false (is_avoided (n.view s) (id_at (n.view s) l.port) to.pod to.position)
        (ap (λ o. is_avoided (n.view s) o to.pod to.position) (id_of_port n calm s l.port u l.by) ∙ free))

    up_switch : (s x y p : ℕ) → (n.view s).place.level ≡ Some x → is_level_above (Some x) (Some y) ≡ true → (t ≡ s → ⊥) → is_sent_down n.told (n.view s).id to.pod ≡ false →
        leads_up (n.view s) y to p ≡ true →
        (u : ℕ) × LeadsBy (fabric n) s p u × ((n.view u).place.level ≡ Some y) × (leads_to n.told to.pod (n.view t).id (n.view u).id ≡ true)
    up_switch s x y p level above other not_down h =
        let both = and_parts (is_usable_to (n.view s) y p) (not (is_avoided (n.view s) (id_at (n.view s) p) to.pod to.position)) h in
        let at = to_switch s y p both.0 in
        let free = not-true (is_avoided (n.view s) (id_at (n.view s) p) to.pod to.position) both.1 in
        let linked : AreLinked (fabric n) s at.0 = record { port = p; by = at.1 } in (
          at.0,
          at.1,
          at.2,
          leads_unless n calm to t home s at.0 x y linked level at.2 above other not_down
              (subst (λ o. is_avoided (n.view s) o to.pod to.position ≡ false) (id_of_port n calm s p at.0 at.1) free),
        )

    -- ---- the edge switch where a frame begins
    pub edge_goes_on : (s own first : ℕ) → (n.view s).place.level ≡ Some 0 → (n.view s).place.pod ≡ Some own → is_local (n.view s) to ≡ false →
        AreLinked (fabric n) s first → LeadsDown (fabric n) to.pod t first → HasPortOn (fabric n) (n.view s) s to FromHost (LeadsDown (fabric n) to.pod t)
    edge_goes_on s own first level of_pod elsewhere l leads = record {
      port = l.port;
      within = within_k s first l;
      there = table l.port ∙ and_from (not (is_local (n.view s) to)) (leads_up (n.view s) 1 to l.port) (not_from_false (is_local (n.view s) to) elsewhere)
          (up_port s first 1 l (at_one leads) (down_leads n calm to.pod t home.within first (there n calm s first l) leads));
      each = λ p h.
          let up = (and_parts (not (is_local (n.view s) to)) (leads_up (n.view s) 1 to p) (sym (table p) ∙ h)).1 in
          let at = up_switch s 0 1 p level refl other not_down up in
          let linked : AreLinked (fabric n) s at.0 = record { port = p; by = at.1 } in
          let pod = pod_above s at.0 own linked level of_pod at.2 in
          (at.0, at.1, leads_is_down n calm to.pod t home.within at.0 pod.0 (there n calm s at.0 linked) at.2 pod.1 at.3);
    }
      where
        table : (p : ℕ) → is_candidate (n.view s) to FromHost p ≡ (not (is_local (n.view s) to) && leads_up (n.view s) 1 to p)
        table p = at_edge (n.view s).place.level (leads_from_edge (n.view s) to FromHost p) (leads_from_aggregation (n.view s) to FromHost p)
            (leads_from_core (n.view s) to FromHost p) level

        at_one : LeadsDown (fabric n) to.pod t first → (n.view first).place.level ≡ Some 1
        at_one (inl last) = last.level
        at_one (inr up) = up.level

        other : t ≡ s → ⊥
        other same = true≢false (sym home.local ∙ ap (λ x. is_local (n.view x) to) same ∙ elsewhere)

        not_down : is_sent_down n.told (n.view s).id to.pod ≡ false
        not_down = and_left (has_level n.told (n.view s).id 1) (has_pod n.told (n.view s).id to.pod)
            (known_other (place_of n.told (n.view s).id).level 0 1 (ap (λ (p : Place). p.level) (calm.places s (here n calm s first l)) ∙ level) (λ e. absurd (cc e)))

    -- ---- an aggregation switch of the addressed pod, from below or from above
    home_port : (a p : ℕ) → IsLast (fabric n) to.pod t a → leads_to_position (n.view a) to p ≡ true → (u : ℕ) × LeadsBy (fabric n) a p u × (u ≡ t)
    home_port a p last h =
        let both = and_parts (is_usable_to (n.view a) 0 p) (is_known (place_at (n.view a) p).position to.position) h in
        let at = to_switch a 0 p both.0 in
        let linked : AreLinked (fabric n) a at.0 = record { port = p; by = at.1 } in
        let position = sym (ap (λ (q : Place). q.position) (place_of_port n calm a p at.0 at.1)) ∙ known_is (place_at (n.view a) p).position to.position both.1 in
        (at.0, at.1, one_position a at.0 t to.position linked last.linked at.2 home.level position home.position)

    position_port : (a : ℕ) (last : IsLast (fabric n) to.pod t a) → leads_to_position (n.view a) to last.linked.port ≡ true
    position_port a last =
        and_from (is_usable_to (n.view a) 0 last.linked.port) (is_known (place_at (n.view a) last.linked.port).position to.position)
        (port_to a t 0 last.linked home.level)
        (is_known_of (place_at (n.view a) last.linked.port).position to.position
        (ap (λ (q : Place). q.position) (place_of_port n calm a last.linked.port t last.linked.by) ∙ home.position))

    pub last_goes_up_and_down : (a : ℕ) → IsLast (fabric n) to.pod t a → HasPortOn (fabric n) (n.view a) a to FromBelow (λ u. u ≡ t)
    last_goes_up_and_down a last = record {
      port = last.linked.port;
      within = within_k a t last.linked;
      there = table last.linked.port ∙ position_port a last;
      each = λ p h. home_port a p last (sym (table p) ∙ h);
    }
      where
        table : (p : ℕ) → is_candidate (n.view a) to FromBelow p ≡ leads_to_position (n.view a) to p
        table p = at_aggregation (n.view a).place.level (leads_from_edge (n.view a) to FromBelow p) (leads_from_aggregation (n.view a) to FromBelow p)
            (leads_from_core (n.view a) to FromBelow p) last.level
            ∙ ap (λ b. cond b (leads_to_position (n.view a) to p) (leads_up (n.view a) 2 to p)) (is_known_of (n.view a).place.pod to.pod last.pod_is)

    pub last_goes_down : (a : ℕ) → IsLast (fabric n) to.pod t a → HasPortOn (fabric n) (n.view a) a to FromAbove (λ u. u ≡ t)
    last_goes_down a last = record {
      port = last.linked.port;
      within = within_k a t last.linked;
      there = table last.linked.port ∙ position_port a last;
      each = λ p h. home_port a p last (sym (table p) ∙ h);
    }
      where
        table : (p : ℕ) → is_candidate (n.view a) to FromAbove p ≡ leads_to_position (n.view a) to p
        table p = at_aggregation (n.view a).place.level (leads_from_edge (n.view a) to FromAbove p) (leads_from_aggregation (n.view a) to FromAbove p)
            (leads_from_core (n.view a) to FromAbove p) last.level
            ∙ ap (λ b. b && leads_to_position (n.view a) to p) (is_known_of (n.view a).place.pod to.pod last.pod_is)

    -- ---- an aggregation switch of another pod
    pub first_goes_on : (a : ℕ) → IsOfOtherPod (fabric n) to.pod t a → HasPortOn (fabric n) (n.view a) a to FromBelow (IsTop (fabric n) to.pod t)
    first_goes_on a first = record {
      port = first.linked.port;
      within = within_k a first.top first.linked;
      there = table first.linked.port ∙ up_port a first.top 2 first.linked first.is_top.level
          (top_leads n calm to.pod t home.within first.top (there n calm a first.top first.linked) first.is_top);
      each = λ p h.
          let at = up_switch a 1 2 p first.level refl other not_down (sym (table p) ∙ h) in
          let linked : AreLinked (fabric n) a at.0 = record { port = p; by = at.1 } in
          (at.0, at.1, leads_is_top n calm to.pod t home.within at.0 (there n calm a at.0 linked) at.2 at.3);
    }
      where
        elsewhere : is_known (n.view a).place.pod to.pod ≡ false
        elsewhere = known_other (n.view a).place.pod first.own to.pod first.pod_is first.another

        table : (p : ℕ) → is_candidate (n.view a) to FromBelow p ≡ leads_up (n.view a) 2 to p
        table p = at_aggregation (n.view a).place.level (leads_from_edge (n.view a) to FromBelow p) (leads_from_aggregation (n.view a) to FromBelow p)
            (leads_from_core (n.view a) to FromBelow p) first.level
            ∙ ap (λ b. cond b (leads_to_position (n.view a) to p) (leads_up (n.view a) 2 to p)) elsewhere

        other : t ≡ a → ⊥
        other same = level_differs (n.view a).place.level 0 1 (ap (λ x. (n.view x).place.level) (sym same) ∙ home.level) first.level (λ e. absurd (cc e))

        not_down : is_sent_down n.told (n.view a).id to.pod ≡ false
        not_down = and_right (has_level n.told (n.view a).id 1) (has_pod n.told (n.view a).id to.pod)
            (known_other (place_of n.told (n.view a).id).pod first.own to.pod (ap (λ (p : Place). p.pod) (calm.places a (here n calm a first.top first.linked)) ∙ first.pod_is) first.another)

    -- ---- a core switch
    pub top_goes_on : (c : ℕ) → IsTop (fabric n) to.pod t c → HasPortOn (fabric n) (n.view c) c to FromBelow (IsLast (fabric n) to.pod t)
    top_goes_on c top = record {
      port = top.linked.port;
      within = within_k c top.last top.linked;
      there = table top.linked.port
          ∙ and_from (is_usable_to (n.view c) 1 top.linked.port) (is_known (place_at (n.view c) top.linked.port).pod to.pod) (port_to c top.last 1 top.linked top.is_last.level)
          (is_known_of (place_at (n.view c) top.linked.port).pod to.pod
          (ap (λ (q : Place). q.pod) (place_of_port n calm c top.linked.port top.last top.linked.by) ∙ top.is_last.pod_is));
      each = λ p h.
          let both = and_parts (is_usable_to (n.view c) 1 p) (is_known (place_at (n.view c) p).pod to.pod) (sym (table p) ∙ h) in
          let at = to_switch c 1 p both.0 in
          let linked : AreLinked (fabric n) c at.0 = record { port = p; by = at.1 } in
          let pod = sym (ap (λ (q : Place). q.pod) (place_of_port n calm c p at.0 at.1)) ∙ known_is (place_at (n.view c) p).pod to.pod both.1 in
          let same = one_below c at.0 top.last to.pod linked top.linked (sym ((calm.own c).level 2 top.level)) at.2 top.is_last.level pod top.is_last.pod_is in
          (at.0, at.1, subst (IsLast (fabric n) to.pod t) (sym same) top.is_last);
    }
      where
        table : (p : ℕ) → is_candidate (n.view c) to FromBelow p ≡ leads_to_pod (n.view c) to p
        table p = at_core (n.view c).place.level (leads_from_edge (n.view c) to FromBelow p) (leads_from_aggregation (n.view c) to FromBelow p)
            (leads_from_core (n.view c) to FromBelow p) top.level
