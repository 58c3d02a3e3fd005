-- A switch avoids a neighbour above it for an address exactly where no way leads down from there.
use Rattle.std.proofs.Common.{◌≡◌, ℕ, ◌<◌, ◌==◌, ◌&&◌, Bool, true, false, Some, refl, sym, ap, ◌∙◌, subst, eqb-true, eq-eqb}
use Rattle.std.proofs.lemmas.Bool.{and_from, and_parts}
use Rattle.pl_frame.specs.declared.address.SwitchId.{SwitchId}
use Rattle.pl_pmac.specs.declared.pmac.Pmac.{Pmac}
use Rattle.pl_layouts.specs.declared.place.Place.{Place}
use Rattle.pl_layouts.specs.Placement.{is_known}
use Rattle.pl_layouts.proofs.Exports.{known_is}
use Rattle.pl_wiring.specs.declared.label.Label.{Label}
use Rattle.pl_wiring.specs.declared.label.Label.TheVariants.{Aggregation, Core, Edge}
use Rattle.pl_wiring.specs.Labels.{label_of, switch_count}
use Rattle.pl_node.specs.AvoidLists.{avoid_list, is_above, is_level_above, is_sent_down, leads_to}
use Rattle.pl_node.specs.ManagerViews.{is_told_usable, place_of}
use Rattle.pl_node.specs.SwitchFacts.{is_avoided}
use Rattle.pl_node.specs.SwitchViews.{SwitchView}
use Rattle.pl_node.proofs.Exports.{among_of_Contains, any_among, Contains-of_among, IsAmong, member_passes}
use Rattle.pl_manager_rule.proofs.Exports.{avoided_is_listed, listed_is_avoided, near_usable, same_is}
use Rattle.pl_switch_rule.specs.Granting.{is_local}
use Rattle.pl_law_places.specs.Known.{pod_of}
use Rattle.pl_law_arrival.specs.Ways.{AreLinked}
use Rattle.pl_law_arrival.proofs.ArrivalLemmas.{differ_not_same, not_both}
use Rattle.pl_law_arrival.proofs.Calm.{Calm, Net, fabric, here, there, told_alive}
use Rattle.pl_journal.specs.Flights.{label_level}

-- an entry of a list, and the test for it
entry_is : (x : SwitchId × ℕ × ℕ) (u : SwitchId) (pod position : ℕ) → ((x.0.0 == u.0) && ((x.1 == pod) && (x.2 == position))) ≡ true → x ≡ (u, pod, position)
entry_is x u pod position h =
    let one = and_parts (x.0.0 == u.0) ((x.1 == pod) && (x.2 == position)) h in
    let two = and_parts (x.1 == pod) (x.2 == position) one.1 in
    let first = same_is x.0 u one.0 in
    let second = eqb-true x.1 pod two.0 in
    let third = eqb-true x.2 position two.1 in
    λ i. (first i, second i, third i)

avoided_among : (v : SwitchView) (u : SwitchId) (pod position : ℕ) → is_avoided v (Some u) pod position ≡ true → IsAmong (u, pod, position) v.avoid
avoided_among v u pod position h =
    let at = member_passes (λ a. (a.0.0 == u.0) && ((a.1 == pod) && (a.2 == position))) v.avoid h in
    subst (λ x. IsAmong x v.avoid) (entry_is at.0 u pod position at.2) at.1

among_avoided : (v : SwitchView) (u : SwitchId) (pod position : ℕ) → IsAmong (u, pod, position) v.avoid → is_avoided v (Some u) pod position ≡ true
among_avoided v u pod position h =
    any_among (λ a. (a.0.0 == u.0) && ((a.1 == pod) && (a.2 == position))) (u, pod, position) v.avoid h
    (and_from (u.0 == u.0) ((pod == pod) && (position == position)) (eq-eqb u.0 u.0 refl)
    (and_from (pod == pod) (position == position) (eq-eqb pod pod refl) (eq-eqb position position refl)))

-- the label of an edge switch
pub edge_label : (label : Label) → label_level label ≡ 0 → (pod i : ℕ) × (label ≡ Edge pod i)
edge_label (Edge pod i) e = (pod, i, refl)
edge_label (Aggregation pod j) e = absurd (cc e)
edge_label (Core group m) e = absurd (cc e)

pub one_edge_pod : (pod i other j : ℕ) (a b : Label) → a ≡ Edge pod i → b ≡ Edge other j → pod_of a ≡ pod_of b → b ≡ Edge pod j
one_edge_pod pod i other j a b is_a is_b same =
    let pods : Some pod ≡ Some other = sym (ap pod_of is_a) ∙ same ∙ ap pod_of is_b in
    let one : other ≡ pod = cc (pods) in
    is_b ∙ ap (λ p. Edge p j) one

-- edge switch t has the pod and the position of an address
pub record IsHome (n : Net) (to : Pmac) (t : ℕ) : Type 0 where
  pub within : t < switch_count n.plan.k
  pub local : is_local (n.view t) to ≡ true
  pub level : (n.view t).place.level ≡ Some 0
  pub pod : (n.view t).place.pod ≡ Some to.pod
  pub position : (n.view t).place.position ≡ Some to.position

pub home_of : (n : Net) (to : Pmac) (t : ℕ) → t < switch_count n.plan.k → is_local (n.view t) to ≡ true → IsHome n to t
home_of n to t within local =
    let place = (n.view t).place in
    let one = and_parts (is_known place.level 0) (is_known place.pod to.pod && is_known place.position to.position) local in
    let two = and_parts (is_known place.pod to.pod) (is_known place.position to.position) one.1 in
    record {
      within = within;
      local = local;
      level = known_is place.level 0 one.0;
      pod = known_is place.pod to.pod two.0;
      position = known_is place.position to.position two.1;
    }

module _ (n : Net) (calm : Calm n) (to : Pmac) (t : ℕ) (home : IsHome n to t) where
  -- no other switch told that place
  one_home : (s : ℕ) → (n.view s).place ≡ record { level = Some 0; position = Some to.position; pod = Some to.pod } → s ≡ t
  one_home s is =
      let level : (n.view s).place.level ≡ Some 0 = ap (λ (p : Place). p.level) is in
      let a = edge_label (label_of n.plan.k s) (sym ((calm.own s).level 0 level)) in
      let b = edge_label (label_of n.plan.k t) (sym ((calm.own t).level 0 home.level)) in
      let pods = calm.one_pod s t to.pod (ap (λ (p : Place). p.pod) is) home.pod in
      calm.positions a.0 a.1 b.1 to.position s t a.2 (one_edge_pod a.0 a.1 b.0 b.1 (label_of n.plan.k s) (label_of n.plan.k t) a.2 b.2 pods)
      (ap (λ (p : Place). p.position) is) home.position

  -- a switch is not avoided where it leads on
  pub not_avoided : (s : ℕ) (u : SwitchId) → s < switch_count n.plan.k → leads_to n.told to.pod (n.view t).id u ≡ true →
      is_avoided (n.view s) (Some u) to.pod to.position ≡ false
  not_avoided s u within leads = by (is_avoided (n.view s) (Some u) to.pod to.position) refl
    where
      never : is_avoided (n.view s) (Some u) to.pod to.position ≡ true → ⊥
      never h =
          let among = subst (λ list. IsAmong (u, to.pod, to.position) list) (calm.avoids s within) (avoided_among (n.view s) u to.pod to.position h) in
          let avoids = listed_is_avoided n.told (n.view s).id (u, to.pod, to.position) (Contains-of_among (u, to.pod, to.position) (avoid_list n.told (n.view s).id) among) in
          let at = calm.known avoids.edge 0 (ap (λ (p : Place). p.level) avoids.placed) in
          let place = sym (calm.places at.0 at.1) ∙ ap (place_of n.told) at.2 ∙ avoids.placed in
          let same : (n.view t).id ≡ avoids.edge = sym (ap (λ x. (n.view x).id) (one_home at.0 place)) ∙ at.2 in
          not_both (leads_to n.told to.pod (n.view t).id u) leads (subst (λ x. leads_to n.told to.pod x u ≡ false) (sym same) avoids.cut)

      by : (b : Bool) → is_avoided (n.view s) (Some u) to.pod to.position ≡ b → b ≡ false
      by true h = absurd (never h)
      by false h = refl

  -- and where it is not avoided it leads on, if it is a neighbour above
  pub leads_unless : (s u x y : ℕ) → AreLinked (fabric n) s u → (n.view s).place.level ≡ Some x → (n.view u).place.level ≡ Some y → is_level_above (Some x) (Some y) ≡ true →
      (t ≡ s → ⊥) → is_sent_down n.told (n.view s).id to.pod ≡ false → is_avoided (n.view s) (Some (n.view u).id) to.pod to.position ≡ false →
      leads_to n.told to.pod (n.view t).id (n.view u).id ≡ true
  leads_unless s u x y l level_s level_u above other not_down free = by (leads_to n.told to.pod (n.view t).id (n.view u).id) refl
    where
      within : s < switch_count n.plan.k
      within = here n calm s u l

      is_up : is_above n.told (n.view s).id (n.view u).id ≡ true
      is_up =
          let low = ap (λ (p : Place). p.level) (calm.places s within) ∙ level_s in
          let high = ap (λ (p : Place). p.level) (calm.places u (there n calm s u l)) ∙ level_u in
          ap (λ o. is_level_above o (place_of n.told (n.view u).id).level) low ∙ ap (is_level_above (Some x)) high ∙ above

      placed : place_of n.told (n.view t).id ≡ record { level = Some 0; position = Some to.position; pod = Some to.pod }
      placed = calm.places t home.within ∙ (λ i. record { level = home.level i; position = home.position i; pod = home.pod i })

      avoided : leads_to n.told to.pod (n.view t).id (n.view u).id ≡ false → is_avoided (n.view s) (Some (n.view u).id) to.pod to.position ≡ true
      avoided cut =
          let alive = told_alive n calm s u l in
          let usable = (and_parts (is_told_usable n.told (n.view s).id (n.view u).id) (is_told_usable n.told (n.view u).id (n.view s).id) alive).0 in
          let list = avoided_is_listed n.told (n.view s).id ((n.view u).id, to.pod, to.position) (record {
            neighbour = Contains-of_among (n.view u).id _ (near_usable n.told (n.view s).id (n.view u).id usable);
            above = is_up;
            edge = (n.view t).id;
            placed = placed;
            another = differ_not_same (n.view t).id (n.view s).id (λ same. other (calm.ids t s home.within within same));
            not_down = not_down;
            cut = cut;
          }) in
          among_avoided (n.view s) (n.view u).id to.pod to.position
          (subst (λ l. IsAmong ((n.view u).id, to.pod, to.position) l) (sym (calm.avoids s within)) (among_of_Contains ((n.view u).id, to.pod, to.position) _ list))

      by : (b : Bool) → leads_to n.told to.pod (n.view t).id (n.view u).id ≡ b → b ≡ true
      by true h = refl
      by false h = absurd (not_both (is_avoided (n.view s) (Some (n.view u).id) to.pod to.position) (avoided h) free)
