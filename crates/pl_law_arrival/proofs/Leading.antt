-- The manager finds that a switch leads on to an edge switch exactly where a way leads down to it.
use Rattle.std.proofs.Common.{◌≡◌, ℕ, ◌<◌, ◌&&◌, Bool, true, false, cond, Some, refl, sym, ap, ◌∙◌, subst, inl, inr}
use Rattle.std.specs.List.{list_any}
use Rattle.std.proofs.lemmas.Bool.{and_from, and_parts}
use Rattle.pl_frame.specs.declared.address.SwitchId.{SwitchId}
use Rattle.pl_layouts.specs.declared.place.Place.{Place}
use Rattle.pl_layouts.proofs.Exports.{is_known_of, known_is}
use Rattle.pl_wiring.specs.Labels.{switch_count}
use Rattle.pl_node.specs.AvoidLists.{aggregation_leads_to, core_leads_to, leads_to}
use Rattle.pl_node.specs.ManagerViews.{alive_at_level, alive_neighbours, has_level, has_pod, is_alive, is_told_usable, neighbours, place_of}
use Rattle.pl_node.proofs.Exports.{among_filter, among_filtered, any_among, IsAmong, member_passes}
use Rattle.pl_manager_rule.proofs.Exports.{near_usable}
use Rattle.pl_law_arrival.specs.Ways.{AreLinked, IsLast, IsTop, LeadsDown}
use Rattle.pl_law_arrival.proofs.ArrivalLemmas.{known_other, not_both, up_at_one, up_at_two}
use Rattle.pl_law_arrival.proofs.Calm.{Calm, Net, alive_leads, fabric, there, told_alive}

module _ (n : Net) (calm : Calm n) where
  abbrev id : ℕ → SwitchId
  id s = (n.view s).id

  told_level : (s x : ℕ) → s < switch_count n.plan.k → (n.view s).place.level ≡ Some x → has_level n.told (id s) x ≡ true
  told_level s x within e = is_known_of (place_of n.told (id s)).level x (ap (λ (p : Place). p.level) (calm.places s within) ∙ e)

  told_pod : (s x : ℕ) → s < switch_count n.plan.k → (n.view s).place.pod ≡ Some x → has_pod n.told (id s) x ≡ true
  told_pod s x within e = is_known_of (place_of n.told (id s)).pod x (ap (λ (p : Place). p.pod) (calm.places s within) ∙ e)

  told_no_pod : (s x y : ℕ) → s < switch_count n.plan.k → (n.view s).place.pod ≡ Some x → (x ≡ y → ⊥) → has_pod n.told (id s) y ≡ false
  told_no_pod s x y within e differ = known_other (place_of n.told (id s)).pod x y (ap (λ (p : Place). p.pod) (calm.places s within) ∙ e) differ

  level_told : (s x : ℕ) → s < switch_count n.plan.k → has_level n.told (id s) x ≡ true → (n.view s).place.level ≡ Some x
  level_told s x within h = sym (ap (λ (p : Place). p.level) (calm.places s within)) ∙ known_is (place_of n.told (id s)).level x h

  pod_told : (s x : ℕ) → s < switch_count n.plan.k → has_pod n.told (id s) x ≡ true → (n.view s).place.pod ≡ Some x
  pod_told s x within h = sym (ap (λ (p : Place). p.pod) (calm.places s within)) ∙ known_is (place_of n.told (id s)).pod x h

  -- switches over live links, by level
  among_alive : (s t x : ℕ) → AreLinked (fabric n) s t → (n.view t).place.level ≡ Some x → IsAmong (id t) (alive_at_level n.told (id s) x)
  among_alive s t x l e =
      let alive = told_alive n calm s t l in
      among_filtered (λ u. has_level n.told u x) (id t) (alive_neighbours n.told (id s))
      (among_filtered (is_alive n.told (id s)) (id t) (neighbours n.told (id s))
      (near_usable n.told (id s) (id t) (and_parts (is_told_usable n.told (id s) (id t)) (is_told_usable n.told (id t) (id s)) alive).0) alive)
      (told_level t x (there n calm s t l) e)

  alive_among : (s x : ℕ) (u : SwitchId) → s < switch_count n.plan.k → IsAmong u (alive_at_level n.told (id s) x) →
      (t : ℕ) × AreLinked (fabric n) s t × (id t ≡ u) × ((n.view t).place.level ≡ Some x)
  alive_among s x u within h =
      let level = among_filter (λ v. has_level n.told v x) u (alive_neighbours n.told (id s)) h in
      let alive = among_filter (is_alive n.told (id s)) u (neighbours n.told (id s)) level.0 in
      let at = alive_leads n calm s u within alive.1 in
      (at.0, at.1, at.2, level_told at.0 x (there n calm s at.0 at.1) (subst (λ v. has_level n.told v x ≡ true) (sym at.2) level.1))

  module _ (pod t : ℕ) (within_t : t < switch_count n.plan.k) where
    -- ---- core switches
    pub core_leads : (c : ℕ) → IsTop (fabric n) pod t c → core_leads_to n.told pod (id t) (id c) ≡ true
    core_leads c top =
        let a = top.last in
        let within = there n calm c a top.linked in
        any_among (λ u. has_pod n.told u pod && is_alive n.told u (id t)) (id a) (alive_at_level n.told (id c) 1) (among_alive c a 1 top.linked top.is_last.level)
        (and_from (has_pod n.told (id a) pod) (is_alive n.told (id a) (id t)) (told_pod a pod within top.is_last.pod_is) (told_alive n calm a t top.is_last.linked))

    -- an aggregation switch of the pod whose link to the edge switch is alive
    last_of : (a : ℕ) → a < switch_count n.plan.k → (n.view a).place.level ≡ Some 1 → has_pod n.told (id a) pod ≡ true → is_alive n.told (id a) (id t) ≡ true →
        IsLast (fabric n) pod t a
    last_of a within level of_pod alive =
        let at = alive_leads n calm a (id t) within alive in
        let same = calm.ids at.0 t (there n calm a at.0 at.1) within_t at.2 in
        record { level = level; pod_is = pod_told a pod within of_pod; linked = subst (λ u. AreLinked (fabric n) a u) same at.1 }

    pub core_is_top : (c : ℕ) → c < switch_count n.plan.k → (n.view c).place.level ≡ Some 2 → core_leads_to n.told pod (id t) (id c) ≡ true → IsTop (fabric n) pod t c
    core_is_top c within level leads =
        let a = member_passes (λ u. has_pod n.told u pod && is_alive n.told u (id t)) (alive_at_level n.told (id c) 1) leads in
        let at = alive_among c 1 a.0 within a.1 in
        let both = and_parts (has_pod n.told a.0 pod) (is_alive n.told a.0 (id t)) a.2 in
        record {
          level = level;
          last = at.0;
          linked = at.1;
          is_last = last_of at.0 (there n calm c at.0 at.1) at.3 (subst (λ u. has_pod n.told u pod ≡ true) (sym at.2) both.0)
              (subst (λ u. is_alive n.told u (id t) ≡ true) (sym at.2) both.1);
        }

    -- ---- all of them
    leads_at_one : (a : ℕ) → a < switch_count n.plan.k → (n.view a).place.level ≡ Some 1 → leads_to n.told pod (id t) (id a) ≡ aggregation_leads_to n.told pod (id t) (id a)
    leads_at_one a within level =
        up_at_one (place_of n.told (id a)).level (aggregation_leads_to n.told pod (id t) (id a)) (core_leads_to n.told pod (id t) (id a))
        (ap (λ (p : Place). p.level) (calm.places a within) ∙ level)

    leads_at_two : (c : ℕ) → c < switch_count n.plan.k → (n.view c).place.level ≡ Some 2 → leads_to n.told pod (id t) (id c) ≡ core_leads_to n.told pod (id t) (id c)
    leads_at_two c within level =
        up_at_two (place_of n.told (id c)).level (aggregation_leads_to n.told pod (id t) (id c)) (core_leads_to n.told pod (id t) (id c))
        (ap (λ (p : Place). p.level) (calm.places c within) ∙ level)

    pub top_leads : (c : ℕ) → c < switch_count n.plan.k → IsTop (fabric n) pod t c → leads_to n.told pod (id t) (id c) ≡ true
    top_leads c within top = leads_at_two c within top.level ∙ core_leads c top

    pub leads_is_top : (c : ℕ) → c < switch_count n.plan.k → (n.view c).place.level ≡ Some 2 → leads_to n.told pod (id t) (id c) ≡ true → IsTop (fabric n) pod t c
    leads_is_top c within level leads = core_is_top c within level (sym (leads_at_two c within level) ∙ leads)

    by_pod : (b : Bool) (a : ℕ) → has_pod n.told (id a) pod ≡ b →
        aggregation_leads_to n.told pod (id t) (id a) ≡ cond b (is_alive n.told (id a) (id t)) (list_any (core_leads_to n.told pod (id t)) (alive_at_level n.told (id a) 2))
    by_pod b a e = ap (λ x. cond x (is_alive n.told (id a) (id t)) (list_any (core_leads_to n.told pod (id t)) (alive_at_level n.told (id a) 2))) e

    pub down_leads : (a : ℕ) → a < switch_count n.plan.k → LeadsDown (fabric n) pod t a → leads_to n.told pod (id t) (id a) ≡ true
    down_leads a within (inl last) =
        leads_at_one a within last.level ∙ by_pod true a (told_pod a pod within last.pod_is) ∙ told_alive n calm a t last.linked
    down_leads a within (inr first) =
        leads_at_one a within first.level ∙ by_pod false a (told_no_pod a first.own pod within first.pod_is first.another)
        ∙ any_among (core_leads_to n.told pod (id t)) (id first.top) (alive_at_level n.told (id a) 2) (among_alive a first.top 2 first.linked first.is_top.level) (core_leads first.top first.is_top)

    pub leads_is_down : (a own : ℕ) → a < switch_count n.plan.k → (n.view a).place.level ≡ Some 1 → (n.view a).place.pod ≡ Some own → leads_to n.told pod (id t) (id a) ≡ true →
        LeadsDown (fabric n) pod t a
    leads_is_down a own within level of_pod leads = by (has_pod n.told (id a) pod) refl
      where
        so : aggregation_leads_to n.told pod (id t) (id a) ≡ true
        so = sym (leads_at_one a within level) ∙ leads

        differ : has_pod n.told (id a) pod ≡ false → own ≡ pod → ⊥
        differ none same = not_both (has_pod n.told (id a) pod) (told_pod a pod within (of_pod ∙ ap Some same)) none

        by : (b : Bool) → has_pod n.told (id a) pod ≡ b → LeadsDown (fabric n) pod t a
        by true e = inl (last_of a within level e (sym (by_pod true a e) ∙ so))
        by false e =
            let c = member_passes (core_leads_to n.told pod (id t)) (alive_at_level n.told (id a) 2) (sym (by_pod false a e) ∙ so) in
            let at = alive_among a 2 c.0 within c.1 in
            inr (record {
              level = level;
              own = own;
              pod_is = of_pod;
              another = differ e;
              top = at.0;
              linked = at.1;
              is_top = core_is_top at.0 (there n calm a at.0 at.1) at.3 (subst (λ u. core_leads_to n.told pod (id t) u ≡ true) (sym at.2) c.2);
            })
