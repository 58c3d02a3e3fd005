-- A frame on its route that is passed on by a candidate goes on by a route.
use Rattle.std.proofs.Common.{◌≡◌, ℕ, ◌||◌, not, Bool, true, false, List, ◌∷◌, Option, None, Some, is_some, refl, sym, ap, ◌∙◌, subst, inl, inr}
use Rattle.std.proofs.lemmas.Bool.{and_parts, both_ways, cases_Bool, cond-false, cond-true, eq-eqb, false≢true}
use Rattle.pl_lemmas.proofs.Exports.{some_number}
use Rattle.pl_pmac.specs.declared.pmac.Pmac.{Pmac}
use Rattle.pl_wiring.specs.declared.label.Label.TheVariants.{Aggregation, Core, Edge}
use Rattle.pl_wiring.specs.declared.label.SwitchNo.{SwitchNo}
use Rattle.pl_wiring.specs.declared.link.Peer.TheVariants.{Switch}
use Rattle.pl_wiring.specs.Labels.{label_of}
use Rattle.pl_wiring.specs.Peers.{peer_of}
use Rattle.pl_wiring.specs.Plan.{IsPlan, Plan}
use Rattle.pl_wiring.proofs.Exports.{same_label}
use Rattle.pl_layouts.specs.declared.place.Place.{Place}
use Rattle.pl_layouts.specs.Placement.{is_known, is_placed}
use Rattle.pl_layouts.proofs.Exports.{known_is}
use Rattle.pl_journal.specs.Flights.{level_of}
use Rattle.pl_node.specs.PortRecords.{is_usable, is_usable_to, place_at}
use Rattle.pl_node.specs.SwitchFacts.{is_avoided}
use Rattle.pl_node.specs.SwitchViews.{SwitchView}
use Rattle.pl_switch_rule.specs.declared.came.Came.{Came}
use Rattle.pl_switch_rule.specs.declared.came.Came.TheVariants.{FromAbove, FromBelow}
use Rattle.pl_switch_rule.specs.Forwarding.{came_between, came_by, is_candidate, leads_from_aggregation, leads_from_core, leads_from_edge, leads_to_pod, leads_to_position, leads_up}
use Rattle.pl_law_flights.specs.Routes.{IsOfOtherPod, Route}
use Rattle.pl_law_flights.specs.Routes.Route.{Climbs, Enters, Falls, Leaves, Turns}
use Rattle.pl_law_flights.specs.Standing.{KnowsNeighbours, KnowsPlaces}
use Rattle.pl_law_flights.proofs.Legs.{level_at}
use Rattle.pl_law_counts.proofs.Exports.{Rung, rung}
use Rattle.pl_law_counts.proofs.Exports.Rung.{DownFromCore, DownToEdge, UpFromEdge, UpToCore}

or_none : (b : Bool) → (b || false) ≡ true → b ≡ true
or_none true is = refl
or_none false is = is

-- two known levels
pub record Levels (own other : Option ℕ) (came : Came) : Type 0 where
  pub low : ℕ
  pub high : ℕ
  pub knows_own : own ≡ Some low
  pub knows_other : other ≡ Some high
  pub came_so : came_between (Some low) (Some high) ≡ Some came

pub levels : (own other : Option ℕ) (came : Came) → came_between own other ≡ Some came → Levels own other came
levels None other came is = absurd (cc)
levels (Some n) None came is = absurd (cc)
levels (Some n) (Some m) came is = record { low = n; high = m; knows_own = refl; knows_other = refl; came_so = is }

module _ (plan : Plan) (place : ℕ → Place) (t : ℕ) (v : SwitchView) (is_plan : IsPlan plan) (places : KnowsPlaces plan.k place)
    (knows : KnowsNeighbours plan place t v) (to : Pmac) (p : ℕ) (u : SwitchNo) (r : ℕ) (peer : peer_of plan t p ≡ Switch u r) where
  -- the neighbour at the port has this level
  level_there : (n : ℕ) → is_usable_to v n p ≡ true → level_of plan.k u.0 ≡ n
  level_there n is = places.level u.0 n (knows.level p u r n peer (known_is _ n ((and_parts (is_usable v p) (is_known (place_at v p).level n) is).1)))

  record IsAtEdge : Type 0 where
    level : level_of plan.k u.0 ≡ 0
    position : (place u.0).position ≡ Some to.position

  at_edge : leads_to_position v to p ≡ true → IsAtEdge
  at_edge is =
      let parts = and_parts (is_usable_to v 0 p) (is_known (place_at v p).position to.position) is in
      record { level = level_there 0 parts.0; position = knows.position p u r to.position peer (known_is _ to.position parts.1) }

  record IsInPod : Type 0 where
    level : level_of plan.k u.0 ≡ 1
    pod : (place u.0).pod ≡ Some to.pod

  in_pod : leads_to_pod v to p ≡ true → IsInPod
  in_pod is =
      let parts = and_parts (is_usable_to v 1 p) (is_known (place_at v p).pod to.pod) is in
      record { level = level_there 1 parts.0; pod = knows.pod p u r to.pod peer (known_is _ to.pod parts.1) }

  up_there : (n : ℕ) → leads_up v n to p ≡ true → level_of plan.k u.0 ≡ n
  up_there n is = level_there n ((and_parts (is_usable_to v n p) (not (is_avoided v _ to.pod to.position)) is).0)

  -- down from an aggregation switch
  edge_below : (q j : ℕ) → label_of plan.k t ≡ Aggregation q j → level_of plan.k u.0 ≡ 0 → (x : ℕ) × (label_of plan.k u.0 ≡ Edge q x)
  edge_below q j at_t low = by_rung (rung plan is_plan t p u r peer)
    where
      by_rung : Rung plan.k t u.0 → (x : ℕ) × (label_of plan.k u.0 ≡ Edge q x)
      by_rung (UpFromEdge a i b at_s at_u) = absurd (cc)
      by_rung (UpToCore a b m at_s at_u) = (let two = level_at plan.k u.0 _ at_u in absurd (cc))
      by_rung (DownFromCore a b m at_s at_u) = absurd (cc)
      by_rung (DownToEdge a i b at_s at_u) = (i, cc)

  core_above : (q j : ℕ) → label_of plan.k t ≡ Aggregation q j → level_of plan.k u.0 ≡ 2 → (m : ℕ) × (label_of plan.k u.0 ≡ Core j m)
  core_above q j at_t high = by_rung (rung plan is_plan t p u r peer)
    where
      by_rung : Rung plan.k t u.0 → (m : ℕ) × (label_of plan.k u.0 ≡ Core j m)
      by_rung (UpFromEdge a i b at_s at_u) = absurd (cc)
      by_rung (UpToCore a b m at_s at_u) = (m, cc)
      by_rung (DownFromCore a b m at_s at_u) = absurd (cc)
      by_rung (DownToEdge a i b at_s at_u) = (let none = level_at plan.k u.0 _ at_u in absurd (cc))

  below_core : (j m : ℕ) → label_of plan.k t ≡ Core j m → (q : ℕ) × (label_of plan.k u.0 ≡ Aggregation q j)
  below_core j m at_t = by_rung (rung plan is_plan t p u r peer)
    where
      by_rung : Rung plan.k t u.0 → (q : ℕ) × (label_of plan.k u.0 ≡ Aggregation q j)
      by_rung (UpFromEdge a i b at_s at_u) = absurd (cc)
      by_rung (UpToCore a b m at_s at_u) = absurd (cc)
      by_rung (DownFromCore a b m at_s at_u) = (a, cc)
      by_rung (DownToEdge a i b at_s at_u) = absurd (cc)

  above_edge : (q i : ℕ) → label_of plan.k t ≡ Edge q i → (j : ℕ) × (label_of plan.k u.0 ≡ Aggregation q j)
  above_edge q i at_t = by_rung (rung plan is_plan t p u r peer)
    where
      by_rung : Rung plan.k t u.0 → (j : ℕ) × (label_of plan.k u.0 ≡ Aggregation q j)
      by_rung (UpFromEdge a x b at_s at_u) = (b, cc)
      by_rung (UpToCore a b m at_s at_u) = absurd (cc)
      by_rung (DownFromCore a b m at_s at_u) = absurd (cc)
      by_rung (DownToEdge a x b at_s at_u) = absurd (cc)

  -- which row of candidates it is
  from_aggregation : (came : Came) → v.place.level ≡ Some 1 → is_candidate v to came p ≡ true → leads_from_aggregation v to came p ≡ true
  from_aggregation came level is = rw level at is

  from_core : (came : Came) → v.place.level ≡ Some 2 → is_candidate v to came p ≡ true → leads_from_core v to came p ≡ true
  from_core came level is = rw level at is

  from_edge : (came : Came) → v.place.level ≡ Some 0 → is_candidate v to came p ≡ true → leads_from_edge v to came p ≡ true
  from_edge came level is = sym (cond-true (is_known v.place.level 0) (leads_from_edge v to came p) _ (ap (λ o. is_known o 0) level)) ∙ is

  pod_known : v.place.level ≡ Some 1 → is_placed v.place ≡ true → (x : ℕ) × (v.place.pod ≡ Some x)
  pod_known level placed = some_number v.place.pod (or_none (is_some v.place.pod) (rw level at placed))

  module _ (s q port : ℕ) (came : Came) (from : peer_of plan t q ≡ Switch (record { 0 = s }) port) (by : came_by v q ≡ Some came)
      (placed : is_placed v.place ≡ true) (leads : is_candidate v to came p ≡ true) where
    both : Levels v.place.level (place_at v q).level came
    both = levels v.place.level (place_at v q).level came by

    own_level : level_of plan.k t ≡ both.low
    own_level = places.level t both.low (subst (λ (w : Place). w.level ≡ Some both.low) knows.own both.knows_own)

    other_level : level_of plan.k s ≡ both.high
    other_level = places.level s both.high (knows.level q (record { 0 = s }) port both.high from both.knows_other)

    came_is : (n m : ℕ) → level_of plan.k t ≡ n → level_of plan.k s ≡ m → came_between (Some n) (Some m) ≡ Some came
    came_is n m at_t at_s =
        let one : both.low ≡ n = sym own_level ∙ at_t in
        let two : both.high ≡ m = sym other_level ∙ at_s in
        subst (λ a. came_between (Some a) (Some m) ≡ Some came) one (subst (λ b. came_between (Some both.low) (Some b) ≡ Some came) two both.came_so)

    level_is : (n : ℕ) → level_of plan.k t ≡ n → v.place.level ≡ Some n
    level_is n at_t = both.knows_own ∙ ap Some (sym own_level ∙ at_t)

    here : (x : ℕ) → v.place.pod ≡ Some x → (place t).pod ≡ Some x
    here x is = subst (λ (w : Place). w.pod ≡ Some x) knows.own is

    candidate_from : (c : Came) → came ≡ c → is_candidate v to c p ≡ true
    candidate_from c is = subst (λ d. is_candidate v to d p ≡ true) is leads

    pub passes_on : (leg : List ℕ) → Route plan.k place to leg s t → Route plan.k place to (t ∷ leg) t u.0
    passes_on leg (Climbs a i j at_s at_t is elsewhere) =
        let one = level_at plan.k t _ at_t in
        let below : came ≡ FromBelow = (let c = came_is 1 0 one (level_at plan.k s _ at_s) in cc) in
        let row = from_aggregation FromBelow (level_is 1 one) (candidate_from FromBelow below) in
        elim (cases_Bool (is_known v.place.pod to.pod)) [
          | inl own ↦
              let down = at_edge (sym (cond-true (is_known v.place.pod to.pod) (leads_to_position v to p) (leads_up v 2 to p) own) ∙ row) in
              let u_is = edge_below a j at_t down.level in
              let pod : (place t).pod ≡ Some to.pod = here to.pod (known_is v.place.pod to.pod own) in
              let another : s ≡ u.0 → ⊥ = λ same. elsewhere.another
              (places.one_pod s t a i j elsewhere.pod to.pod at_s at_t elsewhere.knows_pod pod)
              (let there : (place s).position ≡ Some to.position = subst (λ n. (place n).position ≡ Some to.position) (sym same) down.position in
              let mine = elsewhere.knows_position in cc) in
              Turns s a i j u_is.0 at_s at_t u_is.1 (ap (λ l. t ∷ l) is) another pod down.position
          | inr other ↦
              let up = up_there 2 (sym (cond-false (is_known v.place.pod to.pod) (leads_to_position v to p) (leads_up v 2 to p) other) ∙ row) in
              let u_is = core_above a j at_t up in
              let pod = pod_known (level_is 1 one) placed in
              let away : IsOfOtherPod (place t) to = record {
                pod = pod.0;
                knows = here pod.0 pod.1;
                another = λ same. both_ways (is_known v.place.pod to.pod) other (ap (λ o. is_known o to.pod) pod.1 ∙ eq-eqb pod.0 to.pod same);
              } in
              Leaves s a i j u_is.0 at_s at_t u_is.1 (ap (λ l. t ∷ l) is) away
        ]
    passes_on leg (Leaves e a i j m at_e at_s at_t is away) =
        let two = level_at plan.k t _ at_t in
        let below : came ≡ FromBelow = (let c = came_is 2 1 two (level_at plan.k s _ at_s) in cc) in
        let down = in_pod (from_core FromBelow (level_is 2 two) (candidate_from FromBelow below)) in
        let u_is = below_core j m at_t in
        Falls e s a i j m u_is.0 at_e at_s at_t u_is.1 (ap (λ l. t ∷ l) is) away down.pod
    passes_on leg (Falls e a b i j m q at_e at_a at_s at_t is away there) =
        let one = level_at plan.k t _ at_t in
        let above : came ≡ FromAbove = (let c = came_is 1 2 one (level_at plan.k s _ at_s) in cc) in
        let row = from_aggregation FromAbove (level_is 1 one) (candidate_from FromAbove above) in
        let down = at_edge ((and_parts (is_known v.place.pod to.pod) (leads_to_position v to p) row).1) in
        let u_is = edge_below q j at_t down.level in
        let pods : b ≡ q → ⊥ = λ same. (let one : a ≡ t = same_label plan.k a t (at_a ∙ ap (λ n. Aggregation n j) same ∙ sym at_t) in
        let mine : (place t).pod ≡ Some away.pod = subst (λ n. (place n).pod ≡ Some away.pod) one away.knows in
        away.another (cc)) in
        Enters e a s b i j m q u_is.0 at_e at_a at_s at_t u_is.1 (ap (λ l. t ∷ l) is) pods there down.position
    passes_on leg (Turns e a i j x at_e at_s at_t is other pod position) =
        let none = level_at plan.k t _ at_t in
        let above : came ≡ FromAbove = (let c = came_is 0 1 none (level_at plan.k s _ at_s) in cc) in
        absurd (false≢true (from_edge FromAbove (level_is 0 none) (candidate_from FromAbove above)))
    passes_on leg (Enters e a c b i j m q x at_e at_a at_c at_s at_t is pods pod position) =
        let none = level_at plan.k t _ at_t in
        let above : came ≡ FromAbove = (let c = came_is 0 1 none (level_at plan.k s _ at_s) in cc) in
        absurd (false≢true (from_edge FromAbove (level_is 0 none) (candidate_from FromAbove above)))
