-- The manager hears a word while no report is missing: the numbers of pods stay apart, and below how many pods there are.
use Rattle.std.proofs.Common.{◌≡◌, ◌⊎◌, ◌≤◌, ◌<◌, ◌+◌, ◌==◌, ◌||◌, ℕ, zero, suc, Bool, true, false, cond, List, [], ◌∷◌, map, Option, Some, None, option_map, find, slice_get, refl, sym, ap, subst, ◌∙◌, inl, inr, arith, eqb-true, eq-eqb}
use Rattle.std.specs.List.{AllByRecursion, IsDistinct, list_any, range_with_len}
use Rattle.std.proofs.lemmas.Bool.{cases_Bool, cases_eq, cases_lt, false≢true, or_cases}
use Rattle.std.proofs.lemmas.List.FromFn.{length-range_with_len}
use Rattle.std.proofs.lemmas.Option.{get_or_from_slice_get, none-some, same_Some, slice_get-get_or}
use Rattle.pl_lemmas.proofs.Exports.{enough}
use Rattle.pl_frame.specs.declared.address.SwitchId.{SwitchId}
use Rattle.pl_frame.proofs.Exports.{same_id}
use Rattle.pl_layouts.specs.declared.place.Place.{Place}
use Rattle.pl_layouts.specs.Equality.{same_switch}
use Rattle.pl_layouts.specs.Placement.{is_known}
use Rattle.pl_layouts.proofs.Exports.{known_is}
use Rattle.pl_wiring.specs.declared.label.Label.{Label}
use Rattle.pl_wiring.specs.declared.label.Label.TheVariants.{Edge}
use Rattle.pl_wiring.specs.Labels.{IsLabel, label_of, switch_count}
use Rattle.pl_wiring.specs.Plan.{IsPlan}
use Rattle.pl_wiring.proofs.Exports.{half_at_least, label_of-IsLabel}
use Rattle.pl_node.specs.declared.pod_given.PodGiven.{PodGiven}
use Rattle.pl_node.specs.ManagerViews.{Told, first_free, is_given_pod, is_taken, is_told_pod, pod_given}
use Rattle.pl_manager_rule.specs.ManagerRule.{with_asker, with_place}
use Rattle.pl_manager_rule.proofs.Exports.{asks_again, asks_first, first_is_free, number_stays, own_number}
use Rattle.pl_law_control_plane.specs.ControlPlanes.{ControlPlane}
use Rattle.pl_law_places.specs.Places.{ArePlaced}
use Rattle.pl_law_votes.specs.Voting.{FixedAreApart}
use Rattle.pl_law_pods.specs.Apart.{KnowsNone, NumbersApart}
use Rattle.pl_law_pods.specs.Numbering.{GivesApart, IsGivenPod, IsToldPlace, own_pods}
use Rattle.pl_law_pods.specs.Pods.{id_of}
use Rattle.pl_law_pods.proofs.Acting.{own_is, own_some}
use Rattle.pl_law_pods.proofs.Apart.{asked_apart, placed_apart}
use Rattle.pl_law_pods.proofs.NumbersGiven.{all_inserted}
use Rattle.pl_law_pods.proofs.StepsKeepPods.{edge_label, edge_there, level_zero}

in_range : (a n p : ℕ) → a ≤ p → p < a + n → list_any (λ r. r == p) (range_with_len a n) ≡ true
in_range a zero p low high = absurd (omega (arith, low, high))
in_range a (suc n) p low high = elim (cases_eq a p) [
  | inl same ↦ ap (λ b. b || list_any (λ r. r == p) (range_with_len (a + 1) n)) (eq-eqb a p same)
  | inr other ↦ elim (cases_Bool (a == p)) [
    | inl is ↦ absurd (other (eqb-true a p is))
    | inr not_here ↦ ap (λ b. b || list_any (λ r. r == p) (range_with_len (a + 1) n)) not_here
        ∙ in_range (a + 1) n p (above a p low other) (omega (arith, high))
  ]
]
  where
    above : (x y : ℕ) → x ≤ y → (x ≡ y → ⊥) → x + 1 ≤ y
    above x y le ne = elim (cases_lt x y) [ inl lt ↦ omega (arith, lt) | inr ge ↦ absurd (ne (omega (arith, le, ge))) ]

-- one that was given a number is another switch than one that stands before it
apart_from : (g : PodGiven) (pods : List PodGiven) (id : SwitchId) →
    AllByRecursion (λ t. same_switch g.switch t ≡ false) (map (λ (q : PodGiven). q.switch) pods) → (n : ℕ) →
    pod_given pods id ≡ Some n → same_switch g.switch id ≡ false
apart_from g [] id none n given = absurd (none-some n given)
apart_from g (q ∷ pods) id none n given = by (λ found. apart_from g pods id none.1 n found) (same_switch q.switch id) refl given
  where
    by : (pod_given pods id ≡ Some n → same_switch g.switch id ≡ false) → (b : Bool) → same_switch q.switch id ≡ b →
        option_map (λ (r : PodGiven). r.pod) (cond b (Some q) (find (λ (r : PodGiven). same_switch r.switch id) pods)) ≡ Some n →
        same_switch g.switch id ≡ false
    by rest true same found = subst (λ t. same_switch g.switch t ≡ false) (same_id q.switch id (eqb-true q.switch.0 id.0 same)) none.0
    by rest false other found = rest found

-- of one that was given none
none_same : (pods : List PodGiven) (id : SwitchId) → pod_given pods id ≡ None →
    AllByRecursion (λ t. same_switch id t ≡ false) (map (λ (q : PodGiven). q.switch) pods)
none_same [] id none = tt
none_same (q ∷ pods) id none = by (λ rest. none_same pods id rest) (same_switch q.switch id) refl none
  where
    turned : (a b : ℕ) → (a == b) ≡ false → (b == a) ≡ false
    turned a b apart = elim (cases_Bool (b == a)) [
      | inl same ↦ absurd (false≢true (sym apart ∙ eq-eqb a b (sym (eqb-true b a same))))
      | inr other ↦ other
    ]

    by : (pod_given pods id ≡ None → AllByRecursion (λ t. same_switch id t ≡ false) (map (λ (r : PodGiven). r.switch) pods)) → (b : Bool) →
        same_switch q.switch id ≡ b →
        option_map (λ (r : PodGiven). r.pod) (cond b (Some q) (find (λ (r : PodGiven). same_switch r.switch id) pods)) ≡ None →
        (same_switch id q.switch ≡ false) × AllByRecursion (λ t. same_switch id t ≡ false) (map (λ (r : PodGiven). r.switch) pods)
    by rest true same given = absurd (cc given)
    by rest false other given = (turned q.switch.0 id.0 other, rest given)

module _ (f : ControlPlane) (is : IsPlan f.plan) (placed : ArePlaced f.plan f) (apart : FixedAreApart f.plan f.view) where
  abbrev knows : ℕ → Option ℕ
  knows = own_pods f.view

  -- an edge switch with position 0 is a switch of the wiring
  pub zero_named : (s : ℕ) → (f.view s).place.position ≡ Some 0 → slice_get f.plan.ids s ≡ Some (id_of f.plan s)
  zero_named s position =
      let edge = edge_label f is placed apart s (level_zero f is placed apart s 0 position) in
      let there : s < switch_count f.plan.k = edge_there f.plan.k s edge.0 edge.1 edge.2 in
      let many = is.ids_many in
      slice_get-get_or f.plan.ids s (record { 0 = 0 }) (omega (arith, there, many))

  pub knower_named : (s n : ℕ) → knows s ≡ Some n → slice_get f.plan.ids s ≡ Some (id_of f.plan s)
  knower_named s n known = zero_named s (own_is (f.view s).place n known).0

  -- a number of the edge switch with position 0 of pod p: it knows it, or was given it
  record HasNumber (pods : List PodGiven) (n p : ℕ) : Type 0 where
    zero_switch : ℕ
    i : ℕ
    edge : label_of f.plan.k zero_switch ≡ Edge p i
    position : (f.view zero_switch).place.position ≡ Some 0
    number : (knows zero_switch ≡ Some n) ⊎ (pod_given pods (id_of f.plan zero_switch) ≡ Some n)

  one_number : (told : Told) (pods : List PodGiven) → NumbersApart (id_of f.plan) knows told pods → (m n p : ℕ) → HasNumber pods m p → HasNumber pods n p →
      m ≡ n
  one_number told pods numbers m n p a b =
      let same : a.zero_switch ≡ b.zero_switch = apart p a.i b.i 0 a.zero_switch b.zero_switch a.edge b.edge a.position b.position in
      let given : pod_given pods (id_of f.plan a.zero_switch) ≡ pod_given pods (id_of f.plan b.zero_switch) = ap (λ z. pod_given pods (id_of f.plan z)) same in
      elim a.number [
        | inl x ↦ elim b.number [ inl y ↦ same_Some m n (sym x ∙ ap knows same ∙ y) | inr y ↦ numbers.one a.zero_switch m n x (given ∙ y) ]
        | inr x ↦ elim b.number [ inl y ↦ sym (numbers.one b.zero_switch n m y (sym given ∙ x)) | inr y ↦ same_Some m n (sym x ∙ given ∙ y) ]
      ]

  edge_pod : (label : Label) (p i : ℕ) → IsLabel f.plan.k label → label ≡ Edge p i → p < f.plan.k
  edge_pod label p i fits same = (subst (λ (l : Label). IsLabel f.plan.k l) same fits).0

  -- so there are no more numbers than pods
  few_numbers : (told : Told) (pods : List PodGiven) → NumbersApart (id_of f.plan) knows told pods → (many : ℕ) →
      ((n : ℕ) → n < many → (p : ℕ) × HasNumber pods n p) → many ≤ f.plan.k
  few_numbers told pods numbers many each =
      let half = half_at_least f.plan.k is.arity in
      let within = enough (HasNumber pods) (one_number told pods numbers) many (range_with_len 0 f.plan.k) (λ n less.
      let it = each n less in
      let there = edge_there f.plan.k it.1.zero_switch it.0 it.1.i it.1.edge in
      let pod : it.0 < f.plan.k =
      edge_pod (label_of f.plan.k it.1.zero_switch) it.0 it.1.i (label_of-IsLabel f.plan.k it.1.zero_switch (omega (arith, half)) there) it.1.edge in
      (it.0, it.1, in_range 0 f.plan.k it.0 (omega arith) (omega (arith, pod)))) in
      let long = length-range_with_len 0 f.plan.k in
      omega (arith, within, long)

  -- a pod that stands in a place told is one that its pod's edge switch with position 0 knows
  told_number : (pods : List PodGiven) (places : List (SwitchId × Place)) → AllByRecursion (IsToldPlace f.plan f.view) places → (n : ℕ) →
      list_any (λ (p : SwitchId × Place). is_known p.1.pod n) places ≡ true → (p : ℕ) × HasNumber pods n p
  told_number pods [] all n stands = absurd (false≢true stands)
  told_number pods (p ∷ places) all n stands = elim (cases_Bool (is_known p.1.pod n)) [
    | inr other ↦ told_number pods places all.1 n (sym (ap (λ b. b || list_any (λ (q : SwitchId × Place). is_known q.1.pod n) places) other) ∙ stands)
    | inl own ↦
        let lowest = placed.pods all.0.switch n (all.0.pod n (known_is p.1.pod n own)) in (
          lowest.1.pod,
          record {
            zero_switch = lowest.0;
            i = lowest.1.i;
            edge = lowest.1.edge;
            position = lowest.1.position;
            number = inl (own_some (f.view lowest.0).place n lowest.1.position lowest.1.number);
          },
        )
  ]

  -- one that was given is of a switch with position 0
  record IsGivenTo (pods : List PodGiven) (n : ℕ) : Type 0 where
    switch : ℕ
    id : SwitchId
    named : slice_get f.plan.ids switch ≡ Some id
    position : (f.view switch).place.position ≡ Some 0
    given : pod_given pods id ≡ Some n

  given_to : (pods : List PodGiven) → IsDistinct same_switch (map (λ (g : PodGiven). g.switch) pods) → AllByRecursion (IsGivenPod f.plan f.view) pods →
      (n : ℕ) →
      is_given_pod pods n ≡ true → IsGivenTo pods n
  unfolding IsDistinct
  given_to [] once all n given = absurd (false≢true given)
  given_to (g ∷ pods) once all n given = elim (cases_Bool (g.pod == n)) [
    | inl own ↦ record {
      switch = all.0.switch;
      id = g.switch;
      named = all.0.named;
      position = all.0.position;
      given =
          ap (λ b. option_map (λ (q : PodGiven). q.pod) (cond b (Some g) (find (λ (q : PodGiven). same_switch q.switch g.switch) pods)))
          (eq-eqb g.switch.0 g.switch.0 refl)
          ∙ ap Some (eqb-true g.pod n own);
    }
    | inr other ↦
        let it = given_to pods once.1 all.1 n (sym (ap (λ b. b || is_given_pod pods n) other) ∙ given) in
        record {
          switch = it.switch;
          id = it.id;
          named = it.named;
          position = it.position;
          given = ap (λ b. option_map (λ (q : PodGiven). q.pod) (cond b (Some g) (find (λ (q : PodGiven). same_switch q.switch it.id) pods)))
              (apart_from g pods it.id once.0 n it.given) ∙ it.given;
        }
  ]

  number_of : (pods : List PodGiven) (n : ℕ) (s : ℕ) (id : SwitchId) → slice_get f.plan.ids s ≡ Some id → (f.view s).place.position ≡ Some 0 →
      pod_given pods id ≡ Some n →
      (p : ℕ) × HasNumber pods n p
  number_of pods n s id named position given =
      let edge = edge_label f is placed apart s (level_zero f is placed apart s 0 position) in (
        edge.0,
        record {
          zero_switch = s;
          i = edge.1;
          edge = edge.2;
          position = position;
          number = inr (ap (λ x. pod_given pods x) (get_or_from_slice_get f.plan.ids s id (record { 0 = 0 }) named) ∙ given);
        },
      )

  module _ (told : Told) (pods : List PodGiven) (gives : GivesApart f.plan f.view told pods) (s : ℕ) (id : SwitchId)
      (named : slice_get f.plan.ids s ≡ Some id) where
    own_id : id_of f.plan s ≡ id
    own_id = get_or_from_slice_get f.plan.ids s id (record { 0 = 0 }) named

    -- ---- a switch with position 0 that knows no number asks
    module _ (position : (f.view s).place.position ≡ Some 0) (unknown : knows s ≡ None) (one_switch : (t : ℕ) → slice_get f.plan.ids t ≡ Some id → t ≡ s) where
      knows_none : KnowsNone (id_of f.plan) knows id
      knows_none t n known same =
          let at : slice_get f.plan.ids t ≡ Some id = knower_named t n known ∙ ap Some (same_id (id_of f.plan t) id same) in
          let here = sym (ap knows (one_switch t at)) ∙ known in
          none-some n (sym unknown ∙ here)

      numbers_then : NumbersApart (id_of f.plan) knows told (with_asker told pods id)
      numbers_then = asked_apart (id_of f.plan) knows told pods gives.apart id (λ first. knows_none)

      next_below : pod_given pods id ≡ None → first_free told pods < f.plan.k
      next_below none =
          let few = few_numbers told (with_asker told pods id) numbers_then (first_free told pods + 1) (λ n less. each n less) in
          omega (arith, few)
        where
          before : (n : ℕ) → (p : ℕ) × HasNumber pods n p → (p : ℕ) × HasNumber (with_asker told pods id) n p
          before n it = (
            it.0,
            record {
              zero_switch = it.1.zero_switch;
              i = it.1.i;
              edge = it.1.edge;
              position = it.1.position;
              number = elim it.1.number [
                | inl known ↦ inl known
                | inr given ↦ inr (number_stays told pods id (id_of f.plan it.1.zero_switch) n given)
              ];
            },
          )

          taken : (n : ℕ) → is_taken told pods n ≡ true → (p : ℕ) × HasNumber pods n p
          taken n is_so = elim (or_cases (is_told_pod told n) (is_given_pod pods n) is_so) [
            | inl stands ↦ told_number pods told.places gives.places n stands
            | inr was ↦ (let it = given_to pods gives.once gives.given n was in number_of pods n it.switch it.id it.named it.position it.given)
          ]

          each : (n : ℕ) → n < first_free told pods + 1 → (p : ℕ) × HasNumber (with_asker told pods id) n p
          each n less = elim (cases_eq n (first_free told pods)) [
            | inl last ↦ number_of (with_asker told pods id) n s id named position (own_number told pods id none ∙ ap Some (sym last))
            | inr other ↦ before n (taken n ((first_is_free told pods).smallest n (omega (arith, less, other))))
          ]

      pub asked_gives : GivesApart f.plan f.view told (with_asker told pods id)
      unfolding IsDistinct
      asked_gives = by (pod_given pods id) refl
        where
          by : (o : Option ℕ) → pod_given pods id ≡ o → GivesApart f.plan f.view told (with_asker told pods id)
          by (Some n) has = subst (GivesApart f.plan f.view told) (sym (asks_again told pods id n has)) gives
          by None none = record {
            apart = numbers_then;
            once = subst (λ (gs : List PodGiven). IsDistinct same_switch (map (λ (g : PodGiven). g.switch) gs)) (sym (asks_first told pods id none))
                (none_same pods id none, gives.once);
            given = subst (AllByRecursion (IsGivenPod f.plan f.view)) (sym (asks_first told pods id none))
                (record { switch = s; named = named; position = position; below = next_below none }, gives.given);
            places = gives.places;
          }

    -- ---- a switch tells its place
    pub placed_gives : (place : Place) → ((n : ℕ) → place.pod ≡ Some n → (f.view s).place.pod ≡ Some n) →
        ((n : ℕ) → knows s ≡ Some n → (place.pod ≡ Some n) ⊎ (pod_given pods id ≡ Some n)) → ((t : ℕ) → slice_get f.plan.ids t ≡ Some id → t ≡ s) →
        GivesApart f.plan f.view (with_place told id place) pods
    placed_gives place own again one_switch = record {
      apart = placed_apart (id_of f.plan) knows told pods gives.apart id place (λ t n known same.
          let there = knower_named t n known in
          let at : slice_get f.plan.ids t ≡ Some id = there ∙ ap Some (same_id (id_of f.plan t) id same) in
          let here = one_switch t at in
          elim (again n (sym (ap knows here) ∙ known)) [
            | inl has ↦ inl has
            | inr given ↦ inr (ap (λ x. pod_given pods (id_of f.plan x)) here ∙ ap (pod_given pods) own_id ∙ given)
          ]);
      once = gives.once;
      given = gives.given;
      places = all_inserted (IsToldPlace f.plan f.view) told.places id place (record { switch = s; named = named; pod = own }) gives.places;
    }
