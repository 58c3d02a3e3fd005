-- In a pod at rest each edge switch that knows its level has a position: the one with the largest id would have got one.
use Rattle.std.proofs.Common.{◌≡◌, ℕ, zero, suc, ◌+◌, ◌^◌, ◌/◌, ◌<◌, ◌≤◌, ◌==◌, true, true≢false, Option, Some, None, refl, sym, ◌∙◌, ap, subst, arith, inl, inr, ◌⊎◌}
use Rattle.std.specs.List.{list_any}
use Rattle.std.proofs.lemmas.Bool.{cases_eq, cases_lt}
use Rattle.pl_lemmas.proofs.Exports.{enough}
use Rattle.pl_frame.specs.declared.address.SwitchId.{SwitchId}
use Rattle.pl_layouts.specs.declared.place.Place.{Place}
use Rattle.pl_wiring.specs.declared.label.Label.{Label}
use Rattle.pl_wiring.specs.declared.label.Label.TheVariants.{Aggregation, Core, Edge}
use Rattle.pl_wiring.specs.Labels.{IsLabel, label_of}
use Rattle.pl_wiring.specs.Plan.{IsPlan, Plan}
use Rattle.pl_wiring.proofs.Exports.{half_at_least, label_of-number_of, peer_is_switch}
use Rattle.pl_node.specs.PortRecords.{place_at}
use Rattle.pl_node.specs.SwitchFacts.{has_granted}
use Rattle.pl_switch_rule.specs.Positions.{half}
use Rattle.pl_law_control_plane.specs.ControlPlanes.{AreAdjacent, ControlPlane}
use Rattle.pl_law_places.specs.Places.{ArePlaced}
use Rattle.pl_law_votes.specs.Voting.{AreVoting, aggregation_no, edge_no}
use Rattle.pl_law_votes.proofs.Exports.{number_there, same_end}
use Rattle.pl_law_placing.specs.Noting.{AreNoted}
use Rattle.pl_law_placing.specs.Resting.{FirstKnowsPod, HasFirst, HavePositions, ProposalIsAnswered, IsRestingPod, KnowPod}
use Rattle.pl_law_placing.specs.Resting.ProposalIsAnswered.{Counted, Refused}
use Rattle.pl_law_placing.specs.Trying.{AreTrying, HasReason}
use Rattle.pl_law_placing.specs.Trying.HasReason.{IsBehind, IsTaken}
use Rattle.pl_journal.specs.Flights.{label_level}

-- Each of n numbers has a port among these, and no two have one: so there are n of them.

too_large : (a : ℕ) → a < 2 ^ 48 → 2 ^ 48 ≤ a + zero → ⊥
too_large a below large = by (2 ^ 48) below large
  where
    by : (n : ℕ) → a < n → n ≤ a + zero → ⊥
    by n below large = omega (arith, below, large)

more : (m n a b : ℕ) → m ≤ a + suc n → (b < a → ⊥) → (b ≡ a → ⊥) → m ≤ b + n
more m n a b large less same = elim (cases_lt b a) [
  | inl below ↦ absurd (less below)
  | inr above ↦ elim (cases_eq b a) [ inl equal ↦ absurd (same equal) | inr differ ↦ omega (arith, large, above, differ) ]
]

reaches : (a m : ℕ) → m ≤ a + m
reaches a m = omega arith

number_in : Label → ℕ
number_in (Edge pod i) = i
number_in (Aggregation pod j) = j
number_in (Core group m) = m

-- a link from an edge switch of a pod to an aggregation switch of it
record LinkUp (plan : Plan) (pod i j p : ℕ) : Type 0 where
  q : ℕ
  aggregation : IsLabel plan.k (Aggregation pod j)
  adjacent : AreAdjacent plan (edge_no plan.k pod i) p (aggregation_no plan.k pod j) q

module _ (f : ControlPlane) (is : IsPlan f.plan) (placed : ArePlaced f.plan f) (trying : AreTrying f) (noted : AreNoted f) (pod : ℕ) (rests : IsRestingPod f pod)
    (sizes : (i : ℕ) → IsLabel f.plan.k (Edge pod i) → (f.view (edge_no f.plan.k pod i)).k / 2 ≡ f.plan.k / 2) where
  link_up : (i j : ℕ) → IsLabel f.plan.k (Edge pod i) → IsLabel f.plan.k (Aggregation pod j) → (p : ℕ) × LinkUp f.plan pod i j p
  link_up i j edge aggregation =
      let k = f.plan.k in
      let l = is.tree.linked (Edge pod i) (Aggregation pod j) edge aggregation refl in
      let link = l.0 in (
        link.lower_port,
        record {
          q = link.upper_port;
          aggregation = aggregation;
          adjacent = (peer_is_switch f.plan (edge_no k pod i) link.lower_port (record { 0 = aggregation_no k pod j }) link.upper_port is).1
              (l.1.0, link, l.1.1, l.1.2, inl (l.2.0, refl, l.2.1, refl));
        },
      )

  one_up : (i j m p : ℕ) → LinkUp f.plan pod i j p → LinkUp f.plan pod i m p → j ≡ m
  one_up i j m p a b =
      let k = f.plan.k in
      let ends = same_end f.plan is (edge_no k pod i) p (aggregation_no k pod j) a.q (aggregation_no k pod m) b.q a.adjacent b.adjacent in
      let same : Aggregation pod j ≡ Aggregation pod m = sym (label_of-number_of k (Aggregation pod j) a.aggregation) ∙ ap (label_of k) ends.0
      ∙ label_of-number_of k (Aggregation pod m) b.aggregation in
      cc same

  position_or : (o : Option ℕ) → (o ≡ None) ⊎ ((x : ℕ) × (o ≡ Some x))
  position_or None = inl refl
  position_or (Some x) = inr (x, refl)

  -- none of an id so large is without a position
  none_left : (n i : ℕ) → IsLabel f.plan.k (Edge pod i) → (f.view (edge_no f.plan.k pod i)).place.level ≡ Some 0 → 2 ^ 48 ≤ (f.view (edge_no f.plan.k pod i)).id.0 + n →
      (f.view (edge_no f.plan.k pod i)).place.position ≡ None → ⊥
  none_left zero i edge level large none =
      let e = edge_no f.plan.k pod i in
      let named = (placed.sound e (number_there f.plan is (Edge pod i) edge)).named in
      let below = named.1 in
      absurd (too_large (f.view e).id.0 below large)
  none_left (suc n) i edge level large none =
      let k = f.plan.k in let e = edge_no k pod i in let v = f.view e in
      let few = (trying.trying e).few none in
      let many = enough (LinkUp f.plan pod i) (one_up i) (half k) v.granted (λ j below. granted (λ m. none_left n m) j (edge.0, below)) in
      let two = half_at_least k is.arity in
      let size = sizes i edge in
      absurd (omega (arith, few, many, two, size))
    where
      Next : Type 0
      Next = (m : ℕ) → IsLabel f.plan.k (Edge pod m) → (f.view (edge_no f.plan.k pod m)).place.level ≡ Some 0 → 2 ^ 48 ≤ (f.view (edge_no f.plan.k pod m)).id.0 + n →
          (f.view (edge_no f.plan.k pod m)).place.position ≡ None → ⊥

      by : Next → (j : ℕ) → IsLabel f.plan.k (Aggregation pod j) → (p : ℕ) → ProposalIsAnswered (f.view (edge_no f.plan.k pod i)) p (f.view (aggregation_no f.plan.k pod j)) →
          has_granted (f.view (edge_no f.plan.k pod i)) p ≡ true
      by next j aggregation p (Counted is) = is
      by next j aggregation p (Refused hold held unfixed less same) =
          let k = f.plan.k in let e = edge_no k pod i in
          let other = trying.held pod j (f.view e).proposed hold aggregation held in
          let h = edge_no k pod other.i in
          let id : (f.view h).id.0 ≡ hold.edge.0 = ap (λ (x : SwitchId). x.0) other.named in
          let large_h = more (2 ^ 48) n (f.view e).id.0 (f.view h).id.0 large (λ l. less (subst (λ m. m < (f.view e).id.0) id l)) (λ s. same (sym id ∙ s)) in
          elim (position_or (f.view h).place.position) [
            | inl nothing ↦ absurd (next other.i other.edge other.level large_h nothing)
            | inr some ↦
                let up = link_up other.i j other.edge aggregation in
                let link = rests other.i j up.0 up.1.q other.edge aggregation up.1.adjacent in
                let marked = (noted pod other.i j up.0 up.1.q other.edge aggregation up.1.adjacent).marked some.0 (f.view e).proposed hold
                (ap (λ (x : Place). x.position) link.told_up ∙ some.1) held (sym id) in
                absurd (true≢false (sym marked ∙ unfixed))
          ]

      granted : Next → (j : ℕ) → IsLabel f.plan.k (Aggregation pod j) →
          (p : ℕ) × LinkUp f.plan pod i j p × (list_any (λ r. r == p) (f.view (edge_no f.plan.k pod i)).granted ≡ true)
      granted next j aggregation =
          let up = link_up i j edge aggregation in
          let link = rests i j up.0 up.1.q edge aggregation up.1.adjacent in
          (up.0, up.1, by next j aggregation up.0 (link.answered level none))

  pub have_positions : HavePositions f pod
  have_positions i edge level = elim (position_or (f.view (edge_no f.plan.k pod i)).place.position) [
    | inl none ↦ absurd (none_left (2 ^ 48) i edge level (reaches (f.view (edge_no f.plan.k pod i)).id.0 (2 ^ 48)) none)
    | inr some ↦ some
  ]

  -- The edge switch with the smallest id did not go on from position 0, or another one has it.
  module _ (voting : AreVoting f) where
    first_step : (i : ℕ) → IsLabel f.plan.k (Edge pod i) → (f.view (edge_no f.plan.k pod i)).place.level ≡ Some 0 →
        ((j : ℕ) → IsLabel f.plan.k (Edge pod j) → (f.view (edge_no f.plan.k pod j)).place.level ≡ Some 0 →
        (f.view (edge_no f.plan.k pod j)).id.0 < (f.view (edge_no f.plan.k pod i)).id.0 → HasFirst f pod) → HasFirst f pod
    first_step i edge level next = elim (cases_lt 1 (f.view (edge_no f.plan.k pod i)).attempt) [
      | inl more_than_one ↦ by (trying.reasons pod i edge more_than_one)
      | inr one ↦
          let k = f.plan.k in let e = edge_no k pod i in
          let begun = (placed.sound e (number_there f.plan is (Edge pod i) edge)).able.begun in
          let at_first : (f.view e).attempt ≡ 1 = omega (arith, begun, one) in
          let some = have_positions i edge level in
          let two = half_at_least k is.arity in
          let zeroth : 0 < k / 2 = omega (arith, two) in
          let up = link_up i 0 edge (edge.0, zeroth) in
          let pair = voting.pairs pod i 0 up.0 up.1.q edge (edge.0, zeroth) up.1.adjacent in
          (i, edge, some.1 ∙ ap Some (pair.fixed some.0 some.1 ∙ (trying.trying e).first at_first))
    ]
      where
        by : HasReason f.plan.k f.view pod (f.view (edge_no f.plan.k pod i)).id → HasFirst f pod
        by (IsTaken j other position) = (j, other, position)
        by (IsBehind j other level_j less) = next j other level_j less

    first_by : (n i : ℕ) → IsLabel f.plan.k (Edge pod i) → (f.view (edge_no f.plan.k pod i)).place.level ≡ Some 0 → (f.view (edge_no f.plan.k pod i)).id.0 ≤ n → HasFirst f pod
    first_by zero i edge level small = first_step i edge level (λ j other level_j less. absurd (omega (arith, small, less)))
    first_by (suc n) i edge level small = first_step i edge level (λ j other level_j less. first_by n j other level_j (omega (arith, small, less)))

    pub has_first : (i : ℕ) → IsLabel f.plan.k (Edge pod i) → (f.view (edge_no f.plan.k pod i)).place.level ≡ Some 0 → HasFirst f pod
    has_first i edge level = let own = (f.view (edge_no f.plan.k pod i)).id.0 in first_by own i edge level (omega arith)

    -- it tells the pod to the aggregation switches, and they tell the others
    pub know_pod : FirstKnowsPod f pod → KnowPod f pod
    know_pod first_knows i edge level =
        let k = f.plan.k in
        let two = half_at_least k is.arity in
        let zeroth : 0 < k / 2 = omega (arith, two) in
        let aggregation : IsLabel k (Aggregation pod 0) = (edge.0, zeroth) in
        let a = aggregation_no k pod 0 in
        let lowest = has_first i edge level in
        let z = edge_no k pod lowest.0 in
        let number = first_knows lowest.0 lowest.1 lowest.2 in
        let up = link_up lowest.0 0 lowest.1 aggregation in
        let link = rests lowest.0 0 up.0 up.1.q lowest.1 aggregation up.1.adjacent in
        let full_a = (placed.sound a (number_there f.plan is (Aggregation pod 0) aggregation)).full in
        let told_level : (place_at (f.view a) up.1.q).level ≡ Some 0 = ap (λ (x : Place). x.level) link.told_up ∙ ((placed.own z).position 0 lowest.2).0 in
        let told_pod : (place_at (f.view a) up.1.q).pod ≡ Some number.0 = ap (λ (x : Place). x.pod) link.told_up ∙ number.1 in
        let level_is = level_of_it aggregation (full_a.one up.1.q told_level) in
        let pod_is = known (f.view a).place.pod (full_a.up up.1.q number.0 level_is told_level told_pod) in
        let down = link_up i 0 edge aggregation in
        let back = rests i 0 down.0 down.1.q edge aggregation down.1.adjacent in
        let full_e = (placed.sound (edge_no k pod i) (number_there f.plan is (Edge pod i) edge)).full in
        known (f.view (edge_no k pod i)).place.pod
        (full_e.down down.0 pod_is.0 level (ap (λ (x : Place). x.level) back.told_down ∙ level_is) (ap (λ (x : Place). x.pod) back.told_down ∙ pod_is.1))
      where
        known : (o : Option ℕ) → (o ≡ None → ⊥) → (n : ℕ) × (o ≡ Some n)
        known None some = absurd (some refl)
        known (Some n) some = (n, refl)

        level_of_it : IsLabel f.plan.k (Aggregation pod 0) → ((f.view (aggregation_no f.plan.k pod 0)).place.level ≡ None → ⊥) → (f.view (aggregation_no f.plan.k pod 0)).place.level ≡ Some 1
        level_of_it aggregation some =
            let a = aggregation_no f.plan.k pod 0 in
            let level = known (f.view a).place.level some in
            level.1 ∙ ap Some ((placed.own a).level level.0 level.1 ∙ ap label_level (label_of-number_of f.plan.k (Aggregation pod 0) aggregation))
