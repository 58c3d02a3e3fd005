-- The table of what a proposal that is sent again would change says what the rows of proposals and votes say.
use Rattle.std.proofs.Common.{◌≡◌, ◌↔◌, ◌≤◌, ℕ, suc, ◌+◌, ◌*◌, ◌/◌, ◌%◌, ◌<◌, ◌==◌, ◌&&◌, ◌||◌, not, nat_lt, Bool, true, false, true≢false, cond, if◌then◌else◌, List, [], ◌∷◌, length, get_or, set, Option, Some, None, option_map, is_none, Ordering, Less, Equal, Greater, nat_cmp, refl, sym, ◌∙◌, ap, subst, arith, inl, inr, eqb-true, eq-eqb, ne_eqb, ltb-true, get_or-set_same, get_or-set_other, slice_get}
use Rattle.std.specs.List.{AllByRecursion, list_any}
use Rattle.std.specs.BTreeSet.{insert_key}
use Rattle.std.specs.Ordering.{match_ordering}
use Rattle.std.proofs.lemmas.Bool.{cases_Bool, or_from, or_parts}
use Rattle.std.proofs.lemmas.Cmp.{ranked}
use Rattle.std.proofs.lemmas.List.{set-get_or}
use Rattle.std.proofs.lemmas.Option.{none-some, same_Some, slice_get-get_or, slice_get_within}
use Rattle.pl_lemmas.proofs.Exports.{all_found, and_turned}
use Rattle.pl_wiring.specs.declared.label.Label.{Label}
use Rattle.pl_wiring.specs.declared.label.Label.TheVariants.{Aggregation, Core, Edge}
use Rattle.pl_wiring.specs.Labels.{IsLabel, label_of, number_of, switch_count}
use Rattle.pl_wiring.proofs.Exports.{half_at_least, label_of-IsLabel, number_of-label_of}
use Rattle.pl_frame.specs.declared.address.SwitchId.{SwitchId}
use Rattle.pl_layouts.specs.declared.control.Proposal.{Proposal}
use Rattle.pl_layouts.specs.declared.control.Vote.{Vote}
use Rattle.pl_layouts.specs.Placement.{is_known}
use Rattle.pl_layouts.specs.Votes.{counts}
use Rattle.pl_node.specs.declared.switch_records.Hold.{Hold}
use Rattle.pl_node.specs.declared.acts.Act.{Act}
use Rattle.pl_node.specs.Accounting.{IsShaped}
use Rattle.pl_node.specs.PortRecords.{is_usable_to, place_at}
use Rattle.pl_node.specs.SwitchFacts.{has_granted, hold_at, holder_and_mark, holder_of, is_answered, is_news, present_attempt}
use Rattle.pl_node.specs.SwitchViews.{SwitchView}
use Rattle.pl_steps.specs.Steps.{SwitchStep, rests}
use Rattle.pl_switch_rule.specs.Positions.{after_vote, answers_proposal, counted, fixes_position, freed_but, frees_others, half, hears_proposal, holds_for, is_free_for, is_held_for, is_majority, kept_or_new, moves_on, vote_on, with_granted}
use Rattle.pl_switch_rule.proofs.Exports.{length_freed}
use Rattle.pl_fabric.specs.Settled.{holds_another, is_another, is_holder, would_change, would_change_by}
use Rattle.pl_fabric.proofs.Exports.{any_below, none_below}
use Rattle.pl_law_votes.specs.Counting.{AreNumbersRising}
use Rattle.pl_law_votes.proofs.Exports.{freed_is, has_new}
use Rattle.pl_world.specs.Worlds.{WorldView}
use Rattle.pl_law_control_plane.specs.ControlPlanes.{no_switch}
use Rattle.pl_law_votes.specs.Voting.{edge_no}
use Rattle.pl_law_invariant.specs.ControlInvariant.{ControlInvariant}
use Rattle.pl_law_placing.specs.Placing.{ArePlacing}
use Rattle.pl_law_settled.specs.Agreed.{IsAgreed, LeavesBoth, proposal_of, vote_of}
use Rattle.pl_journal.specs.Flights.{label_level}

none_is_held : (edge : SwitchId) (h : Option Hold) → h ≡ None → is_held_for edge h ≡ false
none_is_held edge h is = ap (is_held_for edge) is

same_holder : (edge : SwitchId) (h : Option Hold) → is_holder edge (option_map holder_and_mark h) ≡ is_held_for edge h
same_holder edge None = refl
same_holder edge (Some hold) = refl

-- ---- a grant that was counted is counted no more
head_is_less : (port x : ℕ) (xs : List ℕ) → AllByRecursion (λ y. x < y) xs → port < x → list_any (λ r. r == port) xs ≡ false
head_is_less port x [] all less = refl
head_is_less port x (y ∷ ys) all less =
    let here = all.0 in
    ap (λ b. b || list_any (λ r. r == port) ys) (ne_eqb y port (λ same. absurd (omega (arith, same, here, less)))) ∙ head_is_less port x ys all.1 less

inserted_again : (port : ℕ) (xs : List ℕ) → AreNumbersRising xs → list_any (λ r. r == port) xs ≡ true → insert_key nat_cmp xs port ≡ xs
inserted_again port [] rising there = absurd (true≢false (sym there))
inserted_again port (x ∷ xs) rising there = by (nat_cmp port x) refl (inserted_again port xs rising.1)
  where
    by : (o : Ordering) → o ≡ nat_cmp port x → (list_any (λ r. r == port) xs ≡ true → insert_key nat_cmp xs port ≡ xs) →
        match_ordering o (port ∷ x ∷ xs) (x ∷ xs) (x ∷ insert_key nat_cmp xs port) ≡ x ∷ xs
    by Less is rest =
        let less = ranked port x Less is in
        absurd (true≢false (sym there ∙ (ap (λ b. b || list_any (λ r. r == port) xs) (ne_eqb x port (λ same. absurd (omega (arith, same, less))))
        ∙ head_is_less port x xs rising.0 less)))
    by Equal is rest = refl
    by Greater is rest =
        let less = ranked port x Greater is in
        ap (λ ys. x ∷ ys) (rest
        (sym (ap (λ b. b || list_any (λ r. r == port) xs) (ne_eqb x port (λ same. absurd (omega (arith, same, less))))) ∙ there))

-- ---- nothing else is freed

frees_none : (position : ℕ) (edge : SwitchId) (n : ℕ) (holds : List (Option Hold)) →
    ((i : ℕ) → i < length holds → (is_held_for edge (get_or holds i None) && not (n + i == position)) ≡ false) → freed_but position edge n holds ≡ holds
frees_none position edge n [] none = refl
frees_none position edge n (hold ∷ holds) none =
    let first : n + 0 ≡ n = omega arith in
    ap (λ b. cond b None hold ∷ freed_but position edge (n + 1) holds) (ap (λ x. is_held_for edge hold && not (x == position)) (sym first) ∙ none 0 (omega arith))
    ∙ ap (λ left. hold ∷ left) (frees_none position edge (n + 1) holds (λ i low.
    let next : n + 1 + i ≡ n + suc i = omega arith in
    ap (λ x. is_held_for edge (get_or holds i None) && not (x == position)) next ∙ none (suc i) (omega (arith, low))))

module _ (u : SwitchView) (edge : SwitchId) (position : ℕ) where
  another_is : (i : ℕ) → is_another u edge position i ≡ (is_held_for edge (hold_at u i) && not (i == position))
  another_is i = ap (λ b. not (i == position) && b) (same_holder edge (hold_at u i)) ∙ and_turned (not (i == position)) (is_held_for edge (hold_at u i))

  pub leaves_holds : length u.holds ≡ half u.k → holds_another u edge position ≡ false → frees_others u edge position ≡ u
  leaves_holds many none =
      ap (λ holds. record u { holds = holds }) (frees_none position edge 0 u.holds (λ i low.
      let first : 0 + i ≡ i = omega arith in
      ap (λ x. is_held_for edge (get_or u.holds i None) && not (x == position)) first ∙ sym (another_is i) ∙ elim (cases_Bool (is_another u edge position i)) [
        | inl is ↦ absurd (true≢false (sym (any_below (is_another u edge position) (u.k / 2) i (subst (λ n. i < n) many low) is) ∙ none))
        | inr is ↦ is
      ]))

  -- the hold of another position is freed
  pub leaves_others : (w : SwitchView) → ((i : ℕ) → (i ≡ position → ⊥) → hold_at w i ≡ hold_at (frees_others u edge position) i) → w ≡ u → holds_another u edge position ≡ false
  leaves_others w kept same = none_below (is_another u edge position) (u.k / 2) (λ i low. elim (cases_Bool (is_another u edge position i)) [
    | inr is ↦ is
    | inl there ↦
        let held : (is_held_for edge (hold_at u i) && not (i == position)) ≡ true = sym (another_is i) ∙ there in
        let apart : i ≡ position → ⊥ = λ is. true≢false (sym held ∙ (ap (λ b. is_held_for edge (hold_at u i) && not b) (eq-eqb i position is) ∙ ends (is_held_for edge (hold_at u i)))) in
        let freed : hold_at u i ≡ None = ap (λ x. hold_at x i) (sym same) ∙ kept i apart ∙ freed_is u edge position i ∙ ap (λ b. cond b None (hold_at u i)) held in
        absurd (true≢false (sym held ∙ ap (λ b. b && not (i == position)) (none_is_held edge (hold_at u i) freed)))
  ])
    where
      ends : (b : Bool) → (b && false) ≡ false
      ends true = refl
      ends false = refl

-- ---- what an edge switch makes of the vote
module _ (v : SwitchView) (port : ℕ) (level : v.place.level ≡ Some 0) (none : v.place.position ≡ None) where
  counts_now : (vote : Vote) → vote.attempt ≡ v.attempt → vote.position ≡ v.proposed → counts v.place v.attempt v.proposed vote ≡ true
  counts_now vote attempt position =
      rw (level, none, attempt, position, eq-eqb v.attempt v.attempt refl, eq-eqb v.proposed v.proposed refl) refl

  after_is : (vote : Vote) → vote.attempt ≡ v.attempt → vote.position ≡ v.proposed → after_vote v port vote ≡ counted v port vote
  after_is vote attempt position = ap (λ b. cond b (counted v port vote) v) (counts_now vote attempt position)

  -- a grant
  module _ (rising : AreNumbersRising v.granted) (few : 2 * length v.granted ≤ half v.k) where
    no_majority : is_majority v ≡ false
    no_majority = elim (cases_Bool (is_majority v)) [
      | inl there ↦ let most = ltb-true (half v.k) (2 * length v.granted) there in absurd (omega (arith, most, few))
      | inr is ↦ is
    ]

    granted_again : has_granted v port ≡ true → fixes_position (with_granted v port) ≡ v
    granted_again there =
        ap (λ xs. fixes_position (record v { granted = xs })) (inserted_again port v.granted rising there)
        ∙ ap (λ b. record v { place = record v.place { position = cond b (Some v.proposed) v.place.position } }) no_majority

  granted_anew : fixes_position (with_granted v port) ≡ v → has_granted v port ≡ true
  granted_anew same = sym (ap (λ (x : SwitchView). list_any (λ r. r == port) x.granted) same) ∙ has_new port v.granted

  -- a refusal
  moved_on : (b : Bool) → cond b (moves_on v) v ≡ v → (b && not (v.attempt == 4294967295)) ≡ false
  moved_on false same = refl
  moved_on true same = by (v.attempt == 4294967295) refl
    where
      by : (t : Bool) → (v.attempt == 4294967295) ≡ t → not t ≡ false
      by true last = refl
      by false last =
          let more : v.attempt + 1 ≡ v.attempt =
          sym (ap (λ b. (cond b v (record v { attempt = v.attempt + 1; proposed = (v.proposed + 1) % half v.k; granted = [] })).attempt) last)
          ∙ ap (λ (x : SwitchView). x.attempt) same in
          absurd (omega (arith, more))

  stays : (b : Bool) → (b && not (v.attempt == 4294967295)) ≡ false → cond b (moves_on v) v ≡ v
  stays false none = refl
  stays true none = by (v.attempt == 4294967295) refl none
    where
      by : (t : Bool) → (v.attempt == 4294967295) ≡ t → not t ≡ false → moves_on v ≡ v
      by true last none = ap (λ b. cond b v (record v { attempt = v.attempt + 1; proposed = (v.proposed + 1) % half v.k; granted = [] })) last
      by false last none = absurd (true≢false none)

-- ---- both switches, where the proposal is answered
module _ (v : SwitchView) (port : ℕ) (u : SwitchView) (q : ℕ) (level : v.place.level ≡ Some 0) (none : v.place.position ≡ None)
    (rising : AreNumbersRising v.granted) (few : 2 * length v.granted ≤ half v.k) (many : length u.holds ≡ half u.k) (within : v.proposed < half u.k) where
  p : Proposal
  p = proposal_of v

  freed : SwitchView
  freed = frees_others u v.id v.proposed

  seen : hold_at freed v.proposed ≡ hold_at u v.proposed
  unfolding freed
  seen = freed_is u v.id v.proposed v.proposed ∙ ap (λ b. cond b None (hold_at u v.proposed)) (none_here (is_held_for v.id (hold_at u v.proposed)))
    where
      ends : (b : Bool) → (b && false) ≡ false
      ends true = refl
      ends false = refl

      none_here : (b : Bool) → (b && not (v.proposed == v.proposed)) ≡ false
      none_here b = ap (λ t. b && not t) (eq-eqb v.proposed v.proposed refl) ∙ ends b

  -- what u knows then
  abbrev then_known : Bool → SwitchView
  then_known free = cond free (holds_for (frees_others u v.id v.proposed) v.id v.proposed) (frees_others u v.id v.proposed)

  others_stay : (free : Bool) (i : ℕ) → (i ≡ v.proposed → ⊥) → hold_at (then_known free) i ≡ hold_at (frees_others u v.id v.proposed) i
  others_stay false i apart = refl
  others_stay true i apart = get_or-set_other (frees_others u v.id v.proposed).holds v.proposed i (kept_or_new v.id (hold_at (frees_others u v.id v.proposed) v.proposed)) None apart

  kept_hold : (hold : Hold) → hold_at u v.proposed ≡ Some hold → holds_for (frees_others u v.id v.proposed) v.id v.proposed ≡ frees_others u v.id v.proposed
  unfolding freed
  kept_hold hold held =
      let here : hold_at (frees_others u v.id v.proposed) v.proposed ≡ Some hold = seen ∙ held in
      ap (λ h. record (frees_others u v.id v.proposed) { holds = set (frees_others u v.id v.proposed).holds v.proposed h }) (ap (kept_or_new v.id) here ∙ sym here)
      ∙ ap (λ holds. record (frees_others u v.id v.proposed) { holds = holds }) (set-get_or (frees_others u v.id v.proposed).holds v.proposed None)

  -- the vote on each kind of hold
  vote_is : (h : Option Hold) → hold_at u v.proposed ≡ h → vote_of u v.id p ≡ vote_on v.id p h
  unfolding p freed
  vote_is h held = ap (vote_on v.id p) (seen ∙ held)

  free_is : (h : Option Hold) → hold_at u v.proposed ≡ h → is_free_for v.id (hold_at (frees_others u v.id v.proposed) v.proposed) ≡ is_free_for v.id h
  unfolding freed
  free_is h held = ap (is_free_for v.id) (seen ∙ held)

  -- the view of the row
  abbrev known : SwitchView
  known = then_known (is_free_for v.id (hold_at (frees_others u v.id v.proposed) v.proposed))

  -- a new hold shows
  held_anew : hold_at u v.proposed ≡ None → known ≡ u → ⊥
  unfolding freed
  held_anew held same =
      let free : is_free_for v.id (hold_at (frees_others u v.id v.proposed) v.proposed) ≡ true = free_is None held in
      let now : holds_for (frees_others u v.id v.proposed) v.id v.proposed ≡ u = sym (ap then_known free) ∙ same in
      let there : get_or (set (frees_others u v.id v.proposed).holds v.proposed (kept_or_new v.id (hold_at (frees_others u v.id v.proposed) v.proposed))) v.proposed None ≡ None =
      ap (λ x. hold_at x v.proposed) now ∙ held in
      let size : v.proposed < length (frees_others u v.id v.proposed).holds = subst (λ n. v.proposed < n) (sym (length_freed v.proposed v.id 0 u.holds ∙ many)) within in
      let new : kept_or_new v.id (hold_at (frees_others u v.id v.proposed) v.proposed) ≡ None =
      sym (get_or-set_same (frees_others u v.id v.proposed).holds v.proposed (kept_or_new v.id (hold_at (frees_others u v.id v.proposed) v.proposed)) None size) ∙ there in
      absurd (none-some _ (sym new ∙ ap (kept_or_new v.id) (seen ∙ held)))

  refused : Hold → Vote
  refused hold = record { attempt = v.attempt; position = v.proposed; granted = false; holder = Some hold.edge; fixed = hold.fixed }

  grant : Vote
  grant = record { attempt = v.attempt; position = v.proposed; granted = true; holder = None; fixed = false }

  module _ (hold : Hold) (held : hold_at u v.proposed ≡ Some hold) where
    by_grant : (hold.edge.0 == v.id.0) ≡ true → after_vote v port (vote_of u v.id p) ≡ fixes_position (with_granted v port)
    unfolding p grant
    by_grant own =
        ap (after_vote v port) (vote_is (Some hold) held ∙ ap (λ b. cond b grant (record { attempt = v.attempt; position = v.proposed; granted = false; holder = Some hold.edge; fixed = hold.fixed })) own)
        ∙ after_is v port level none grant refl refl

    by_refusal : (hold.edge.0 == v.id.0) ≡ false → after_vote v port (vote_of u v.id p) ≡ cond (hold.fixed || nat_lt hold.edge.0 v.id.0) (moves_on v) v
    unfolding p refused
    by_refusal other =
        ap (after_vote v port) (vote_is (Some hold) held ∙ ap (λ b. cond b (record { attempt = v.attempt; position = v.proposed; granted = true; holder = None; fixed = false }) (refused hold)) other)
        ∙ after_is v port level none (refused hold) refl refl

    known_is : holds_another u v.id v.proposed ≡ false → known ≡ u
    known_is alone = by (is_free_for v.id (hold_at (frees_others u v.id v.proposed) v.proposed)) ∙ leaves_holds u v.id v.proposed many alone
      where
        by : (b : Bool) → then_known b ≡ frees_others u v.id v.proposed
        by true = kept_hold hold held
        by false = refl

  -- where nothing would change, nothing does
  forth : (h : Option Hold) → hold_at u v.proposed ≡ h → holds_another u v.id v.proposed ≡ false → is_news v port v.attempt (option_map holder_and_mark h) ≡ false →
      (known ≡ u) × (after_vote v port (vote_of u v.id p) ≡ v)
  forth None held alone news = absurd (true≢false news)
  forth (Some hold) held alone news = (known_is hold held alone, by (hold.edge.0 == v.id.0) refl news)
    where
      granted_is : (b : Bool) → not b ≡ false → b ≡ true
      granted_is true is = refl
      granted_is false is = absurd (true≢false is)

      by : (b : Bool) → (hold.edge.0 == v.id.0) ≡ b → cond b (not (has_granted v port)) ((hold.fixed || nat_lt hold.edge.0 v.id.0) && not (v.attempt == 4294967295)) ≡ false →
          after_vote v port (vote_of u v.id p) ≡ v
      by true own news = by_grant hold held own ∙ granted_again v port level none rising few (granted_is (has_granted v port) news)
      by false other news = by_refusal hold held other ∙ stays v port level none (hold.fixed || nat_lt hold.edge.0 v.id.0) news

  -- and where nothing changes, nothing would
  back : (h : Option Hold) → hold_at u v.proposed ≡ h → known ≡ u → after_vote v port (vote_of u v.id p) ≡ v →
      (holds_another u v.id v.proposed ≡ false) × (is_news v port v.attempt (option_map holder_and_mark h) ≡ false)
  back h held same after = (
    leaves_others u v.id v.proposed known (others_stay (is_free_for v.id (hold_at (frees_others u v.id v.proposed) v.proposed))) same,
    of h held,
  )
    where
      by : (hold : Hold) → hold_at u v.proposed ≡ Some hold → (b : Bool) → (hold.edge.0 == v.id.0) ≡ b →
          cond b (not (has_granted v port)) ((hold.fixed || nat_lt hold.edge.0 v.id.0) && not (v.attempt == 4294967295)) ≡ false
      by hold held true own = ap not (granted_anew v port level none (sym (by_grant hold held own) ∙ after))
      by hold held false other = moved_on v port level none (hold.fixed || nat_lt hold.edge.0 v.id.0) (sym (by_refusal hold held other) ∙ after)

      of : (h : Option Hold) → hold_at u v.proposed ≡ h → is_news v port v.attempt (option_map holder_and_mark h) ≡ false
      of None held = absurd (held_anew held same)
      of (Some hold) held = by hold held (hold.edge.0 == v.id.0) refl

-- ---- of any two switches
presented : (l o : Option ℕ) (a x : ℕ × ℕ) → (if is_known l 0 && is_none o then Some a else None) ≡ Some x → (l ≡ Some 0) × (o ≡ None) × (a ≡ x)
presented None o a x is = absurd (none-some x is)
presented (Some n) None a x is = by (n == 0) refl is
  where
    by : (b : Bool) → (n == 0) ≡ b → (cond (b && true) (Some a) None) ≡ Some x → (Some n ≡ Some 0) × (◌≡◌ {A = Option ℕ} None None) × (a ≡ x)
    by true none is = (ap Some (eqb-true n 0 none), refl, same_Some a x is)
    by false other is = absurd (none-some x is)
presented (Some n) (Some m) a x is = by (n == 0) is
  where
    by : (b : Bool) → (cond (b && false) (Some a) None) ≡ Some x → (Some n ≡ Some 0) × (Some m ≡ None) × (a ≡ x)
    by true is = absurd (none-some x is)
    by false is = absurd (none-some x is)

pub presents : (v : SwitchView) → v.place.level ≡ Some 0 → v.place.position ≡ None → present_attempt v ≡ Some (v.attempt, v.proposed)
presents v level none = rw (level, none) refl

below_half : (a b c : Bool) → (a && b && c) ≡ true → c ≡ true
below_half true true c is = is
below_half true false c is = absurd (true≢false (sym is))
below_half false b c is = absurd (true≢false (sym is))

module _ (v : SwitchView) (port : ℕ) (u : SwitchView) (q : ℕ) where
  -- the step of the row
  row : (b : Bool) → SwitchStep
  row b = cond b (answers_proposal (frees_others u v.id v.proposed) q v.id (proposal_of v)) (rests u)

  row_is : (b : Bool) → is_answered u q v.proposed ≡ b → hears_proposal u q v.id (proposal_of v) ≡ row b
  unfolding row
  row_is b is = ap (λ t. cond t (answers_proposal (frees_others u v.id v.proposed) q v.id (proposal_of v)) (rests u)) is

  module _ (rising : v.place.level ≡ Some 0 → AreNumbersRising v.granted) (few : v.place.position ≡ None → 2 * length v.granted ≤ half v.k) (many : length u.holds ≡ half u.k) where
    leaves : would_change v port u q ≡ false → IsAgreed v port u q
    unfolding row p
    leaves unchanged usable level none = by (is_answered u q v.proposed) refl
      where
        changes : (b : Bool) → is_answered u q v.proposed ≡ b →
            (b && (holds_another u v.id v.proposed || is_news v port v.attempt (holder_of u v.proposed))) ≡ false
        changes b is =
            ap (λ t. t && (holds_another u v.id v.proposed || is_news v port v.attempt (holder_of u v.proposed))) (sym is)
            ∙ ap (would_change_by v port u q) (sym (presents v level none))
            ∙ ap (λ t. t && would_change_by v port u q (present_attempt v)) (sym usable) ∙ unchanged

        by : (b : Bool) → is_answered u q v.proposed ≡ b → LeavesBoth v port u q
        by false is = record {
          holder = ap (λ (step : SwitchStep). step.view) (row_is false is);
          proposer = λ answers. absurd (answers (ap (λ (step : SwitchStep). step.acts) (row_is false is)));
        }
        by true is =
            let parts = or_parts (holds_another u v.id v.proposed) (is_news v port v.attempt (holder_of u v.proposed)) (changes true is) in
            let within = ltb-true v.proposed (half u.k) (below_half (is_known u.place.level 1) (is_known (place_at u q).level 0) (nat_lt v.proposed (half u.k)) is) in
            let two = forth v port u q level none (rising level) (few none) many within (hold_at u v.proposed) refl parts.0 parts.1 in
            record {
              holder = ap (λ (step : SwitchStep). step.view) (row_is true is) ∙ two.0;
              proposer = λ answers. two.1;
            }

    table : IsAgreed v port u q → would_change v port u q ≡ false
    unfolding row p
    table agreed = usable (is_usable_to v 1 port) refl
      where
        answers : hears_proposal u q v.id (proposal_of v) ≡ row true → (hears_proposal u q v.id (proposal_of v)).acts ≡ [] → ⊥
        answers is none = let one : 1 ≡ 0 = ap (λ (acts : List Act). length acts) (sym (ap (λ (step : SwitchStep). step.acts) is) ∙ none) in absurd (omega (arith, one))

        at : is_usable_to v 1 port ≡ true → v.place.level ≡ Some 0 → v.place.position ≡ None → (b : Bool) → is_answered u q v.proposed ≡ b →
            (b && (holds_another u v.id v.proposed || is_news v port v.attempt (holder_of u v.proposed))) ≡ false
        at used level none false is = refl
        at used level none true is =
            let leave = agreed used level none in
            let within = ltb-true v.proposed (half u.k) (below_half (is_known u.place.level 1) (is_known (place_at u q).level 0) (nat_lt v.proposed (half u.k)) is) in
            let two = back v port u q level none (rising level) (few none) many within (hold_at u v.proposed) refl
            (sym (ap (λ (step : SwitchStep). step.view) (row_is true is)) ∙ leave.holder) (leave.proposer (answers (row_is true is))) in
            or_from (holds_another u v.id v.proposed) (is_news v port v.attempt (holder_of u v.proposed)) two.0 two.1

        present : is_usable_to v 1 port ≡ true → (o : Option (ℕ × ℕ)) → present_attempt v ≡ o → would_change_by v port u q o ≡ false
        present used None is = refl
        present used (Some x) is =
            let parts = presented v.place.level v.place.position (v.attempt, v.proposed) x is in
            ap (λ y. would_change_by v port u q (Some y)) (sym parts.2) ∙ at used parts.0 parts.1 (is_answered u q v.proposed) refl

        usable : (b : Bool) → is_usable_to v 1 port ≡ b → (b && would_change_by v port u q (present_attempt v)) ≡ false
        usable false is = refl
        usable true is = present is (present_attempt v) refl

    pub table_is_rows : (would_change v port u q ≡ false) ↔ IsAgreed v port u q
    table_is_rows = (leaves, table)

-- ---- in a run
found_is : (switches : List SwitchView) (s : ℕ) (v : SwitchView) → slice_get switches s ≡ Some v → get_or switches s no_switch ≡ v
found_is switches s v is = same_Some _ v (sym (slice_get-get_or switches s no_switch (slice_get_within switches s v is)) ∙ is)

module _ (w : WorldView) (kept : ControlInvariant w) (placing : ArePlacing w) (s t : ℕ) (v u : SwitchView) (at_s : slice_get w.switches s ≡ Some v) (at_t : slice_get w.switches t ≡ Some u) where
  here : s < switch_count w.plan.k
  here = subst (λ n. s < n) kept.counted.formed.switches (slice_get_within w.switches s v at_s)

  rises : v.place.level ≡ Some 0 → AreNumbersRising v.granted
  rises known = by (label_of w.plan.k s) refl (label_of-IsLabel w.plan.k s (omega (arith, two)) here)
      ((kept.placed.own s).level 0 (ap (λ (x : SwitchView). x.place.level) (found_is w.switches s v at_s) ∙ known))
    where
      two : 2 ≤ w.plan.k / 2
      two = half_at_least w.plan.k kept.counted.formed.plan.arity

      by : (label : Label) → label_of w.plan.k s ≡ label → IsLabel w.plan.k label → 0 ≡ label_level (label_of w.plan.k s) → AreNumbersRising v.granted
      by (Edge pod i) is label level =
          let number : edge_no w.plan.k pod i ≡ s = ap (number_of w.plan.k) (sym is) ∙ number_of-label_of w.plan.k s in
          subst (λ (x : SwitchView). AreNumbersRising x.granted) (ap (λ n. get_or w.switches n no_switch) number ∙ found_is w.switches s v at_s) (kept.voting.counting pod i label).once
      by (Aggregation pod j) is label level = let no_edge : 0 ≡ 1 = level ∙ ap label_level is in absurd (omega (arith, no_edge))
      by (Core group m) is label level = let no_edge : 0 ≡ 2 = level ∙ ap label_level is in absurd (omega (arith, no_edge))

  pub table_is_rows_here : (port q : ℕ) → (would_change v port u q ≡ false) ↔ IsAgreed v port u q
  table_is_rows_here port q =
      table_is_rows v port u q rises
      (λ none. subst (λ (x : SwitchView). 2 * length x.granted ≤ half x.k) (found_is w.switches s v at_s)
      ((placing.trying.trying s).few (ap (λ (x : SwitchView). x.place.position) (found_is w.switches s v at_s) ∙ none)))
      (all_found IsShaped w.switches t u kept.counted.shaped at_t).holds
