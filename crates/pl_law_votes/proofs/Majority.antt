-- More than half of the aggregation switches of a pod hold a fixed position, so no two edge switches of the pod have it.
use Rattle.std.proofs.Common.{◌≡◌, ℕ, zero, suc, ◌+◌, ◌<◌, ◌≤◌, ◌==◌, ◌||◌, Bool, true, false, true≢false, eqb, cond, List, [], ◌∷◌, length, Option, Some, None, refl, sym, ◌∙◌, ap, subst, arith, inl, inr, filter, eqb-true, eq-eqb, ne_eqb}
use Rattle.std.specs.List.{AllByRecursion, IsDistinct, list_any, range_with_len}
use Rattle.std.specs.Prelude.{Contains}
use Rattle.std.proofs.lemmas.Cmp.{nat_eq_equiv}
use Rattle.std.proofs.lemmas.Map.Made.{length-le_from_is_member}
use Rattle.std.proofs.lemmas.Bool.{cases_eq}
use Rattle.pl_lemmas.proofs.Exports.{all_weaker}
use Rattle.pl_frame.specs.declared.address.SwitchId.{SwitchId}
use Rattle.pl_wiring.specs.declared.label.Label.TheVariants.{Aggregation}
use Rattle.pl_wiring.specs.declared.label.SwitchNo.{SwitchNo}
use Rattle.pl_wiring.specs.declared.link.Link.{Link}
use Rattle.pl_wiring.specs.declared.link.Peer.TheVariants.{Switch}
use Rattle.pl_wiring.specs.FatTree.{IsTreeLink}
use Rattle.pl_wiring.specs.Labels.{number_of}
use Rattle.pl_wiring.specs.Peers.{HasEnds, LinksSwitches, peer_of}
use Rattle.pl_wiring.specs.Plan.{IsPlan, Plan}
use Rattle.pl_wiring.proofs.Exports.{at_contained, link_rises, peer_is_switch, same_between}
use Rattle.pl_node.specs.declared.switch_records.Hold.{Hold}
use Rattle.pl_node.specs.SwitchFacts.{has_granted, hold_at}
use Rattle.pl_node.specs.SwitchViews.{SwitchView}
use Rattle.pl_switch_rule.specs.Positions.{half, is_held_for}
use Rattle.pl_law_votes.specs.Counting.{AreNumbersRising, IsCounting, IsHeldByMost, LeadsToAggregation, holders}

-- Two ports that lead to one switch are one.

between : (link : Link) (s p t q : ℕ) → HasEnds link s p t q → LinksSwitches link s t
between link s p t q (inl h) = inl (h.0, h.2)
between link s p t q (inr h) = inr (h.2, h.0)

same_port : (link : Link) (s p r t a b : ℕ) → link.lower.0 < link.upper.0 → HasEnds link s p t a → HasEnds link s r t b → p ≡ r
same_port link s p r t a b rises (inl g) (inl h) = sym g.1 ∙ h.1
same_port link s p r t a b rises (inl g) (inr h) = let x = g.0 in let y = h.0 in absurd (omega (arith, rises, x, y))
same_port link s p r t a b rises (inr g) (inl h) = let x = g.0 in let y = h.0 in absurd (omega (arith, rises, x, y))
same_port link s p r t a b rises (inr g) (inr h) = sym g.1 ∙ h.1

pub one_port_to : (plan : Plan) (s p r : ℕ) (t : SwitchNo) (a b : ℕ) → IsPlan plan → peer_of plan s p ≡ Switch t a → peer_of plan s r ≡ Switch t b → p ≡ r
one_port_to plan s p r t a b is one other =
    let l = (peer_is_switch plan s p t a is).0 one in
    let m = (peer_is_switch plan s r t b is).0 other in
    let here : Contains plan.links l.1 = (l.0, l.2, l.3) in
    let there : Contains plan.links m.1 = (m.0, m.2, m.3) in
    let same = same_between plan l.1 m.1 s t.0 is here there (between l.1 s p t.0 a l.4) (between m.1 s r t.0 b m.4) in
    let rises = link_rises plan.k l.1 (at_contained (IsTreeLink plan.k) plan.links l.1 is.tree.no_other here) in
    same_port l.1 s p r t.0 a b rises l.4 (subst (λ (x : Link). HasEnds x s r t.0 b) (sym same) m.4)

abbrev aggregation : ℕ → ℕ → ℕ → SwitchNo
aggregation k pod j = record { 0 = number_of k (Aggregation pod j) }

-- The numbers of the switches that ports lead to.

module _ (plan : Plan) (is : IsPlan plan) (pod s : ℕ) where
  numbers : (ports : List ℕ) → AllByRecursion (LeadsToAggregation plan pod s) ports → List ℕ
  numbers [] leads = []
  numbers (p ∷ ports) leads = leads.0.0 ∷ numbers ports leads.1

  as_many : (ports : List ℕ) (leads : AllByRecursion (LeadsToAggregation plan pod s) ports) → length (numbers ports leads) ≡ length ports
  unfolding numbers
  as_many [] leads = refl
  as_many (p ∷ ports) leads = ap suc (as_many ports leads.1)

  apart : (p : ℕ) (leads_here : LeadsToAggregation plan pod s p) (ports : List ℕ) (leads : AllByRecursion (LeadsToAggregation plan pod s) ports) →
      AllByRecursion (λ r. p < r) ports → AllByRecursion (λ j. eqb leads_here.0 j ≡ false) (numbers ports leads)
  unfolding numbers
  apart p here [] leads less = tt
  apart p here (r ∷ ports) leads less = (ne_eqb here.0 leads.0.0 differ, apart p here ports leads.1 less.1)
    where
      differ : here.0 ≡ leads.0.0 → ⊥
      differ same =
          let one : peer_of plan s p ≡ Switch (aggregation plan.k pod leads.0.0) here.2 =
          subst (λ j. peer_of plan s p ≡ Switch (aggregation plan.k pod j) here.2) same here.3 in
          let equal = one_port_to plan s p r (aggregation plan.k pod leads.0.0) here.2 leads.0.2 is one leads.0.3 in
          let below = less.0 in
          absurd (omega (arith, equal, below))

  once : (ports : List ℕ) (leads : AllByRecursion (LeadsToAggregation plan pod s) ports) → AreNumbersRising ports → IsDistinct eqb (numbers ports leads)
  unfolding numbers IsDistinct
  once [] leads rising = tt
  once (p ∷ ports) leads rising = (apart p leads.0 ports leads.1 rising.0, once ports leads.1 rising.1)

  -- each of them passes a test that the switches behind the ports pass
  passing : (test : ℕ → Bool) (ports : List ℕ) (leads : AllByRecursion (LeadsToAggregation plan pod s) ports) →
      AllByRecursion (λ p. (lead : LeadsToAggregation plan pod s p) → test lead.0 ≡ true) ports →
      (q : ℕ) → list_any (eqb q) (numbers ports leads) ≡ true → (test q ≡ true) × (q < half plan.k)
  unfolding numbers
  passing test [] leads pass q member = absurd (true≢false (sym member))
  passing test (p ∷ ports) leads pass q member = by (eqb q leads.0.0) refl (λ m. passing test ports leads.1 pass.1 q m) member
    where
      by : (b : Bool) → eqb q leads.0.0 ≡ b → (list_any (eqb q) (numbers ports leads.1) ≡ true → (test q ≡ true) × (q < half plan.k)) →
          (b || list_any (eqb q) (numbers ports leads.1)) ≡ true → (test q ≡ true) × (q < half plan.k)
      by true same rest m =
          let equal = eqb-true q leads.0.0 same in let within = leads.0.1 in
          (subst (λ j. test j ≡ true) (sym equal) (pass.0 leads.0), omega (arith, equal, within))
      by false other rest m = rest m

-- a number below the end that passes a test is among those that do
member_filter : (test : ℕ → Bool) (a n q : ℕ) → a ≤ q → q < a + n → test q ≡ true → list_any (eqb q) (filter test (range_with_len a n)) ≡ true
member_filter test a zero q low high pass = absurd (omega (arith, low, high))
member_filter test a (suc n) q low high pass = elim (cases_eq q a) [
  | inl same ↦
      let passes : test a ≡ true = subst (λ x. test x ≡ true) same pass in
      subst (λ b. list_any (eqb q) (cond b (a ∷ filter test (range_with_len (a + 1) n)) (filter test (range_with_len (a + 1) n))) ≡ true) (sym passes)
      (subst (λ b. (b || list_any (eqb q) (filter test (range_with_len (a + 1) n))) ≡ true) (sym (eq-eqb q a same)) refl)
  | inr other ↦ skipped (test a) (member_filter test (a + 1) n q (omega (arith, low, other)) (omega (arith, high)) pass)
]
  where
    behind : (b : Bool) → list_any (eqb q) (filter test (range_with_len (a + 1) n)) ≡ true →
        (b || list_any (eqb q) (filter test (range_with_len (a + 1) n))) ≡ true
    behind true rest = refl
    behind false rest = rest

    skipped : (b : Bool) → list_any (eqb q) (filter test (range_with_len (a + 1) n)) ≡ true →
        list_any (eqb q) (cond b (a ∷ filter test (range_with_len (a + 1) n)) (filter test (range_with_len (a + 1) n))) ≡ true
    skipped true rest = behind (eqb q a) rest
    skipped false rest = rest

-- each port that was granted
each_granted : (ports : List ℕ) → AllByRecursion (λ p. list_any (λ r. r == p) ports ≡ true) ports
each_granted ports = among ports (λ p is. is)
  where
    among : (rest : List ℕ) → ((p : ℕ) → list_any (λ r. r == p) rest ≡ true → list_any (λ r. r == p) ports ≡ true) →
        AllByRecursion (λ p. list_any (λ r. r == p) ports ≡ true) rest
    among [] into = tt
    among (p ∷ rest) into =
        (into p (subst (λ b. (b || list_any (λ r. r == p) rest) ≡ true) (sym (eq-eqb p p refl)) refl), among rest (λ q is. into q (later (p == q) is)))
      where
        later : {b : Bool} → (t : Bool) → b ≡ true → (t || b) ≡ true
        later true is = refl
        later false is = is

-- Where each port that has granted leads to a switch that holds the position, more than half of the pod hold it.
pub most_hold : (plan : Plan) (pod s q : ℕ) (view : ℕ → SwitchView) → IsPlan plan → IsCounting plan pod s (view s) → (view s).place.position ≡ Some q →
    ((p : ℕ) (lead : LeadsToAggregation plan pod s p) → has_granted (view s) p ≡ true →
    is_held_for (view s).id (hold_at (view (number_of plan.k (Aggregation pod lead.0))) q) ≡ true) →
    IsHeldByMost plan.k view pod (view s).id q
most_hold plan pod s q view is counting fixed holds =
    let ports = (view s).granted in
    let test : ℕ → Bool = λ j. is_held_for (view s).id (hold_at (view (number_of plan.k (Aggregation pod j))) q) in
    let pass = all_weaker (λ p. has_granted (view s) p ≡ true) (λ p. (lead : LeadsToAggregation plan pod s p) → test lead.0 ≡ true) (λ p granted lead. holds p lead granted)
    ports (each_granted ports) in
    let all = numbers plan is pod s ports counting.leads in
    let some = holders plan.k view pod (view s).id q in
    let less = length-le_from_is_member nat_eq_equiv all some (once plan is pod s ports counting.leads counting.once)
    (λ j member.
    let both = passing plan is pod s test ports counting.leads pass j member in
    member_filter test 0 (half plan.k) j (omega arith) (omega (arith, both.1)) both.0) in
    let many = as_many plan is pod s ports counting.leads in
    let most = counting.most q fixed in
    omega (arith, less, many, most)

-- Two tests that never pass together pass in all for no more numbers than there are.
shared : (one other : ℕ → Bool) (a n : ℕ) → ((j : ℕ) → one j ≡ true → other j ≡ true → ⊥) →
    length (filter one (range_with_len a n)) + length (filter other (range_with_len a n)) ≤ n
shared one other a zero never = omega arith
shared one other a (suc n) never = by (one a) (other a) refl refl (shared one other (a + 1) n never)
  where
    by : (x y : Bool) → one a ≡ x → other a ≡ y →
        length (filter one (range_with_len (a + 1) n)) + length (filter other (range_with_len (a + 1) n)) ≤ n →
        length (cond x (a ∷ filter one (range_with_len (a + 1) n)) (filter one (range_with_len (a + 1) n)))
        + length (cond y (a ∷ filter other (range_with_len (a + 1) n)) (filter other (range_with_len (a + 1) n))) ≤ suc n
    by true true is also rest = absurd (never a is also)
    by true false is also rest = omega (arith, rest)
    by false true is also rest = omega (arith, rest)
    by false false is also rest = omega (arith, rest)

held_for_one : (held : Option Hold) (a b : SwitchId) → is_held_for a held ≡ true → is_held_for b held ≡ true → a.0 ≡ b.0
held_for_one None a b is also = absurd (true≢false (sym is))
held_for_one (Some hold) a b is also = sym (eqb-true hold.edge.0 a.0 is) ∙ eqb-true hold.edge.0 b.0 also

-- so a position is held by most for one switch alone
pub held_by_most_once : (k pod q : ℕ) (view : ℕ → SwitchView) (a b : SwitchId) → IsHeldByMost k view pod a q → IsHeldByMost k view pod b q → a.0 ≡ b.0
held_by_most_once k pod q view a b most also = elim (cases_eq a.0 b.0) [
  | inl same ↦ same
  | inr differ ↦
      let few = shared (λ j. is_held_for a (hold_at (view (number_of k (Aggregation pod j))) q)) (λ j. is_held_for b (hold_at (view (number_of k (Aggregation pod j))) q))
      0 (half k) (λ j one other. differ (held_for_one (hold_at (view (number_of k (Aggregation pod j))) q) a b one other)) in
      absurd (omega (arith, few, most, also))
]
