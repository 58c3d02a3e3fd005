-- Where each position up to one is kept from an edge switch, there is a further one: no two are kept by one switch.
use Rattle.std.proofs.Common.{◌≡◌, ℕ, zero, suc, ◌+◌, ◌<◌, ◌≤◌, ◌==◌, ◌||◌, Bool, true, false, length, Some, None, refl, sym, ◌∙◌, ap, subst, arith, inl, inr, ◌⊎◌, eq-eqb}
use Rattle.std.specs.List.{list_any, range_with_len}
use Rattle.std.proofs.lemmas.Bool.{cases_eq, cases_lt}
use Rattle.pl_lemmas.proofs.Exports.{enough}
use Rattle.pl_wiring.specs.declared.label.Label.TheVariants.{Edge}
use Rattle.pl_wiring.specs.Labels.{IsLabel}
use Rattle.pl_node.specs.SwitchViews.{SwitchView}
use Rattle.pl_switch_rule.specs.Positions.{half}
use Rattle.pl_law_votes.specs.Voting.{edge_no}
use Rattle.pl_law_placing.specs.Parking.{IsInTurn, IsKeptFrom}
use Rattle.pl_law_placing.specs.Parking.IsKeptFrom.{IsFixed, IsTried}

range_length : (a n : ℕ) → length (range_with_len a n) ≡ n
range_length a zero = refl
range_length a (suc n) = ap suc (range_length (a + 1) n)

in_range : (a n x : ℕ) → a ≤ x → x < a + n → list_any (λ r. r == x) (range_with_len a n) ≡ true
in_range a zero x low high = absurd (omega (arith, low, high))
in_range a (suc n) x low high = elim (cases_eq a x) [
  | inl same ↦ subst (λ b. (b || list_any (λ r. r == x) (range_with_len (a + 1) n)) ≡ true) (sym (eq-eqb a x same)) refl
  | inr other ↦ behind (a == x) (in_range (a + 1) n x (omega (arith, low, other)) (omega (arith, high)))
]
  where
    behind : (b : Bool) → list_any (λ r. r == x) (range_with_len (a + 1) n) ≡ true → (b || list_any (λ r. r == x) (range_with_len (a + 1) n)) ≡ true
    behind true is = refl
    behind false is = is

module _ (k : ℕ) (view : ℕ → SwitchView) (turns : (s : ℕ) → IsInTurn (view s)) (pod i p : ℕ) (edge : IsLabel k (Edge pod i))
    (none : (view (edge_no k pod i)).place.position ≡ None)
    (each : (q : ℕ) → q ≤ p → IsKeptFrom k view pod q (view (edge_no k pod i)).id) where
  abbrev Keeps : ℕ → ℕ → Type 0
  Keeps q x = ((view (edge_no k pod x)).place.position ≡ Some q)
      ⊎ (((view (edge_no k pod x)).proposed ≡ q) × ((view (edge_no k pod x)).id.0 < (view (edge_no k pod i)).id.0))

  -- the switch itself counts for the next position
  abbrev Sits : ℕ → ℕ → Type 0
  Sits q x = ((q ≤ p) × Keeps q x) ⊎ ((q ≡ p + 1) × (x ≡ i))

  keeps_one : (q r x : ℕ) → Keeps q x → Keeps r x → q ≡ r
  keeps_one q r x (inl a) (inl b) = let same : Some q ≡ Some r = sym a ∙ b in cc same
  keeps_one q r x (inl a) (inr b) = (turns (edge_no k pod x)).fixed q a ∙ b.0
  keeps_one q r x (inr a) (inl b) = sym ((turns (edge_no k pod x)).fixed r b ∙ a.0)
  keeps_one q r x (inr a) (inr b) = sym a.0 ∙ b.0

  not_itself : (q : ℕ) → Keeps q i → ⊥
  not_itself q (inl at) = let same : None ≡ Some q = sym none ∙ at in absurd (cc same)
  not_itself q (inr less) = let below = less.1 in omega (arith, below)

  sits_one : (q r x : ℕ) → Sits q x → Sits r x → q ≡ r
  sits_one q r x (inl a) (inl b) = keeps_one q r x a.1 b.1
  sits_one q r x (inl a) (inr b) = absurd (not_itself q (subst (Keeps q) b.1 a.1))
  sits_one q r x (inr a) (inl b) = absurd (not_itself r (subst (Keeps r) a.1 b.1))
  sits_one q r x (inr a) (inr b) = a.0 ∙ sym b.0

  keeper : (q : ℕ) → q ≤ p → IsKeptFrom k view pod q (view (edge_no k pod i)).id → (x : ℕ) × (x < half k) × Sits q x
  keeper q low (IsFixed x other at) = (x, other.1, inl (low, inl at))
  keeper q low (IsTried x other at less) = (x, other.1, inl (low, inr (at, less)))

  in_half : (x : ℕ) → x < half k → list_any (λ r. r == x) (range_with_len 0 (half k)) ≡ true
  in_half x within = in_range 0 (half k) x (omega arith) (omega (arith, within))

  one_for : (q : ℕ) → q < p + 2 → (x : ℕ) × Sits q x × (list_any (λ r. r == x) (range_with_len 0 (half k)) ≡ true)
  one_for q below = elim (cases_lt p q) [
    | inl past ↦ (i, inr (omega (arith, below, past), refl), in_half i edge.1)
    | inr not_past ↦ let one = keeper q not_past (each q not_past) in (one.0, one.2, in_half one.0 one.1)
  ]

  pub room : p + 1 < half k
  room =
      let many = enough Sits sits_one (p + 2) (range_with_len 0 (half k)) one_for in
      let length_is = range_length 0 (half k) in
      omega (arith, many, length_is)
