-- Label order: the number of a label and the label of a number are inverse.
use Rattle.std.proofs.Common.{◌≡◌, ℕ, ◌+◌, ◌-◌, ◌*◌, ◌/◌, ◌%◌, ◌<◌, ◌≤◌, refl, ◌∙◌, arith, inl, inr, ap, sym}
use Rattle.std.proofs.lemmas.Bool.{cases_lt}
use Rattle.std.proofs.lemmas.Bool.Decides.{nat_tests}
use Rattle.std.proofs.lemmas.Nat.{div-mul-add, mod-mul-add, mul-add-lt, div-add-mod', div_below, mod_below, same_from_place}
use Rattle.pl_wiring.specs.declared.label.Label.{Label}
use Rattle.pl_wiring.specs.declared.label.Label.TheVariants.{Edge, Aggregation, Core}
use Rattle.pl_wiring.specs.FatTree.{IsBelow, above}
use Rattle.pl_wiring.specs.Labels.{IsArity, IsLabel, edge_count, switch_count, number_of, label_of}

-- an arity has a half of 2 or more
pub half_at_least : (k : ℕ) → IsArity k → 2 ≤ k / 2
half_at_least k a = let h = a.least in omega arith

pub twice_half : (k : ℕ) → IsArity k → k ≡ k / 2 + k / 2
twice_half k a = let h = a.even in omega arith

pub label_of-edge : (k n : ℕ) → n < edge_count k → label_of k n ≡ Edge (n / (k / 2)) (n % (k / 2))
label_of-edge k n h = grind (arith, nat_tests)

pub label_of-aggregation : (k n : ℕ) → edge_count k ≤ n → n < edge_count k + edge_count k →
    label_of k n ≡ Aggregation ((n - edge_count k) / (k / 2)) ((n - edge_count k) % (k / 2))
label_of-aggregation k n h g = grind (arith, nat_tests)

pub label_of-core : (k n : ℕ) → edge_count k + edge_count k ≤ n →
    label_of k n ≡ Core ((n - (edge_count k + edge_count k)) / (k / 2)) ((n - (edge_count k + edge_count k)) % (k / 2))
label_of-core k n h = grind (arith, nat_tests)

pub label_of-IsLabel : (k n : ℕ) → 0 < k / 2 → n < switch_count k → IsLabel k (label_of k n)
label_of-IsLabel k n pos below = elim (cases_lt n (edge_count k)) [
  | inl low ↦ rw (label_of-edge k n low) (div_below n (k / 2) k pos low, mod_below n (k / 2) pos)
  | inr high ↦ elim (cases_lt n (edge_count k + edge_count k)) [
    | inl low ↦ rw (label_of-aggregation k n high low) (div_below (n - edge_count k) (k / 2) k pos (omega arith), mod_below (n - edge_count k) (k / 2) pos)
    | inr higher ↦ rw (label_of-core k n higher) (div_below (n - (edge_count k + edge_count k)) (k / 2) (k / 2) pos (omega arith), mod_below (n - (edge_count k + edge_count k)) (k / 2) pos)
  ]
]

pub number_of-label_of : (k n : ℕ) → number_of k (label_of k n) ≡ n
number_of-label_of k n = elim (cases_lt n (edge_count k)) [
  | inl low ↦ rw (label_of-edge k n low) (div-add-mod' n (k / 2))
  | inr high ↦ elim (cases_lt n (edge_count k + edge_count k)) [
    | inl low ↦ rw (label_of-aggregation k n high low) (omega (arith, div-add-mod' (n - edge_count k) (k / 2)))
    | inr higher ↦ rw (label_of-core k n higher) (omega (arith, div-add-mod' (n - (edge_count k + edge_count k)) (k / 2)))
  ]
]

pub number_of-below : (k : ℕ) (label : Label) → IsLabel k label → number_of k label < switch_count k
number_of-below k (Edge p i) h = omega (arith, mul-add-lt p (k / 2) i k h.0 h.1)
number_of-below k (Aggregation p j) h = omega (arith, mul-add-lt p (k / 2) j k h.0 h.1)
number_of-below k (Core g m) h = omega (arith, mul-add-lt g (k / 2) m (k / 2) h.0 h.1)

pub number_of-edge_below : (k p i : ℕ) → p < k → i < k / 2 → number_of k (Edge p i) < edge_count k
number_of-edge_below k p i h g = omega (arith, mul-add-lt p (k / 2) i k h g)

pub label_of-number_of : (k : ℕ) (label : Label) → IsLabel k label → label_of k (number_of k label) ≡ label
label_of-number_of k (Edge p i) h =
    label_of-edge k _ (number_of-edge_below k p i h.0 h.1) ∙ (rw (div-mul-add p (k / 2) i h.1, mod-mul-add p (k / 2) i h.1) refl)
label_of-number_of k (Aggregation p j) h =
    let low : number_of k (Aggregation p j) < edge_count k + edge_count k = omega (arith, mul-add-lt p (k / 2) j k h.0 h.1) in
    let same : number_of k (Aggregation p j) - edge_count k ≡ p * (k / 2) + j = omega arith in
    label_of-aggregation k _ (omega arith) low ∙ (rw (same, div-mul-add p (k / 2) j h.1, mod-mul-add p (k / 2) j h.1) refl)
label_of-number_of k (Core g m) h =
    let same : number_of k (Core g m) - (edge_count k + edge_count k) ≡ g * (k / 2) + m = omega arith in
    label_of-core k _ (omega arith) ∙ (rw (same, div-mul-add g (k / 2) m h.1, mod-mul-add g (k / 2) m h.1) refl)

-- the switches below the core are those whose number is below that of the core switches
pub above-IsLabel : (k x : ℕ) (label : Label) → IsLabel k label → number_of k label < edge_count k + edge_count k → x < k / 2 → IsLabel k (above label x)
above-IsLabel k x (Edge p i) h low less = (h.0, less)
above-IsLabel k x (Aggregation p j) h low less = (h.1, less)
above-IsLabel k x (Core g m) h low less = absurd (omega arith)

pub above-IsBelow : (k x : ℕ) (label : Label) → number_of k label < edge_count k + edge_count k → IsBelow label (above label x)
above-IsBelow k x (Edge p i) low = refl
above-IsBelow k x (Aggregation p j) low = refl
above-IsBelow k x (Core g m) low = absurd (omega arith)

-- what is above two switches is one switch only where it has one uplink of both
pub above-same_uplink : (k x y : ℕ) (a b : Label) → IsLabel k a → IsLabel k b →
    number_of k a < edge_count k + edge_count k → number_of k b < edge_count k + edge_count k → x < k / 2 → y < k / 2 →
    number_of k (above a x) ≡ number_of k (above b y) → x ≡ y
above-same_uplink k x y (Edge p i) (Edge q j) ha hb la lb lx ly e =
    let numbers : p * (k / 2) + x ≡ q * (k / 2) + y = omega arith in (same_from_place p x q y (k / 2) lx ly numbers).1
above-same_uplink k x y (Edge p i) (Aggregation q j) ha hb la lb lx ly e =
    absurd (omega (arith, mul-add-lt p (k / 2) x k ha.0 lx))
above-same_uplink k x y (Aggregation p i) (Edge q j) ha hb la lb lx ly e =
    absurd (omega (arith, mul-add-lt q (k / 2) y k hb.0 ly))
above-same_uplink k x y (Aggregation p i) (Aggregation q j) ha hb la lb lx ly e =
    let numbers : i * (k / 2) + x ≡ j * (k / 2) + y = omega arith in (same_from_place i x j y (k / 2) lx ly numbers).1
above-same_uplink k x y (Core g m) b ha hb la lb lx ly e = absurd (omega arith)
above-same_uplink k x y a (Core g m) ha hb la lb lx ly e = absurd (omega arith)

-- and of one label one
pub same_label : (k s t : ℕ) → label_of k s ≡ label_of k t → s ≡ t
same_label k s t same = sym (number_of-label_of k s) ∙ ap (number_of k) same ∙ number_of-label_of k t
