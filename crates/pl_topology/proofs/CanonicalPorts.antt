-- No port of a switch is in two canonical links.
use Rattle.std.proofs.Common.{◌≡◌, ◌≢◌, ℕ, ◌+◌, ◌*◌, ◌/◌, ◌%◌, ◌<◌, ◌≤◌, refl, sym, ◌∙◌, arith, inl, inr}
use Rattle.std.proofs.lemmas.Nat.{mul-add-lt, div-add-mod', mod_below, same_from_place}
use Rattle.pl_wiring.specs.declared.label.Label.{Label}
use Rattle.pl_wiring.specs.declared.label.Label.TheVariants.{Edge, Aggregation, Core}
use Rattle.pl_wiring.specs.Labels.{IsArity, IsLabel, edge_count, number_of, label_of}
use Rattle.pl_wiring.specs.FatTree.{IsAt, above, canonical_link, link_count, lower_at, number_below, upper_at}
use Rattle.pl_wiring.proofs.Exports.{half_at_least, label_of-IsLabel, lower_at-below, number_of-label_of, twice_half, upper_at-same_uplink}

-- a switch has a smaller number than one above it
above-higher : (k x : ℕ) (label : Label) → IsLabel k label → number_of k label < edge_count k + edge_count k → number_of k label < number_of k (above label x)
above-higher k x (Edge p i) is low = omega (arith, mul-add-lt p (k / 2) i k is.0 is.1)
above-higher k x (Aggregation p j) is low = omega (arith, mul-add-lt p (k / 2) j k is.0 is.1)
above-higher k x (Core g m) is low = absurd (omega arith)

-- two switches below one, with one number among those below it, are one
above-one : (k x : ℕ) (a b : Label) → IsLabel k a → IsLabel k b → number_of k a < edge_count k + edge_count k → number_of k b < edge_count k + edge_count k → x < k / 2 →
    number_of k (above a x) ≡ number_of k (above b x) → number_below a ≡ number_below b → number_of k a ≡ number_of k b
above-one k x (Edge p i) (Edge q j) ha hb la lb lx e n =
    let same : p * (k / 2) + x ≡ q * (k / 2) + x = omega arith in
    let pods = (same_from_place p x q x (k / 2) lx lx same).0 in
    let same : i ≡ j = n in
    rw (pods, same) refl
above-one k x (Edge p i) (Aggregation q j) ha hb la lb lx e n = absurd (omega (arith, mul-add-lt p (k / 2) x k ha.0 lx))
above-one k x (Aggregation p i) (Edge q j) ha hb la lb lx e n = absurd (omega (arith, mul-add-lt q (k / 2) x k hb.0 lx))
above-one k x (Aggregation p i) (Aggregation q j) ha hb la lb lx e n =
    let same : i * (k / 2) + x ≡ j * (k / 2) + x = omega arith in
    let numbers = (same_from_place i x j x (k / 2) lx lx same).0 in
    let pods : p ≡ q = n in
    rw (pods, numbers) refl
above-one k x (Core g m) b ha hb la lb lx e n = absurd (omega arith)
above-one k x a (Core g m) ha hb la lb lx e n = absurd (omega arith)

-- a port that leads down is not one that leads up
no_up_port : (k x y s : ℕ) (label : Label) → IsLabel k label → s < edge_count k + edge_count k → number_of k label < edge_count k + edge_count k →
    number_of k (above label y) ≡ s → k / 2 + x ≡ number_below label → ⊥
no_up_port k x y s (Edge p i) is low below e n = let h = is.1 in omega arith
no_up_port k x y s (Aggregation p j) is low below e n = omega arith
no_up_port k x y s (Core g m) is low below e n = omega arith

-- the label of a link's lower switch
lower_is : (k n : ℕ) → 0 < k / 2 → n < link_count k → IsLabel k (label_of k (lower_at k n)) × (number_of k (label_of k (lower_at k n)) < edge_count k + edge_count k)
lower_is k n pos within =
    let low = lower_at-below k n pos within in
    (label_of-IsLabel k (lower_at k n) pos (omega arith), rw (number_of-label_of k (lower_at k n)) low)

pub lower-upper : (k n : ℕ) → 0 < k / 2 → n < link_count k → lower_at k n < upper_at k n
lower-upper k n pos within =
    let (label, low) = lower_is k n pos within in
    rw number_of-label_of at (above-higher k (n % (k / 2)) (label_of k (lower_at k n)) label low)

same_number : (k m n : ℕ) → lower_at k m ≡ lower_at k n → m % (k / 2) ≡ n % (k / 2) → m ≡ n
same_number k m n low uplink = sym (div-add-mod' m (k / 2)) ∙ rw (low, uplink) (div-add-mod' n (k / 2))

pub canonical_apart : (k m n : ℕ) → IsArity k → m < link_count k → n < link_count k → m ≢ n → (s p : ℕ) → IsAt (canonical_link k m) s p → IsAt (canonical_link k n) s p → ⊥
canonical_apart k m n arity lm ln differ s p at_m at_n =
    let two = half_at_least k arity in
    let pos : 0 < k / 2 = omega arith in
    let (label_m, low_m) = lower_is k m pos lm in
    let (label_n, low_n) = lower_is k n pos ln in
    let below_m = lower_at-below k m pos lm in
    let below_n = lower_at-below k n pos ln in
    elim at_m [
      | inl lower_m ↦ elim at_n [
        | inl lower_n ↦
            let low : lower_at k m ≡ lower_at k n = lower_m.0 ∙ sym lower_n.0 in
            let ports : k / 2 + m % (k / 2) ≡ k / 2 + n % (k / 2) = lower_m.1 ∙ sym lower_n.1 in
            differ (same_number k m n low (omega arith))
        | inr upper_n ↦
            no_up_port k (m % (k / 2)) (n % (k / 2)) (lower_at k m) (label_of k (lower_at k n)) label_n below_m low_n (upper_n.0 ∙ sym lower_m.0) (lower_m.1 ∙ sym upper_n.1)
      ]
      | inr upper_m ↦ elim at_n [
        | inl lower_n ↦
            no_up_port k (n % (k / 2)) (m % (k / 2)) (lower_at k n) (label_of k (lower_at k m)) label_m below_n low_m (upper_m.0 ∙ sym lower_n.0) (lower_n.1 ∙ sym upper_m.1)
        | inr upper_n ↦
            let upper : upper_at k m ≡ upper_at k n = upper_m.0 ∙ sym upper_n.0 in
            let uplink = upper_at-same_uplink k m n pos lm ln upper in
            let aligned : number_of k (above (label_of k (lower_at k m)) (n % (k / 2))) ≡ number_of k (above (label_of k (lower_at k n)) (n % (k / 2))) = (rw uplink at upper) in
            let low = above-one k (n % (k / 2)) (label_of k (lower_at k m)) (label_of k (lower_at k n)) label_m label_n low_m low_n (mod_below n (k / 2) pos) aligned (upper_m.1 ∙ sym upper_n.1) in
            differ (same_number k m n (sym (number_of-label_of k (lower_at k m)) ∙ low ∙ number_of-label_of k (lower_at k n)) uplink)
      ]
    ]

-- the ports of a canonical link are ports of the switches
number_below-port : (k : ℕ) (label : Label) → IsLabel k label → k / 2 ≤ k → number_below label < k
number_below-port k (Edge p i) is half = let h = is.1 in omega arith
number_below-port k (Aggregation p j) is half = is.0
number_below-port k (Core g m) is half = let h = is.1 in omega arith

pub canonical_ports : (k n : ℕ) → IsArity k → n < link_count k → ((canonical_link k n).lower_port < k) × ((canonical_link k n).upper_port < k)
canonical_ports k n arity within =
    let two = half_at_least k arity in
    let twice = twice_half k arity in
    let pos : 0 < k / 2 = omega arith in
    let uplink = mod_below n (k / 2) pos in
    let half : k / 2 ≤ k = omega arith in
    (omega arith, number_below-port k (label_of k (lower_at k n)) (lower_is k n pos within).0 half)
