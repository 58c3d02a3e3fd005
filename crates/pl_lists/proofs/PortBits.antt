-- The ports of a set by their bits: one port after another, and what setting and clearing a bit does.
use Rattle.std.proofs.Common.{◌≡◌, ℕ, zero, suc, ◌+◌, ◌-◌, ◌*◌, ◌^◌, ◌%◌, ◌<◌, ◌≤◌, ◌≢◌, ◌==◌, Bool, true, false, cond, not, ◌&&◌, List, [], ◌∷◌, slice_get, bit_and, bit_or, w32, sym, refl, ap, subst, ◌∙◌, inl, inr, arith}
use Rattle.std.specs.Int.{bit_at, bit_not}
use Rattle.std.specs.List.{filter, list_any, range_with_len}
use Rattle.std.specs.Ordering.{nat_cmp}
use Rattle.std.specs.BTreeSet.{insert_key}
use Rattle.std.proofs.lemmas.Bool.{cases_order, eq-eqb, ne_eqb, lt-ltb, le-ltb}
use Rattle.std.proofs.lemmas.Nat.Bits.{bit_at_set_same, bit_at_set_other, bit_at_clear_same, bit_at_clear_other}
use Rattle.pl_lemmas.proofs.Exports.{and_false, and_true}
use Rattle.pl_lists.specs.declared.port_set.PortSet.{PortSet}
use Rattle.pl_lists.specs.Ports.{has_port, ports_of}

-- the ports of a set from one port on
unfoldable pub ports_from : PortSet → ℕ → List ℕ
ports_from set port = filter (has_port set) (range_with_len port (32 - port))

-- all ports are those from 0 on
pub ports_from-zero : (set : PortSet) → ports_from set 0 ≡ ports_of set
unfolding ports_of ports_from
ports_from-zero set = refl

-- from 32 on there are none
pub ports_from-end : (set : PortSet) → ports_from set 32 ≡ []
unfolding ports_from
ports_from-end set = refl

-- the ports from one in the set on are that one and those from the next on
pub ports_from-there : (set : PortSet) (port : ℕ) → port < 32 → has_port set port ≡ true → ports_from set port ≡ port ∷ ports_from set (port + 1)
unfolding ports_from
ports_from-there set port h there =
    let e : 32 - port ≡ suc (32 - (port + 1)) = omega arith in
    rw e (ap (λ b. cond b (port ∷ ports_from set (port + 1)) (ports_from set (port + 1))) there)

-- the ports from another on are those from the next on
pub ports_from-other : (set : PortSet) (port : ℕ) → port < 32 → has_port set port ≡ false → ports_from set port ≡ ports_from set (port + 1)
unfolding ports_from
ports_from-other set port h other =
    let e : 32 - port ≡ suc (32 - (port + 1)) = omega arith in
    rw e (ap (λ b. cond b (port ∷ ports_from set (port + 1)) (ports_from set (port + 1))) other)

-- what stands at an index behind the first
pub slice_get-next : (x : ℕ) (xs : List ℕ) (k : ℕ) → k ≢ 0 → slice_get (x ∷ xs) k ≡ slice_get xs (k - 1)
slice_get-next x xs zero h = absurd (h refl)
slice_get-next x xs (suc k) h = let e : suc k - 1 ≡ k = omega arith in rw e refl

module _ (has : ℕ → Bool) where
  abbrev kept : ℕ → ℕ → List ℕ
  kept a n = filter has (range_with_len a n)

  -- a number below a range is none of those kept of it
  any_below : (port a n : ℕ) → port < a → list_any (λ p. p == port) (kept a n) ≡ false
  any_below port a zero h = refl
  any_below port a (suc n) h =
      elim (has a) as (λ b. list_any (λ p. p == port) (cond b (a ∷ kept (a + 1) n) (kept (a + 1) n)) ≡ false) [
        | true ↦ rw (ne_eqb a port (omega arith)) (any_below port (a + 1) n (omega arith))
        | false ↦ any_below port (a + 1) n (omega arith)
      ]

  -- the first of a range is kept if it passes
  any_first : (a n : ℕ) → list_any (λ p. p == a) (kept a (suc n)) ≡ has a
  any_first a n =
      elim (has a) as (λ b. list_any (λ p. p == a) (cond b (a ∷ kept (a + 1) n) (kept (a + 1) n)) ≡ b) [
        | true ↦ rw (eq-eqb a a refl) refl
        | false ↦ any_below a (a + 1) n (omega arith)
      ]

  -- so is any of the range
  any_within : (port a n : ℕ) → a ≤ port → port < a + n → list_any (λ p. p == port) (kept a n) ≡ has port
  any_within port a zero h k = absurd (omega arith)
  any_within port a (suc n) h k =
      elim (cases_order a port) [
        | inl same ↦ subst (λ q. list_any (λ p. p == q) (kept a (suc n)) ≡ has q) same (any_first a n)
        | inr (inl less) ↦
            let rest = any_within port (a + 1) n (omega arith) (omega arith) in
            elim (has a) as (λ b. list_any (λ p. p == port) (cond b (a ∷ kept (a + 1) n) (kept (a + 1) n)) ≡ has port) [
              | true ↦ rw (ne_eqb a port (omega arith)) rest
              | false ↦ rest
            ]
        | inr (inr more) ↦ absurd (omega arith)
      ]

  -- a number below a range goes in front of those kept of it
  insert_below : (port a n : ℕ) → port < a → insert_key nat_cmp (kept a n) port ≡ port ∷ kept a n
  insert_below port a zero h = refl
  insert_below port a (suc n) h =
      elim (has a) as (λ b. insert_key nat_cmp (cond b (a ∷ kept (a + 1) n) (kept (a + 1) n)) port ≡ port ∷ cond b (a ∷ kept (a + 1) n) (kept (a + 1) n)) [
        | true ↦ rw (lt-ltb port a h) refl
        | false ↦ insert_below port (a + 1) n (omega arith)
      ]

module _ (old new : ℕ → Bool) where
  -- tests that agree along a range keep the same of it
  kept_alike : (a n : ℕ) → ((p : ℕ) → a ≤ p → new p ≡ old p) → kept new a n ≡ kept old a n
  kept_alike a zero h = refl
  kept_alike a (suc n) h =
      rw (h a (omega arith)) (ap (λ l. cond (old a) (a ∷ l) l) (kept_alike (a + 1) n (λ p low. h p (omega arith))))

  inserted_first : (a n : ℕ) → new a ≡ true → ((p : ℕ) → p ≢ a → new p ≡ old p) → kept new a (suc n) ≡ insert_key nat_cmp (kept old a (suc n)) a
  inserted_first a n here others =
      rw (here, kept_alike (a + 1) n (λ p low. others p (omega arith)))
      (elim (old a) as (λ b. a ∷ kept old (a + 1) n ≡ insert_key nat_cmp (cond b (a ∷ kept old (a + 1) n) (kept old (a + 1) n)) a) [
        | true ↦ rw (le-ltb a a (omega arith), eq-eqb a a refl) refl
        | false ↦ sym (insert_below old a (a + 1) n (omega arith))
      ])

  -- a test that passes one number more keeps that one besides, at its index
  kept_inserted : (port a n : ℕ) → new port ≡ true → ((p : ℕ) → p ≢ port → new p ≡ old p) → a ≤ port → port < a + n
      → kept new a n ≡ insert_key nat_cmp (kept old a n) port
  kept_inserted port a zero here others h k = absurd (omega arith)
  kept_inserted port a (suc n) here others h k =
      elim (cases_order a port) [
        | inl same ↦
            subst (λ q. new q ≡ true → ((p : ℕ) → p ≢ q → new p ≡ old p) → kept new a (suc n) ≡ insert_key nat_cmp (kept old a (suc n)) q) same
            (inserted_first a n) here others
        | inr (inl less) ↦
            let rest = kept_inserted port (a + 1) n here others (omega arith) (omega arith) in
            let as_before : new a ≡ old a = others a (omega arith) in
            rw as_before
            (elim (old a) as (λ b. cond b (a ∷ kept new (a + 1) n) (kept new (a + 1) n) ≡ insert_key nat_cmp (cond b (a ∷ kept old (a + 1) n) (kept old (a + 1) n)) port) [
              | true ↦ rw (le-ltb port a (omega arith), ne_eqb port a (omega arith)) (ap (λ l. a ∷ l) rest)
              | false ↦ rest
            ])
        | inr (inr more) ↦ absurd (omega arith)
      ]

  -- a test that passes one number less keeps the others
  kept_removed : (port a n : ℕ) → ((p : ℕ) → a ≤ p → p < a + n → new p ≡ (old p && not (p == port)))
      → kept new a n ≡ filter (λ p. not (p == port)) (kept old a n)
  kept_removed port a zero h = refl
  kept_removed port a (suc n) h =
      let rest = kept_removed port (a + 1) n (λ p low high. h p (omega arith) (omega arith)) in
      rw (h a (omega arith) (omega arith))
      (elim (old a) as (λ b. cond (b && not (a == port)) (a ∷ kept new (a + 1) n) (kept new (a + 1) n) ≡ filter (λ p. not (p == port)) (cond b (a ∷ kept old (a + 1) n) (kept old (a + 1) n))) [
        | true ↦ ap (λ l. cond (not (a == port)) (a ∷ l) l) rest
        | false ↦ rest
      ])

-- the bit of a port tells whether the port is in the set
pub has_port_is : (set : PortSet) (port : ℕ) → port < 32 → list_any (λ p. p == port) (ports_of set) ≡ has_port set port
unfolding ports_of
has_port_is set port h = any_within (has_port set) port 0 32 (omega arith) (omega arith)

-- setting a bit inserts its port
pub ports_of-set : (bits port : ℕ) → port < 32
    → ports_of (record { 0 = bit_or bits (1 * 2 ^ port % 2 ^ 32) }) ≡ insert_key nat_cmp (ports_of (record { 0 = bits })) port
unfolding ports_of
ports_of-set bits port h =
    kept_inserted (λ p. bit_at bits p == 1) (λ p. bit_at (bit_or bits (1 * 2 ^ port % 2 ^ 32)) p == 1) port 0 32
    (ap (λ b. b == 1) (bit_at_set_same w32 bits port h)) (λ p other. ap (λ b. b == 1) (bit_at_set_other w32 bits port h p other))
    (omega arith) (omega arith)

-- clearing a bit removes its port
pub ports_of-cleared : (bits port : ℕ) → port < 32
    → ports_of (record { 0 = bit_and bits (bit_not w32 (1 * 2 ^ port % 2 ^ 32)) }) ≡ filter (λ p. not (p == port)) (ports_of (record { 0 = bits }))
unfolding ports_of
ports_of-cleared bits port h =
    kept_removed (λ p. bit_at bits p == 1) (λ p. bit_at (bit_and bits (bit_not w32 (1 * 2 ^ port % 2 ^ 32))) p == 1) port 0 32
    (λ p low high. elim (cases_order p port) [
      | inl same ↦
          let cleared : bit_at (bit_and bits (bit_not w32 (1 * 2 ^ port % 2 ^ 32))) p ≡ 0 = subst (λ q. bit_at (bit_and bits (bit_not w32 (1 * 2 ^ port % 2 ^ 32))) q ≡ 0) (sym same) (bit_at_clear_same w32 bits port h) in
          ap (λ b. b == 1) cleared ∙ sym (ap (λ b. (bit_at bits p == 1) && not b) (eq-eqb p port same) ∙ and_false (bit_at bits p == 1))
      | inr (inl less) ↦ kept_bit p (omega arith) (omega arith)
      | inr (inr more) ↦ kept_bit p (omega arith) (omega arith)
    ])
  where
    kept_bit : (p : ℕ) → p < 32 → p ≢ port → (bit_at (bit_and bits (bit_not w32 (1 * 2 ^ port % 2 ^ 32))) p == 1) ≡ ((bit_at bits p == 1) && not (p == port))
    kept_bit p low other =
        ap (λ b. b == 1) (bit_at_clear_other w32 bits port h p low other)
        ∙ sym (ap (λ b. (bit_at bits p == 1) && not b) (ne_eqb p port other) ∙ and_true (bit_at bits p == 1))
