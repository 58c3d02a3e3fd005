-- A set of ports against a test of the ports of a switch: what is said of the list, and what is said of each port.
use Rattle.std.proofs.Common.{◌≡◌, ℕ, zero, suc, ◌+◌, ◌-◌, ◌^◌, ◌<◌, ◌≤◌, ◌==◌, nat_lt, Bool, true, false, cond, not, ◌&&◌, List, [], ◌∷◌, ◌++◌, min, bit_and, w32, refl, sym, ap, subst, ◌∙◌, inl, inr, arith}
use Rattle.std.specs.Int.{bit_at, bit_not}
use Rattle.std.specs.List.{filter, list_any, range_with_len}
use Rattle.std.proofs.lemmas.Bool.{cases_order, cases_lt, eq-eqb, ne_eqb, lt-ltb, le-ltb}
use Rattle.std.proofs.lemmas.List.Elements.{filter-append}
use Rattle.std.proofs.lemmas.List.{append-nil}
use Rattle.std.proofs.lemmas.Nat.Bits.{bit_at_and, bit_at_not, bit_at-lt}
use Rattle.pl_lemmas.proofs.Exports.{range_parts}
use Rattle.pl_node.specs.PortRecords.{ports_of_switch}
use Rattle.pl_lists.specs.declared.port_set.PortSet.{PortSet}
use Rattle.pl_lists.specs.Ports.{has_port, ports_of}
use Rattle.pl_lists.proofs.Exports.{has_port_is}

module _ (has : ℕ → Bool) where
  abbrev kept : ℕ → ℕ → List ℕ
  kept a n = filter has (range_with_len a n)

  any_below : (port a n : ℕ) → port < a → list_any (λ p. p == port) (kept a n) ≡ false
  any_below port a zero h = refl
  any_below port a (suc n) h =
      elim (has a) as (λ b. list_any (λ p. p == port) (cond b (a ∷ kept (a + 1) n) (kept (a + 1) n)) ≡ false) [
        | true ↦ rw (ne_eqb a port (omega arith)) (any_below port (a + 1) n (omega arith))
        | false ↦ any_below port (a + 1) n (omega arith)
      ]

  any_beyond : (port a n : ℕ) → a + n ≤ port → list_any (λ p. p == port) (kept a n) ≡ false
  any_beyond port a zero h = refl
  any_beyond port a (suc n) h =
      elim (has a) as (λ b. list_any (λ p. p == port) (cond b (a ∷ kept (a + 1) n) (kept (a + 1) n)) ≡ false) [
        | true ↦ rw (ne_eqb a port (omega arith)) (any_beyond port (a + 1) n (omega arith))
        | false ↦ any_beyond port (a + 1) n (omega arith)
      ]

  any_first : (a n : ℕ) → list_any (λ p. p == a) (kept a (suc n)) ≡ has a
  any_first a n =
      elim (has a) as (λ b. list_any (λ p. p == a) (cond b (a ∷ kept (a + 1) n) (kept (a + 1) n)) ≡ b) [
        | true ↦ rw (eq-eqb a a refl) refl
        | false ↦ any_below a (a + 1) n (omega arith)
      ]

  any_within : (port a n : ℕ) → a ≤ port → port < a + n → list_any (λ p. p == port) (kept a n) ≡ has port
  any_within port a zero h k = absurd (omega arith)
  any_within port a (suc n) h k =
      elim (cases_order a port) [
        | inl same ↦ subst (λ q. list_any (λ p. p == q) (kept a (suc n)) ≡ has q) same (any_first a n)
        | inr (inl less) ↦
            let rest = any_within port (a + 1) n (omega arith) (omega arith) in
            elim (has a) as (λ b. list_any (λ p. p == port) (cond b (a ∷ kept (a + 1) n) (kept (a + 1) n)) ≡ has port) [
              | true ↦ rw (ne_eqb a port (omega arith)) rest
              | false ↦ rest
            ]
        | inr (inr more) ↦ absurd (omega arith)
      ]

  -- of the ports of a switch that pass
  pub any_passing : (k port : ℕ) → list_any (λ p. p == port) (filter has (ports_of_switch k)) ≡ (nat_lt port k && has port)
  any_passing k port = elim (cases_lt port k) [
    | inl below ↦ any_within port 0 k (omega arith) (omega arith) ∙ sym (ap (λ b. b && has port) (lt-ltb port k below))
    | inr beyond ↦ any_beyond port 0 k (omega arith) ∙ sym (ap (λ b. b && has port) (le-ltb port k beyond))
  ]

module _ (old new : ℕ → Bool) where
  alike : (a n : ℕ) → ((p : ℕ) → a ≤ p → p < a + n → new p ≡ old p) → filter new (range_with_len a n) ≡ filter old (range_with_len a n)
  alike a zero h = refl
  alike a (suc n) h =
      rw (h a (omega arith) (omega arith)) (ap (λ l. cond (old a) (a ∷ l) l) (alike (a + 1) n (λ p low high. h p (omega arith) (omega arith))))

none_kept : (has : ℕ → Bool) (a n : ℕ) → ((p : ℕ) → a ≤ p → p < a + n → has p ≡ false) → filter has (range_with_len a n) ≡ []
none_kept has a zero h = refl
none_kept has a (suc n) h = rw (h a (omega arith) (omega arith)) (none_kept has (a + 1) n (λ p low high. h p (omega arith) (omega arith)))

-- a set that is the ports that pass has a port where it passes
pub each_port : (set : PortSet) (k : ℕ) (test : ℕ → Bool) → ports_of set ≡ filter test (ports_of_switch k) →
    (port : ℕ) → port < 32 → has_port set port ≡ (nat_lt port k && test port)
each_port set k test is port low = sym (has_port_is set port low) ∙ ap (list_any (λ p. p == port)) is ∙ any_passing test k port

-- and the other way round
pub all_ports : (set : PortSet) (k : ℕ) (test : ℕ → Bool) → k ≤ 32 →
    ((port : ℕ) → port < 32 → has_port set port ≡ (nat_lt port k && test port)) → ports_of set ≡ filter test (ports_of_switch k)
unfolding ports_of
all_ports set k test few has =
    ap (filter (has_port set)) (range_parts 0 k (32 - k) 32 k (omega arith) (omega arith))
    ∙ filter-append (has_port set) (range_with_len 0 k) (range_with_len k (32 - k))
    ∙ ap (λ l. filter (has_port set) (range_with_len 0 k) ++ l) (none_kept (has_port set) k (32 - k) (λ p low high. has p (omega arith) ∙ ap (λ b. b && test p) (le-ltb p k low)))
    ∙ append-nil (filter (has_port set) (range_with_len 0 k))
    ∙ alike test (has_port set) 0 k (λ p low high. has p (omega arith) ∙ ap (λ b. b && test p) (lt-ltb p k (omega arith)))

bit_without : (a b : ℕ) → a < 2 → b < 2 → (min a (1 - b) == 1) ≡ ((a == 1) && not (b == 1))
bit_without zero zero ha hb = refl
bit_without zero (suc zero) ha hb = refl
bit_without (suc zero) zero ha hb = refl
bit_without (suc zero) (suc zero) ha hb = refl
bit_without (suc (suc a)) b ha hb = absurd (omega arith)
bit_without zero (suc (suc b)) ha hb = absurd (omega arith)
bit_without (suc zero) (suc (suc b)) ha hb = absurd (omega arith)

-- the ports of one set that are not in another
pub has_without : (a b port : ℕ) → b < 2 ^ 32 → port < 32 →
    has_port (record { 0 = bit_and a (bit_not w32 b) }) port ≡ (has_port (record { 0 = a }) port && not (has_port (record { 0 = b }) port))
has_without a b port fits low =
    ap (λ x. x == 1) (bit_at_and a (bit_not w32 b) port ∙ ap (min (bit_at a port)) (bit_at_not w32 b port fits low))
    ∙ bit_without (bit_at a port) (bit_at b port) (bit_at-lt a port) (bit_at-lt b port)

none_of : (a n : ℕ) → filter (λ port. false) (range_with_len a n) ≡ []
none_of a zero = refl
none_of a (suc n) = none_of (a + 1) n

-- no port passes a test that none passes
pub no_ports : (k : ℕ) → filter (λ port. false) (ports_of_switch k) ≡ []
no_ports k = none_of 0 k

pub same_ports : (a b : PortSet) → ports_of a ≡ ports_of b → (port : ℕ) → port < 32 → has_port a port ≡ has_port b port
same_ports a b same port low = sym (has_port_is a port low) ∙ ap (list_any (λ p. p == port)) same ∙ has_port_is b port low
