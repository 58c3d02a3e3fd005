-- The ports that pass a test: one port further, and by two tests.
use Rattle.std.proofs.Common.{◌≡◌, ℕ, zero, suc, ◌+◌, ◌-◌, ◌<◌, ◌≤◌, ◌==◌, Bool, true, false, cond, if◌then◌else◌, not, ◌&&◌, List, [], ◌∷◌, ◌++◌, refl, ap, ◌∙◌, arith}
use Rattle.std.specs.List.{filter, list_any, range_with_len}
use Rattle.std.proofs.lemmas.Bool.{ne_eqb}
use Rattle.std.proofs.lemmas.List.Elements.{filter-append}
use Rattle.pl_lemmas.proofs.Exports.{range_parts}
use Rattle.pl_node.specs.PortRecords.{ports_of_switch}
use Rattle.pl_lists.specs.declared.port_set.PortSet.{PortSet}
use Rattle.pl_lists.specs.Ports.{has_port, ports_of}
use Rattle.pl_lists.proofs.Exports.{has_port_is}
use Rattle.pl_steps.proofs.Exports.{passed_next}
use Rattle.pl_switch_rule.specs.GroupForwarding.{at_most_one}

-- where none passed before, and this one does not, none passed
pub none_passed : (passes : ℕ → Bool) (n : ℕ) → filter passes (ports_of_switch n) ≡ [] → passes n ≡ false → filter passes (ports_of_switch (n + 1)) ≡ []
none_passed passes n none fails = passed_next passes n ∙ ap (λ l. l ++ (if passes n then n ∷ [] else [])) none ∙ ap (λ b. if b then n ∷ [] else []) fails

-- where none passed before, and this one does, it is the first
pub first_passed : (passes : ℕ → Bool) (n k : ℕ) → n < k → filter passes (ports_of_switch n) ≡ [] → passes n ≡ true
    → at_most_one (filter passes (ports_of_switch k)) ≡ n ∷ []
first_passed passes n k below none passed =
    let later = filter passes (range_with_len (n + 1) (k - (n + 1))) in
    ap (λ l. at_most_one (filter passes l)) (range_parts 0 n (suc (k - (n + 1))) k n (omega arith) (omega arith))
    ∙ ap at_most_one (filter-append passes (ports_of_switch n) (range_with_len n (suc (k - (n + 1)))))
    ∙ ap (λ l. at_most_one (l ++ filter passes (range_with_len n (suc (k - (n + 1)))))) none
    ∙ ap (λ b. at_most_one (cond b (n ∷ later) later)) passed

-- no port passes a test that fails in its second part
pub fails_behind : (first : ℕ → Bool) (ports : List ℕ) → filter (λ p. first p && false) ports ≡ []
fails_behind first [] = refl
fails_behind first (port ∷ ports) = elim (first port) as (λ b. cond (b && false) (port ∷ filter (λ p. first p && false) ports) (filter (λ p. first p && false) ports) ≡ []) [
  | true ↦ fails_behind first ports
  | false ↦ fails_behind first ports
]

-- those that pass one test and then the other pass both
pub passes_both : (first next : ℕ → Bool) (ports : List ℕ) → filter next (filter first ports) ≡ filter (λ p. first p && next p) ports
passes_both first next [] = refl
passes_both first next (port ∷ ports) =
    elim (first port) as (λ b. filter next (cond b (port ∷ filter first ports) (filter first ports))
    ≡ cond (b && next port) (port ∷ filter (λ p. first p && next p) ports) (filter (λ p. first p && next p) ports)) [
      | true ↦ ap (λ l. cond (next port) (port ∷ l) l) (passes_both first next ports)
      | false ↦ passes_both first next ports
    ]

within_range : (has : ℕ → Bool) (port a n : ℕ) → a + n ≤ port
    → filter has (range_with_len a n) ≡ filter (λ p. not (port == p)) (filter has (range_with_len a n))
within_range has port a zero h = refl
within_range has port a (suc n) h =
    let rest = within_range has port (a + 1) n (omega arith) in
    elim (has a) as (λ b. cond b (a ∷ filter has (range_with_len (a + 1) n)) (filter has (range_with_len (a + 1) n))
    ≡ filter (λ p. not (port == p)) (cond b (a ∷ filter has (range_with_len (a + 1) n)) (filter has (range_with_len (a + 1) n)))) [
      | true ↦ rw (ne_eqb port a (omega arith)) (ap (λ l. a ∷ l) rest)
      | false ↦ rest
    ]

-- a set has no port from 32 on
pub has_none_beyond : (set : PortSet) (port : ℕ) → 32 ≤ port → ports_of set ≡ filter (λ p. not (port == p)) (ports_of set)
unfolding ports_of
has_none_beyond set port h = within_range (has_port set) port 0 32 (omega arith)

alike_within : (old new : ℕ → Bool) (a n : ℕ) → ((p : ℕ) → p < a + n → new p ≡ old p) → filter new (range_with_len a n) ≡ filter old (range_with_len a n)
alike_within old new a zero h = refl
alike_within old new a (suc n) h =
    rw (h a (omega arith)) (ap (λ l. cond (old a) (a ∷ l) l) (alike_within old new (a + 1) n (λ p low. h p (omega arith))))

-- the ports of a set are those that it contains
pub contained_ports : (set : PortSet) → filter (λ p. list_any (λ q. q == p) (ports_of set)) (ports_of_switch 32) ≡ ports_of set
unfolding ports_of
contained_ports set =
    alike_within (has_port set) (λ p. list_any (λ q. q == p) (ports_of set)) 0 32 (λ p low. has_port_is set p (omega arith))
