-- What a key has in rows, and what an edit of the rows does to it.
use Rattle.std.proofs.Common.{◌≡◌, ℕ, zero, suc, ◌<◌, eqb, ◌≢◌, List, [], ◌∷◌, length, set, if◌then◌else◌, refl, arith}
use Rattle.std.specs.List.{insert, remove}
use Rattle.std.proofs.lemmas.Bool.Decides.{nat_tests}
use Rattle.pl_lists.specs.Ports.{ports_of}
use Rattle.pl_tables.specs.declared.port_rows.PortRow.{PortRow}
use Rattle.pl_tables.specs.Rows.{ports_at, row_at, RowIsAt}

-- no row before index i has the key
abbrev pub NoKeyBefore : List PortRow → ℕ → ℕ → Type 0
NoKeyBefore l k i = (j : ℕ) → j < i → (row_at l j).key ≢ k

-- k has these ports in the new rows, and any other key what it had
abbrev pub HasAfter : List PortRow → List PortRow → ℕ → List ℕ → Type 0
HasAfter old new k ports = (q : ℕ) → ports_at new q ≡ (if eqb k q then ports else ports_at old q)

no_key_before_tail : (x : PortRow) (l : List PortRow) (k i : ℕ) → NoKeyBefore (x ∷ l) k (suc i) → NoKeyBefore l k i
no_key_before_tail x l k i no_key j lt = no_key (suc j) (omega arith)

is_at_tail : (x : PortRow) (l : List PortRow) (k i : ℕ) → RowIsAt (x ∷ l) k (suc i) → RowIsAt l k i
is_at_tail x l k i is_at = record { within = omega (arith, is_at.within); has_key = is_at.has_key }

-- a key that no row has, has no ports
pub ports_absent : (l : List PortRow) (k : ℕ) → NoKeyBefore l k (length l) → ports_at l k ≡ []
ports_absent [] k no_key = refl
ports_absent (x ∷ l) k no_key = grind (arith, nat_tests, no_key 0 (omega arith), ports_absent l k (no_key_before_tail x l k _ no_key))

-- the first row that has the key gives its ports
pub ports_present : (l : List PortRow) (k i : ℕ) → RowIsAt l k i → NoKeyBefore l k i → ports_at l k ≡ ports_of (row_at l i).ports
ports_present [] k i is_at no_key = absurd (omega (arith, is_at.within))
ports_present (x ∷ l) k zero is_at no_key = grind (arith, nat_tests, is_at.has_key)
ports_present (x ∷ l) k (suc i) is_at no_key = grind (arith, nat_tests, no_key 0 (omega arith), ports_present l k i (is_at_tail x l k i is_at) (no_key_before_tail x l k i no_key))

-- writing over the first row that has the key sets its ports
pub ports_set : (l : List PortRow) (r : PortRow) (k i : ℕ) → r.key ≡ k → RowIsAt l k i → NoKeyBefore l k i → HasAfter l (set l i r) k (ports_of r.ports)
ports_set [] r k i is is_at no_key q = absurd (omega (arith, is_at.within))
ports_set (x ∷ l) r k zero is is_at no_key q = grind (arith, nat_tests, is, is_at.has_key)
ports_set (x ∷ l) r k (suc i) is is_at no_key q = grind (arith, nat_tests, no_key 0 (omega arith), ports_set l r k i is (is_at_tail x l k i is_at) (no_key_before_tail x l k i no_key) q)

-- so does a new row before any row that has the key
pub ports_inserted : (l : List PortRow) (r : PortRow) (k i : ℕ) → r.key ≡ k → NoKeyBefore l k i → HasAfter l (insert l i r) k (ports_of r.ports)
ports_inserted l r k zero is no_key q = rw is refl
ports_inserted [] r k (suc i) is no_key q = rw is refl
ports_inserted (x ∷ l) r k (suc i) is no_key q = grind (arith, nat_tests, no_key 0 (omega arith), ports_inserted l r k i is (no_key_before_tail x l k i no_key) q)

-- once the one row that has the key is gone, it has none
pub ports_removed : (l : List PortRow) (k i : ℕ) → RowIsAt l k i → NoKeyBefore l k i → ((j : ℕ) → i < j → j < length l → (row_at l j).key ≢ k) → HasAfter l (remove l i) k []
ports_removed [] k i is_at no_key none q = absurd (omega (arith, is_at.within))
ports_removed (x ∷ l) k zero is_at no_key none q =
    let gone = ports_absent l k (λ j lt. none (suc j) (omega arith) (omega arith)) in
    grind (arith, nat_tests, is_at.has_key, gone)
ports_removed (x ∷ l) k (suc i) is_at no_key none q =
    let rest = ports_removed l k i (is_at_tail x l k i is_at) (no_key_before_tail x l k i no_key) (λ j lt within. none (suc j) (omega arith) (omega arith)) q in
    grind (arith, nat_tests, no_key 0 (omega arith), rest)
