-- What a set has of each port once one is put in or taken out, and what rows have of it.
use Rattle.std.proofs.Common.{◌≡◌, ℕ, ◌+◌, ◌*◌, ◌/◌, ◌%◌, ◌<◌, ◌==◌, Bool, true, false, not, ◌&&◌, ◌||◌, if◌then◌else◌, List, [], ◌∷◌, length, get_or, take, Some, refl, sym, ap, ◌∙◌, inl, inr, arith}
use Rattle.std.specs.BTreeSet.{insert_key}
use Rattle.std.specs.List.{filter, list_any}
use Rattle.std.specs.Ordering.{nat_cmp}
use Rattle.std.proofs.lemmas.Bool.{cases_order, eq-eqb, ne_eqb, lt-ltb, le-ltb}
use Rattle.std.proofs.lemmas.List.Folds.{list_any_more}
use Rattle.pl_lemmas.proofs.Exports.{or_swap}
use Rattle.pl_frame.specs.declared.address.SwitchId.{SwitchId}
use Rattle.pl_tables.specs.declared.port_rows.PortRow.{PortRow}
use Rattle.pl_tables.specs.Leads.{avoids_by, has, is_entry_of, SetsWhere}
use Rattle.pl_tables.specs.Rows.{ports_at, PutsAt}

or_self : (a b : Bool) → (a || (a || b)) ≡ (a || b)
or_self true b = refl
or_self false b = refl

-- a port that is put in is there, and the others as before
has_inserted : (l : List ℕ) (port q : ℕ) → has (insert_key nat_cmp l port) q ≡ ((port == q) || has l q)
has_inserted [] port q = refl
has_inserted (x ∷ l) port q = elim (cases_order port x) [
  | inl same ↦ rw (le-ltb port x (omega arith), eq-eqb port x same) (rw same (sym (or_self (x == q) (has l q))))
  | inr (inl less) ↦ rw (lt-ltb port x less) refl
  | inr (inr more) ↦
      rw (le-ltb port x (omega arith), ne_eqb port x (omega arith))
      (ap (λ b. (x == q) || b) (has_inserted l port q) ∙ or_swap (x == q) (port == q) (has l q))
]

-- one that is taken out is not
has_removed : (l : List ℕ) (port q : ℕ) → has (filter (λ p. not (p == port)) l) q ≡ (if port == q then false else has l q)
has_removed [] port q = elim (port == q) as (λ b. false ≡ (if b then false else false)) [ true ↦ refl | false ↦ refl ]
has_removed (x ∷ l) port q = elim (cases_order x port) [
  | inl same ↦ rw (eq-eqb x port same) (has_removed l port q ∙ first x same)
  | inr (inl less) ↦ rw (ne_eqb x port (omega arith)) (ap (λ b. (x == q) || b) (has_removed l port q) ∙ other x (omega arith))
  | inr (inr more) ↦ rw (ne_eqb x port (omega arith)) (ap (λ b. (x == q) || b) (has_removed l port q) ∙ other x (omega arith))
]
  where
    first : (y : ℕ) → y ≡ port → (if port == q then false else has l q) ≡ (if port == q then false else ((y == q) || has l q))
    first y same = rw same (elim (port == q) as (λ b. (if b then false else has l q) ≡ (if b then false else (b || has l q))) [ true ↦ refl | false ↦ refl ])

    other : (y : ℕ) → (y ≡ port → ⊥) → ((y == q) || (if port == q then false else has l q)) ≡ (if port == q then false else ((y == q) || has l q))
    other y differ = elim (cases_order port q) [
      | inl same ↦ rw (eq-eqb port q same, ne_eqb y q (λ e. differ (e ∙ sym same))) refl
      | inr (inl less) ↦ rw (ne_eqb port q (omega arith)) refl
      | inr (inr more) ↦ rw (ne_eqb port q (omega arith)) refl
    ]

pub put_in : (old new : List ℕ) (port q : ℕ) → new ≡ insert_key nat_cmp old port → has new q ≡ (if port == q then true else has old q)
put_in old new port q is = ap (λ l. has l q) is ∙ has_inserted old port q ∙ elim (port == q) as (λ b. (b || has old q) ≡ (if b then true else has old q)) [ true ↦ refl | false ↦ refl ]

pub taken_out : (old new : List ℕ) (port q : ℕ) → new ≡ filter (λ p. not (p == port)) old → has new q ≡ (if port == q then false else has old q)
taken_out old new port q is = ap (λ l. has l q) is ∙ has_removed old port q

-- a set that is put under a key
pub set_under : (old new : List PortRow) (key port : ℕ) (is_in : Bool) (was set : List ℕ) → PutsAt old new key set → was ≡ ports_at old key →
    ((q : ℕ) → has set q ≡ (if port == q then is_in else has was q)) → SetsWhere old new port is_in (λ k. key == k)
set_under old new key port is_in was set puts at sets k q = elim (cases_order key k) [
  | inl same ↦ here same
  | inr (inl less) ↦ other (omega arith)
  | inr (inr more) ↦ other (omega arith)
]
  where
    here : key ≡ k → has (ports_at new k) q ≡ (if (key == k) && (port == q) then is_in else has (ports_at old k) q)
    here same =
        ap (λ l. has l q) (puts k ∙ ap (λ b. if b then set else ports_at old k) (eq-eqb key k same))
        ∙ sets q ∙ ap (λ b. if port == q then is_in else b) (ap (λ l. has l q) (at ∙ ap (ports_at old) same))
        ∙ sym (ap (λ b. if b && (port == q) then is_in else has (ports_at old k) q) (eq-eqb key k same))

    other : (key ≡ k → ⊥) → has (ports_at new k) q ≡ (if (key == k) && (port == q) then is_in else has (ports_at old k) q)
    other differ =
        ap (λ l. has l q) (puts k ∙ ap (λ b. if b then set else ports_at old k) (ne_eqb key k differ))
        ∙ sym (ap (λ b. if b && (port == q) then is_in else has (ports_at old k) q) (ne_eqb key k differ))

-- the address of a key
address_of : (pod position key : ℕ) → position < 256 → (pod * 256 + position == key) ≡ ((pod == key / 256) && (position == key % 256))
address_of pod position key low = elim (cases_order (pod * 256 + position) key) [
  | inl same ↦ rw (eq-eqb (pod * 256 + position) key same, eq-eqb pod (key / 256) (omega arith), eq-eqb position (key % 256) (omega arith)) refl
  | inr (inl less) ↦ differs (omega arith)
  | inr (inr more) ↦ differs (omega arith)
]
  where
    differs : (pod * 256 + position ≡ key → ⊥) → (pod * 256 + position == key) ≡ ((pod == key / 256) && (position == key % 256))
    differs other = rw (ne_eqb (pod * 256 + position) key other) (elim (cases_order pod (key / 256)) [
      | inl same ↦ rw (eq-eqb pod (key / 256) same, ne_eqb position (key % 256) (λ e. other (omega arith))) refl
      | inr (inl less) ↦ rw (ne_eqb pod (key / 256) (omega arith)) refl
      | inr (inr more) ↦ rw (ne_eqb pod (key / 256) (omega arith)) refl
    ])

-- an entry for this neighbour
pub entry_set : (old new : List PortRow) (entry : SwitchId × ℕ × ℕ) (u : SwitchId) (key port : ℕ) (is_in : Bool) → entry.2 < 256 → (entry.0.0 == u.0) ≡ true →
    key ≡ entry.1 * 256 + entry.2 → SetsWhere old new port is_in (λ k. key == k) → SetsWhere old new port is_in (λ k. is_entry_of u k entry)
entry_set old new entry u key port is_in low same is sets k q =
    sets k q ∙ ap (λ b. if b && (port == q) then is_in else has (ports_at old k) q)
    (ap (λ n. n == k) is ∙ address_of entry.1 entry.2 k low ∙ sym (ap (λ b. b && ((entry.1 == k / 256) && (entry.2 == k % 256))) same))

-- one for another neighbour
pub entry_passed : (rows : List PortRow) (entry : SwitchId × ℕ × ℕ) (u : SwitchId) (port : ℕ) (is_in : Bool) → (entry.0.0 == u.0) ≡ false → SetsWhere rows rows port is_in (λ k. is_entry_of u k entry)
entry_passed rows entry u port is_in other k q = sym (ap (λ b. if (b && ((entry.1 == k / 256) && (entry.2 == k % 256))) && (port == q) then is_in else has (ports_at rows k) q) other)

twice : (a b at is_in was : Bool) → (if b && at then is_in else (if a && at then is_in else was)) ≡ (if (a || b) && at then is_in else was)
twice true true true is_in was = refl
twice true true false is_in was = refl
twice true false true is_in was = refl
twice true false false is_in was = refl
twice false true true is_in was = refl
twice false true false is_in was = refl
twice false false at is_in was = refl

-- no key passes
pub set_nowhere : (rows : List PortRow) (port : ℕ) (is_in : Bool) (test : ℕ → Bool) → ((k : ℕ) → test k ≡ false) → SetsWhere rows rows port is_in test
set_nowhere rows port is_in test none k q = sym (ap (λ b. if b && (port == q) then is_in else has (ports_at rows k) q) (none k))

-- one entry more of a list
pub entries_more : (start old new : List PortRow) (list : List (SwitchId × ℕ × ℕ)) (i : ℕ) (entry : SwitchId × ℕ × ℕ) (u : SwitchId) (port : ℕ) (is_in : Bool) → i < length list →
    entry ≡ get_or list i entry → SetsWhere start old port is_in (avoids_by (take i list) (Some u)) → SetsWhere old new port is_in (λ k. is_entry_of u k entry) →
    SetsWhere start new port is_in (avoids_by (take (i + 1) list) (Some u))
entries_more start old new list i entry u port is_in within is before sets k q =
    sets k q
    ∙ ap (λ b. if is_entry_of u k entry && (port == q) then is_in else b) (before k q)
    ∙ twice (avoids_by (take i list) (Some u) k) (is_entry_of u k entry) (port == q) is_in (has (ports_at start k) q)
    ∙ sym (ap (λ b. if b && (port == q) then is_in else has (ports_at start k) q)
    (list_any_more (is_entry_of u k) list i entry within ∙ ap (λ e. list_any (is_entry_of u k) (take i list) || is_entry_of u k e) (sym is)))
