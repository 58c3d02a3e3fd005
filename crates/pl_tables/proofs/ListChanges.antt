-- Rows that follow a new avoid list, entry by entry and port by port.
use Rattle.std.proofs.Common.{◌≡◌, ℕ, ◌+◌, ◌/◌, ◌%◌, ◌<◌, ◌≢◌, ◌==◌, nat_lt, ◌&&◌, ◌||◌, not, Bool, true, false, if◌then◌else◌, List, [], ◌∷◌, length, get_or, take, Option, Some, None, Result, Ok, Err, OnOk, refl, sym, ap, subst, ◌∙◌, inl, inr, arith}
use Rattle.std.specs.List.{list_any}
use Rattle.std.specs.Ordering.{is_eq}
use Rattle.std.proofs.lemmas.Bool.{and_from, and_parts, cases_lt, cases_order, eq-eqb, eqb-true, ne_eqb, lt-ltb, le-ltb}
use Rattle.std.proofs.lemmas.List.{get_or_past}
use Rattle.std.proofs.lemmas.List.Folds.{list_any_more}
use Rattle.pl_lemmas.proofs.Exports.{and_false, and_true}
use Rattle.pl_frame.specs.declared.address.SwitchId.{SwitchId}
use Rattle.pl_node.specs.AvoidLists.{avoided_cmp}
use Rattle.pl_node.specs.AvoidRows.{is_listed}
use Rattle.pl_node.proofs.Exports.{is_itself, is_same, same_test}
use Rattle.pl_tables.specs.declared.lead.Lead.{Lead}
use Rattle.pl_tables.specs.declared.port_rows.PortRow.{PortRow}
use Rattle.pl_tables.specs.Leads.{avoids_by, has, is_entry_for, is_entry_of, lead_at, no_lead, AreAvoided, SetsEach, SetsWhere}
use Rattle.pl_tables.specs.Rows.{ports_at}

more : (list : List (SwitchId × ℕ × ℕ)) (i : ℕ) (entry : SwitchId × ℕ × ℕ) (u : Option SwitchId) (key : ℕ) → i < length list → entry ≡ get_or list i entry →
    avoids_by (take (i + 1) list) u key ≡ (avoids_by (take i list) u key || is_entry_for u key entry)
more list i entry None key within is = refl
more list i entry (Some u) key within is =
    list_any_more (is_entry_of u key) list i entry within ∙ ap (λ e. list_any (is_entry_of u key) (take i list) || is_entry_of u key e) (sym is)

twice : (a b is_in was : Bool) → (if b then is_in else (if a then is_in else was)) ≡ (if a || b then is_in else was)
twice true true is_in was = refl
twice true false is_in was = refl
twice false true is_in was = refl
twice false false is_in was = refl

-- one entry more of a list
pub entries_more : (start old new : List PortRow) (leads : List Lead) (list : List (SwitchId × ℕ × ℕ)) (i : ℕ) (entry : SwitchId × ℕ × ℕ) (is_in : Bool) →
    i < length list → entry ≡ get_or list i entry →
    SetsEach start old is_in (λ key q. avoids_by (take i list) (lead_at leads q).up key) →
    SetsEach old new is_in (λ key q. is_entry_for (lead_at leads q).up key entry) →
    SetsEach start new is_in (λ key q. avoids_by (take (i + 1) list) (lead_at leads q).up key)
entries_more start old new leads list i entry is_in within is before sets key q =
    let u = (lead_at leads q).up in
    sets key q
    ∙ ap (λ b. if is_entry_for u key entry then is_in else b) (before key q)
    ∙ twice (avoids_by (take i list) u key) (is_entry_for u key entry) is_in (has (ports_at start key) q)
    ∙ sym (ap (λ b. if b then is_in else has (ports_at start key) q) (more list i entry u key within is))

none_before : (u : Option SwitchId) (key : ℕ) → avoids_by [] u key ≡ false
none_before None key = refl
none_before (Some u) key = refl

-- of no entry
pub entries_none : (rows : List PortRow) (leads : List Lead) (list : List (SwitchId × ℕ × ℕ)) (is_in : Bool) →
    SetsEach rows rows is_in (λ key q. avoids_by (take 0 list) (lead_at leads q).up key)
entries_none rows leads list is_in key q = sym (ap (λ b. if b then is_in else has (ports_at rows key) q) (none_before (lead_at leads q).up key))

-- a list avoids a neighbour for a key where the entry of both is listed
listed_by : (u : SwitchId) (key : ℕ) (list : List (SwitchId × ℕ × ℕ)) → avoids_by list (Some u) key ≡ is_listed (u, key / 256, key % 256) list
listed_by u key [] = refl
listed_by u key (a ∷ list) =
    ap (λ b. b || list_any (is_entry_of u key) list) (one a) ∙ ap (λ b. is_eq (avoided_cmp (u, key / 256, key % 256) a) || b) (listed_by u key list)
  where
    x : SwitchId × ℕ × ℕ
    x = (u, key / 256, key % 256)

    one : (e : SwitchId × ℕ × ℕ) → is_entry_of u key e ≡ is_eq (avoided_cmp x e)
    one e = same_test (is_entry_of u key e) (is_eq (avoided_cmp x e))
        (λ h.
        let parts = and_parts (e.0.0 == u.0) ((e.1 == key / 256) && (e.2 == key % 256)) h in
        let rest = and_parts (e.1 == key / 256) (e.2 == key % 256) parts.1 in
        let of : e.0 ≡ u = ap (λ n. let s : SwitchId = record { 0 = n } in s) (eqb-true e.0.0 u.0 parts.0) in
        let pod = eqb-true e.1 (key / 256) rest.0 in
        let position = eqb-true e.2 (key % 256) rest.1 in
        let is : e ≡ x = (λ i. (of i, pod i, position i)) in
        subst (λ z. is_eq (avoided_cmp x z) ≡ true) (sym is) (is_itself x))
        (λ h. subst (λ z. is_entry_of u key z ≡ true) (is_same x e h)
        (and_from (u.0 == u.0) ((key / 256 == key / 256) && (key % 256 == key % 256)) (eq-eqb u.0 u.0 refl)
        (and_from (key / 256 == key / 256) (key % 256 == key % 256) (eq-eqb (key / 256) (key / 256) refl) (eq-eqb (key % 256) (key % 256) refl))))

beyond_by : (beyond list other : List (SwitchId × ℕ × ℕ)) → ((x : SwitchId × ℕ × ℕ) → is_listed x beyond ≡ (is_listed x list && not (is_listed x other))) →
    (u : Option SwitchId) (key : ℕ) → avoids_by beyond u key ≡ (avoids_by list u key && not (avoids_by other u key))
beyond_by beyond list other is None key = refl
beyond_by beyond list other is (Some u) key =
    listed_by u key beyond ∙ is (u, key / 256, key % 256)
    ∙ sym (λ i. listed_by u key list i && not (listed_by u key other i))

-- what one list has and another has not
pub beyond_set : {E : Type 0} (old new : List PortRow) (leads : List Lead) (beyond list other : List (SwitchId × ℕ × ℕ)) (is_in : Bool) (result : Result (Unit {0}) E) →
    ((x : SwitchId × ℕ × ℕ) → is_listed x beyond ≡ (is_listed x list && not (is_listed x other))) →
    OnOk result (SetsEach old new is_in (λ key q. avoids_by beyond (lead_at leads q).up key)) →
    OnOk result (SetsEach old new is_in (λ key q. avoids_by list (lead_at leads q).up key && not (avoids_by other (lead_at leads q).up key)))
beyond_set old new leads beyond list other is_in (Err e) is sets = sets
beyond_set old new leads beyond list other is_in (Ok d) is sets = λ key q.
    sets key q ∙ ap (λ b. if b then is_in else has (ports_at old key) q) (beyond_by beyond list other is (lead_at leads q).up key)

-- the ports before one are set
abbrev pub AreSetBefore : List PortRow → List PortRow → List Lead → SwitchId × ℕ × ℕ → Bool → ℕ → Type 0
AreSetBefore start rows leads entry is_in n = SetsEach start rows is_in (λ key q. nat_lt q n && is_entry_for (lead_at leads q).up key entry)

pub set_before : (start old new : List PortRow) (leads : List Lead) (entry : SwitchId × ℕ × ℕ) (is_in : Bool) (n : ℕ) (u : Option SwitchId) → u ≡ (lead_at leads n).up →
    AreSetBefore start old leads entry is_in n → SetsWhere old new n is_in (λ key. is_entry_for u key entry) → AreSetBefore start new leads entry is_in (n + 1)
set_before start old new leads entry is_in n u is before sets key q = elim (cases_order n q) [
  | inl same ↦
      by key q ∙ ap (λ b. if is_entry_for (lead_at leads n).up key entry && b then is_in else has (ports_at old key) q) (eq-eqb n q same)
      ∙ ap (λ b. if is_entry_for (lead_at leads n).up key entry && true then is_in else b) (before key q ∙ ap (λ b. if b && is_entry_for (lead_at leads q).up key entry then is_in else has (ports_at start key) q) (le-ltb q n (omega arith)))
      ∙ ap (λ b. if b then is_in else has (ports_at start key) q) (and_true (is_entry_for (lead_at leads n).up key entry) ∙ ap (λ p. is_entry_for (lead_at leads p).up key entry) same)
      ∙ sym (ap (λ b. if b && is_entry_for (lead_at leads q).up key entry then is_in else has (ports_at start key) q) (lt-ltb q (n + 1) (omega arith)))
  | inr (inl less) ↦
      other (omega arith) ∙ ap (λ b. if b && is_entry_for (lead_at leads q).up key entry then is_in else has (ports_at start key) q) (le-ltb q n (omega arith) ∙ sym (le-ltb q (n + 1) (omega arith)))
  | inr (inr more) ↦
      other (omega arith) ∙ ap (λ b. if b && is_entry_for (lead_at leads q).up key entry then is_in else has (ports_at start key) q) (lt-ltb q n (omega arith) ∙ sym (lt-ltb q (n + 1) (omega arith)))
]
  where
    by : (k p : ℕ) → has (ports_at new k) p ≡ (if is_entry_for (lead_at leads n).up k entry && (n == p) then is_in else has (ports_at old k) p)
    by k p = sets k p ∙ ap (λ w. if is_entry_for w k entry && (n == p) then is_in else has (ports_at old k) p) is

    other : n ≢ q → has (ports_at new key) q ≡ (if nat_lt q n && is_entry_for (lead_at leads q).up key entry then is_in else has (ports_at start key) q)
    other differs =
        by key q ∙ ap (λ b. if is_entry_for (lead_at leads n).up key entry && b then is_in else has (ports_at old key) q) (ne_eqb n q differs)
        ∙ ap (λ b. if b then is_in else has (ports_at old key) q) (and_false (is_entry_for (lead_at leads n).up key entry)) ∙ before key q

pub none_set : (rows : List PortRow) (leads : List Lead) (entry : SwitchId × ℕ × ℕ) (is_in : Bool) → AreSetBefore rows rows leads entry is_in 0
none_set rows leads entry is_in key q = sym (ap (λ b. if b && is_entry_for (lead_at leads q).up key entry then is_in else has (ports_at rows key) q) (le-ltb q 0 (omega arith)))

pub all_set : (old new : List PortRow) (leads : List Lead) (entry : SwitchId × ℕ × ℕ) (is_in : Bool) → length leads ≡ 24 → AreSetBefore old new leads entry is_in 24 →
    SetsEach old new is_in (λ key q. is_entry_for (lead_at leads q).up key entry)
all_set old new leads entry is_in many are key q = are key q ∙ ap (λ b. if b then is_in else has (ports_at old key) q) (elim (cases_lt q 24) [
  | inl below ↦ ap (λ b. b && is_entry_for (lead_at leads q).up key entry) (lt-ltb q 24 below)
  | inr beyond ↦
      ap (λ b. b && is_entry_for (lead_at leads q).up key entry) (le-ltb q 24 beyond)
      ∙ sym (ap (λ (l : Lead). is_entry_for l.up key entry) (get_or_past leads q no_lead (omega arith)))
])

by_both : (old new : Bool) → (if new && not old then true else (if old && not new then false else old)) ≡ new
by_both true true = refl
by_both true false = refl
by_both false true = refl
by_both false false = refl

-- what goes is cleared, and then what comes is set
pub list_changed : {E : Type 0} (start mid now : List PortRow) (leads : List Lead) (old new : List (SwitchId × ℕ × ℕ)) (result : Result (Unit {0}) E) →
    SetsEach start mid false (λ key q. avoids_by old (lead_at leads q).up key && not (avoids_by new (lead_at leads q).up key)) →
    OnOk result (SetsEach mid now true (λ key q. avoids_by new (lead_at leads q).up key && not (avoids_by old (lead_at leads q).up key))) →
    OnOk result (AreAvoided start leads old → AreAvoided now leads new)
list_changed start mid now leads old new (Err e) cleared sets = sets
list_changed start mid now leads old new (Ok d) cleared sets = λ are key q low.
    let u = (lead_at leads q).up in
    sets key q ∙ ap (λ b. if avoids_by new u key && not (avoids_by old u key) then true else b)
    (cleared key q ∙ ap (λ b. if avoids_by old u key && not (avoids_by new u key) then false else b) (are key q low))
    ∙ by_both (avoids_by old u key) (avoids_by new u key)
