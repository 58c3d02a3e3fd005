-- What an avoid list shows of its rows.
use Rattle.std.proofs.Common.{◌≡◌, ℕ, ◌+◌, ◌/◌, ◌%◌, ◌<◌, ◌==◌, ◌&&◌, ◌||◌, ◌↔◌, IsTrue, not, nat_lt, Bool, true, false, cond, List, [], ◌∷◌, ◌++◌, length, take, get_or, Option, Some, None, refl, sym, ap, ap₂, ◌∙◌, inl, inr, arith}
use Rattle.std.specs.List.{list_any}
use Rattle.std.specs.List.Sorted.{IsStrictlySortedBy}
use Rattle.std.specs.BTreeSet.{insert_key}
use Rattle.std.specs.Ordering.{is_eq}
use Rattle.std.proofs.lemmas.Bool.{and_from, and_parts, and_right, cases_eq, eq-eqb, eqb-true, false≢true, false_from_ne_true, lt-ltb, ltb-true, not-true, or_cases, or_left, or_parts, or_right}
use Rattle.std.proofs.lemmas.List.Folds.{list_any-append, list_any_at, list_any_more}
use Rattle.std.proofs.lemmas.List.Kept.{IsStrictlySortedBy-filter}
use Rattle.pl_lemmas.proofs.Exports.{or_false}
use Rattle.pl_bits.specs.Bits.{has_bit}
use Rattle.pl_layouts.specs.Equality.{same_switch}
use Rattle.pl_node.specs.AvoidLists.{avoided_cmp, is_for}
use Rattle.pl_node.specs.AvoidRows.{AreApart, AreListed, entries_of, entry_of, is_listed, listed_in, number_of, rows_have, stands_for}
use Rattle.pl_node.specs.Hidden.{hidden_at, shown}
use Rattle.pl_node.specs.declared.avoid_row.AvoidRow.{AvoidRow}
use Rattle.pl_node.specs.declared.hidden.Hidden.{Hidden}
use Rattle.pl_node.proofs.Among.{among_filter, among_filtered, any_among, member_passes}
use Rattle.pl_node.proofs.AvoidRows.{Avoided, among_listed, any_row, any_row_more, is_itself, is_same, list_rises, listed_among, listed_inserted, lists_by, number_back, of_number, row_lists, same_listed, same_test, same_within, within_more}

abbrev pub is_shown : Option Hidden → Avoided → Bool
is_shown hidden x = not (hidden_at hidden x.1 x.2)

-- ---- lists
pub listed_shown : (hidden : Option Hidden) (x : Avoided) (xs : List Avoided) → is_listed x (shown hidden xs) ≡ (is_listed x xs && is_shown hidden x)
unfolding shown
listed_shown hidden x xs =
    same_test (is_listed x (shown hidden xs)) (is_listed x xs && is_shown hidden x)
    (λ h.
    let two = among_filter (is_shown hidden) x xs (listed_among x (shown hidden xs) h) in
    and_from (is_listed x xs) (is_shown hidden x) (among_listed x xs two.0) two.1)
    (λ h.
    let two = and_parts (is_listed x xs) (is_shown hidden x) h in
    among_listed x (shown hidden xs) (among_filtered (is_shown hidden) x xs (listed_among x xs two.0) two.1))

pub shown_rises : (hidden : Option Hidden) (xs : List Avoided) → IsStrictlySortedBy avoided_cmp xs → IsStrictlySortedBy avoided_cmp (shown hidden xs)
unfolding shown
shown_rises hidden xs s = IsStrictlySortedBy-filter avoided_cmp (is_shown hidden) xs s

pub all_shown : (xs : List Avoided) → shown None xs ≡ xs
unfolding shown
all_shown [] = refl
all_shown (x ∷ xs) = ap (λ ys. x ∷ ys) (all_shown xs)

pub none_shown : (hidden : Option Hidden) → shown hidden [] ≡ []
unfolding shown
none_shown hidden = refl

-- what has just what is shown is what is shown
pub shown_is : (hidden : Option Hidden) (xs ys : List Avoided) → IsStrictlySortedBy avoided_cmp xs → IsStrictlySortedBy avoided_cmp ys →
    ((x : Avoided) → is_listed x ys ≡ (is_listed x xs && is_shown hidden x)) → ys ≡ shown hidden xs
shown_is hidden xs ys s t e = same_listed ys (shown hidden xs) t (shown_rises hidden xs s) (λ x. e x ∙ sym (listed_shown hidden x xs))

-- whether some entry is for an address
pub address_shown : (hidden : Option Hidden) (pod position : ℕ) (xs : List Avoided) →
    list_any (is_for pod position) (shown hidden xs) ≡ (not (hidden_at hidden pod position) && list_any (is_for pod position) xs)
unfolding shown
address_shown hidden pod position xs =
    same_test (list_any (is_for pod position) (shown hidden xs)) (not (hidden_at hidden pod position) && list_any (is_for pod position) xs) there back
  where
    same : (x : Avoided) → is_for pod position x ≡ true → is_shown hidden x ≡ not (hidden_at hidden pod position)
    same x h =
        let two = and_parts (x.1 == pod) (x.2 == position) h in
        (λ i. not (hidden_at hidden (eqb-true x.1 pod two.0 i) (eqb-true x.2 position two.1 i)))

    there : list_any (is_for pod position) (shown hidden xs) ≡ true → (not (hidden_at hidden pod position) && list_any (is_for pod position) xs) ≡ true
    there h =
        let some = member_passes (is_for pod position) (shown hidden xs) h in
        let two = among_filter (is_shown hidden) some.0 xs some.1 in
        and_from (not (hidden_at hidden pod position)) (list_any (is_for pod position) xs) (sym (same some.0 some.2) ∙ two.1)
        (any_among (is_for pod position) some.0 xs two.0 some.2)

    back : (not (hidden_at hidden pod position) && list_any (is_for pod position) xs) ≡ true → list_any (is_for pod position) (shown hidden xs) ≡ true
    back h =
        let two = and_parts (not (hidden_at hidden pod position)) (list_any (is_for pod position) xs) h in
        let some = member_passes (is_for pod position) xs two.1 in
        any_among (is_for pod position) some.0 (shown hidden xs) (among_filtered (is_shown hidden) some.0 xs some.1 (same some.0 some.2 ∙ two.0)) some.2

-- ---- what one list has and another has not, where both hide the same
pub left_of_shown : (hidden : Option Hidden) (x : Avoided) (xs ys : List Avoided) →
    ((is_listed x xs && not (is_listed x ys)) && is_shown hidden x)
    ≡ (is_listed x (shown hidden xs) && not (is_listed x (shown hidden ys)))
left_of_shown hidden x xs ys =
    by (is_listed x xs) (is_listed x ys) (is_shown hidden x)
    ∙ sym ((λ i. listed_shown hidden x xs i && not (listed_shown hidden x ys i)))
  where
    by : (a b s : Bool) → ((a && not b) && s) ≡ ((a && s) && not (b && s))
    by true true true = refl
    by true true false = refl
    by true false true = refl
    by true false false = refl
    by false b s = refl

-- ---- within
pub within_shown : (hidden : Option Hidden) (xs ys : List Avoided) →
    AreListed (λ x. is_listed x (shown hidden xs)) ys → AreListed (λ x. is_listed x (shown hidden xs)) (shown hidden ys)
within_shown hidden xs ys p x h =
    let two = and_parts (is_listed x xs) (is_shown hidden x) (sym (listed_shown hidden x xs) ∙ h) in
    listed_shown hidden x ys ∙ and_from (is_listed x ys) (is_shown hidden x) (p x h) two.1

pub within_whole : (test : Avoided → Bool) (hidden : Option Hidden) (ys : List Avoided) → AreListed test (shown hidden ys) → AreListed test ys
within_whole test hidden ys p x h = (and_parts (is_listed x ys) (is_shown hidden x) (sym (listed_shown hidden x ys) ∙ p x h)).0

pub same_shown : (hidden : Option Hidden) (xs ys : List Avoided) → IsStrictlySortedBy avoided_cmp xs → IsStrictlySortedBy avoided_cmp ys →
    AreListed (λ x. is_listed x (shown hidden xs)) ys → AreListed (λ x. is_listed x (shown hidden ys)) xs → shown hidden xs ≡ shown hidden ys
same_shown hidden xs ys s t p q =
    same_within (shown hidden xs) (shown hidden ys) (shown_rises hidden xs s) (shown_rises hidden ys t) (within_shown hidden xs ys p) (within_shown hidden ys xs q)

-- ---- rows
any_shown : (hidden : Option Hidden) (x : Avoided) (rows left : List AvoidRow) (others more : List Avoided) →
    list_any (λ row. is_listed x (entries_of row)) left ≡ (list_any (λ row. is_listed x (entries_of row)) rows && is_shown hidden x) →
    is_listed x more ≡ (is_listed x others && is_shown hidden x) →
    is_listed x (listed_in left more) ≡ (is_listed x (listed_in rows others) && is_shown hidden x)
any_shown hidden x rows left others more p q =
    lists_by x left more
    ∙ (λ i. p i || q i)
    ∙ by (list_any (λ row. is_listed x (entries_of row)) rows) (is_listed x others) (is_shown hidden x)
    ∙ ap (λ b. b && is_shown hidden x) (sym (lists_by x rows others))
  where
    by : (a b s : Bool) → ((a && s) || (b && s)) ≡ ((a || b) && s)
    by true b true = refl
    by true b false = and_right b false refl
    by false b s = refl

pub rows_shown : (hidden : Option Hidden) (rows left : List AvoidRow) (others more : List Avoided) →
    ((x : Avoided) → list_any (λ row. is_listed x (entries_of row)) left ≡ (list_any (λ row. is_listed x (entries_of row)) rows && is_shown hidden x)) →
    ((x : Avoided) → is_listed x more ≡ (is_listed x others && is_shown hidden x)) → listed_in left more ≡ shown hidden (listed_in rows others)
rows_shown hidden rows left others more p q =
    shown_is hidden (listed_in rows others) (listed_in left more) (list_rises rows others) (list_rises left more)
    (λ x. any_shown hidden x rows left others more (p x) (q x))

-- ---- the bits of what is hidden
numbered_at : (pod position number n : ℕ) → number_of pod position ≡ Some number → n < 288 → (n == number) ≡ ((pod == n / 12) && (position == n % 12))
numbered_at pod position number n is small =
    let at = of_number pod position number is in
    same_test (n == number) ((pod == n / 12) && (position == n % 12))
    (λ h.
    let same = eqb-true n number h in
    and_from (pod == n / 12) (position == n % 12) (eq-eqb pod (n / 12) (at.0 ∙ ap (λ m. m / 12) (sym same))) (eq-eqb position (n % 12) (at.1 ∙ ap (λ m. m % 12) (sym same))))
    (λ h.
    let two = and_parts (pod == n / 12) (position == n % 12) h in
    let p = eqb-true pod (n / 12) two.0 in
    let q = eqb-true position (n % 12) two.1 in
    let a = at.0 in
    let b = at.1 in
    eq-eqb n number (omega (arith, p, q, a, b)))

pub with_address_bits : (pod position number n : ℕ) (old new : Bool) → number_of pod position ≡ Some number → n < 288 → new ≡ ((n == number) || old) →
    new ≡ (((pod == n / 12) && (position == n % 12)) || old)
with_address_bits pod position number n old new is small e = e ∙ ap (λ b. b || old) (numbered_at pod position number n is small)

pub without_address_bits : (pod position n : ℕ) (old : Bool) → number_of pod position ≡ None → n < 288 → old ≡ (((pod == n / 12) && (position == n % 12)) || old)
without_address_bits pod position n old none small = sym (ap (λ b. b || old) (false_from_ne_true ((pod == n / 12) && (position == n % 12)) (λ h.
    let two = and_parts (pod == n / 12) (position == n % 12) h in
    let some : number_of pod position ≡ Some n =
    (λ i. number_of (eqb-true pod (n / 12) two.0 i) (eqb-true position (n % 12) two.1 i)) ∙ number_back n small in
    let both : None ≡ Some n = sym none ∙ some in absurd (cc))))

-- a pod's bits, position by position
pub one_position_more : (pod position n : ℕ) (old before now : Bool) → before ≡ (((pod == n / 12) && nat_lt (n % 12) position) || old) →
    now ≡ (((pod == n / 12) && (position == n % 12)) || before) → now ≡ (((pod == n / 12) && nat_lt (n % 12) (position + 1)) || old)
one_position_more pod position n old before now p q =
    q ∙ ap (λ b. ((pod == n / 12) && (position == n % 12)) || b) p
    ∙ by (pod == n / 12) (position == n % 12) (nat_lt (n % 12) position) (nat_lt (n % 12) (position + 1)) (one_more_below (n % 12) position)
  where
    one_more_below : (m k : ℕ) → nat_lt m (k + 1) ≡ ((k == m) || nat_lt m k)
    one_more_below m k =
        same_test (nat_lt m (k + 1)) ((k == m) || nat_lt m k)
        (λ h.
        let less = ltb-true m (k + 1) h in
        elim (cases_eq k m) [
          | inl same ↦ or_left (k == m) (nat_lt m k) (eq-eqb k m same)
          | inr other ↦ or_right (k == m) (nat_lt m k) (lt-ltb m k (omega (arith, less, other)))
        ])
        (λ h. elim (or_cases (k == m) (nat_lt m k) h) [
          | inl same ↦ let is = eqb-true k m same in lt-ltb m (k + 1) (omega (arith, is))
          | inr less ↦ let below = ltb-true m k less in lt-ltb m (k + 1) (omega (arith, below))
        ])

    by : (a b c d : Bool) → d ≡ (b || c) → ((a && b) || ((a && c) || old)) ≡ ((a && d) || old)
    by true b c d e = or_parts_of b c ∙ ap (λ z. z || old) (sym e)
      where
        or_parts_of : (b c : Bool) → (b || (c || old)) ≡ ((b || c) || old)
        or_parts_of true c = refl
        or_parts_of false c = refl
    by false b c d e = refl

-- ---- one row
pub row_shown : (hidden : Option Hidden) (row less : AvoidRow) → less.neighbour ≡ row.neighbour →
    ((n : ℕ) → n < 288 → has_bit less.words n ≡ (has_bit row.words n && not (hidden_at hidden (n / 12) (n % 12)))) → (x : Avoided) →
    is_listed x (entries_of less) ≡ (is_listed x (entries_of row) && is_shown hidden x)
row_shown hidden row less of bits x =
    row_lists x less ∙ by (number_of x.1 x.2) refl ∙ ap (λ b. b && is_shown hidden x) (sym (row_lists x row))
  where
    table : (s b h : Bool) → ((s && (b && h)) || false) ≡ (((s && b) || false) && h)
    table true true true = refl
    table true true false = refl
    table true false h = refl
    table false b h = refl

    by : (o : Option ℕ) → number_of x.1 x.2 ≡ o → rows_have x.0 o (less ∷ []) ≡ (rows_have x.0 o (row ∷ []) && is_shown hidden x)
    by None e = refl
    by (Some n) e =
        let at = of_number x.1 x.2 n e in
        (λ i. (same_switch (of i) x.0 && bits n at.2 i) || false)
        ∙ table (same_switch row.neighbour x.0) (has_bit row.words n) (not (hidden_at hidden (n / 12) (n % 12)))
        ∙ ap₂ (λ pod position. ((same_switch row.neighbour x.0 && has_bit row.words n) || false) && not (hidden_at hidden pod position)) (sym at.0) (sym at.1)

spread : (a b s : Bool) → ((a || b) && s) ≡ ((a && s) || (b && s))
spread true b true = refl
spread true b false = sym (and_right b false refl)
spread false b s = refl

any_shown_more : (hidden : Option Hidden) (rows : List AvoidRow) (i : ℕ) (row : AvoidRow) → i < length rows → row ≡ get_or rows i row → (x : Avoided) →
    (any_row (take (i + 1) rows) x && is_shown hidden x) ≡ ((any_row (take i rows) x && is_shown hidden x) || (is_listed x (entries_of row) && is_shown hidden x))
any_shown_more hidden rows i row within is x =
    ap (λ b. b && is_shown hidden x) (any_row_more rows i row within is x) ∙ spread (any_row (take i rows) x) (is_listed x (entries_of row)) (is_shown hidden x)

-- the rows shown so far, and one more
pub rows_shown_more : (hidden : Option Hidden) (rows left now : List AvoidRow) (i : ℕ) (row less : AvoidRow) → i < length rows → row ≡ get_or rows i row →
    ((x : Avoided) → is_listed x (entries_of less) ≡ (is_listed x (entries_of row) && is_shown hidden x)) → now ≡ left ++ less ∷ [] →
    ((x : Avoided) → any_row left x ≡ (any_row (take i rows) x && is_shown hidden x)) →
    (x : Avoided) → any_row now x ≡ (any_row (take (i + 1) rows) x && is_shown hidden x)
rows_shown_more hidden rows left now i row less within is shows pushed before x =
    ap (λ rs. any_row rs x) pushed
    ∙ list_any-append (λ r. is_listed x (entries_of r)) left (less ∷ [])
    ∙ ap (λ b. b || (is_listed x (entries_of less) || false)) (before x)
    ∙ ap (λ b. (any_row (take i rows) x && is_shown hidden x) || b) (sym (or_false (is_listed x (entries_of less))) ∙ shows x)
    ∙ sym (any_shown_more hidden rows i row within is x)

-- and within another list
pub rows_within_shown : (hidden : Option Hidden) (rows : List AvoidRow) (i : ℕ) (row less : AvoidRow) (other : List Avoided) → i < length rows → row ≡ get_or rows i row →
    ((x : Avoided) → is_listed x (entries_of less) ≡ (is_listed x (entries_of row) && is_shown hidden x)) →
    AreListed (λ x. is_listed x (entries_of less)) other → AreListed (λ x. any_row (take i rows) x && is_shown hidden x) other →
    AreListed (λ x. any_row (take (i + 1) rows) x && is_shown hidden x) other
rows_within_shown hidden rows i row less other within is shows here before =
    within_more (λ x. any_row (take i rows) x && is_shown hidden x) (λ x. is_listed x (entries_of row) && is_shown hidden x)
    (λ x. any_row (take (i + 1) rows) x && is_shown hidden x) other before (λ x h. here x (shows x ∙ h)) (any_shown_more hidden rows i row within is)

pub row_not_within_shown : (hidden : Option Hidden) (rows : List AvoidRow) (i : ℕ) (row less : AvoidRow) (other : List Avoided) (b : Bool) → i < length rows →
    row ≡ get_or rows i row → ((x : Avoided) → is_listed x (entries_of less) ≡ (is_listed x (entries_of row) && is_shown hidden x)) →
    (IsTrue b ↔ AreListed (λ x. is_listed x (entries_of less)) other) → b ≡ false →
    IsTrue false ↔ AreListed (λ x. any_row rows x && is_shown hidden x) other
row_not_within_shown hidden rows i row less other b within is shows tells not_b = (
  λ u. absurd (false≢true u),
  λ all. sym not_b ∙ tells.1 (λ x h.
      let two = and_parts (is_listed x (entries_of row)) (is_shown hidden x) (sym (shows x) ∙ h) in
      all x (and_from (any_row rows x) (is_shown hidden x)
      (list_any_at (λ r. is_listed x (entries_of r)) rows i row within (ap (λ r. is_listed x (entries_of r)) (sym is) ∙ two.0)) two.1)),
)

-- all that is listed and not hidden, by rows
pub within_by_rows : (hidden : Option Hidden) (rows : List AvoidRow) (others other : List Avoided) →
    AreListed (λ x. any_row rows x && is_shown hidden x) other → AreListed (λ x. is_listed x others && is_shown hidden x) other →
    AreListed (λ x. is_listed x (shown hidden (listed_in rows others))) other
within_by_rows hidden rows others other p q x h =
    let two = and_parts (is_listed x (listed_in rows others)) (is_shown hidden x) (sym (listed_shown hidden x (listed_in rows others)) ∙ h) in
    elim (or_cases (any_row rows x) (is_listed x others) (sym (lists_by x rows others) ∙ two.0)) [
      | inl a ↦ p x (and_from (any_row rows x) (is_shown hidden x) a two.1)
      | inr b ↦ q x (and_from (is_listed x others) (is_shown hidden x) b two.1)
    ]

pub rows_of_within : (hidden : Option Hidden) (rows : List AvoidRow) (others other : List Avoided) →
    AreListed (λ x. is_listed x (shown hidden (listed_in rows others))) other → AreListed (λ x. any_row rows x && is_shown hidden x) other
rows_of_within hidden rows others other p x h =
    let two = and_parts (any_row rows x) (is_shown hidden x) h in
    p x (listed_shown hidden x (listed_in rows others) ∙ and_from (is_listed x (listed_in rows others)) (is_shown hidden x)
    (lists_by x rows others ∙ or_left (any_row rows x) (is_listed x others) two.0) two.1)

pub others_of_within : (hidden : Option Hidden) (rows : List AvoidRow) (others other : List Avoided) →
    AreListed (λ x. is_listed x (shown hidden (listed_in rows others))) other → AreListed (λ x. is_listed x others && is_shown hidden x) other
others_of_within hidden rows others other p x h =
    let two = and_parts (is_listed x others) (is_shown hidden x) h in
    p x (listed_shown hidden x (listed_in rows others) ∙ and_from (is_listed x (listed_in rows others)) (is_shown hidden x)
    (lists_by x rows others ∙ or_right (any_row rows x) (is_listed x others) two.0) two.1)

-- the same list shown, back
pub shown_back : (hidden : Option Hidden) (xs ys : List Avoided) → shown hidden xs ≡ shown hidden ys → AreListed (λ x. is_listed x (shown hidden ys)) xs
shown_back hidden xs ys same x h =
    (and_parts (is_listed x xs) (is_shown hidden x) (sym (listed_shown hidden x xs) ∙ ap (is_listed x) same ∙ h)).0

-- ---- where different things are hidden
pub in_shown : (hidden also : Option Hidden) (xs ys : List Avoided) → AreListed (λ x. is_listed x (shown hidden xs)) ys →
    AreApart (λ x. is_listed x (shown hidden xs)) also → AreListed (λ x. is_listed x (shown hidden xs)) (shown also ys)
in_shown hidden also xs ys p q x h = listed_shown also x ys ∙ and_from (is_listed x ys) (is_shown also x) (p x h) (ap not (q x h))

pub apart_in_shown : (hidden also : Option Hidden) (xs ys : List Avoided) → AreListed (λ x. is_listed x (shown hidden xs)) (shown also ys) →
    AreApart (λ x. is_listed x (shown hidden xs)) also
apart_in_shown hidden also xs ys p x h =
    not-true (hidden_at also x.1 x.2) (and_parts (is_listed x ys) (is_shown also x) (sym (listed_shown also x ys) ∙ p x h)).1

-- an entry that is added unless it is hidden
pub entries_shown_more : (hidden : Option Hidden) (entries left now : List Avoided) (i : ℕ) (entry : Avoided) → i < length entries → entry ≡ get_or entries i entry →
    now ≡ cond (hidden_at hidden entry.1 entry.2) left (insert_key avoided_cmp left entry) →
    ((x : Avoided) → is_listed x left ≡ (is_listed x (take i entries) && is_shown hidden x)) →
    (x : Avoided) → is_listed x now ≡ (is_listed x (take (i + 1) entries) && is_shown hidden x)
entries_shown_more hidden entries left now i entry within is added before x =
    ap (is_listed x) added ∙ by (hidden_at hidden entry.1 entry.2) refl
    ∙ ap (λ b. (is_listed x (take i entries) || b) && is_shown hidden x) (ap (λ a. is_eq (avoided_cmp x a)) is)
    ∙ ap (λ b. b && is_shown hidden x) (sym (list_any_more (λ a. is_eq (avoided_cmp x a)) entries i entry within))
  where
    here : Bool
    here = is_eq (avoided_cmp x entry)

    shown_there : (h : Bool) → hidden_at hidden entry.1 entry.2 ≡ h → here ≡ true → is_shown hidden x ≡ not h
    shown_there h e same = ap (λ (a : Avoided). not (hidden_at hidden a.1 a.2)) (is_same x entry same) ∙ ap not e

    table : (a b s : Bool) → (b ≡ true → s ≡ false) → (a && s) ≡ ((a || b) && s)
    table a true s f = ap (λ t. a && t) (f refl) ∙ and_right a false refl ∙ sym (ap (λ t. (a || true) && t) (f refl) ∙ and_right (a || true) false refl)
    table a false s f = ap (λ t. t && s) (or_false a)

    other_table : (a b s : Bool) → (b ≡ true → s ≡ true) → (b || (a && s)) ≡ ((a || b) && s)
    other_table a true s f = sym (ap (λ t. t && s) (or_right a true refl) ∙ f refl)
    other_table a false s f = ap (λ t. t && s) (or_false a)

    by : (h : Bool) → hidden_at hidden entry.1 entry.2 ≡ h →
        is_listed x (cond h left (insert_key avoided_cmp left entry)) ≡ ((is_listed x (take i entries) || here) && is_shown hidden x)
    by true e = before x ∙ table (is_listed x (take i entries)) here (is_shown hidden x) (shown_there true e)
    by false e =
        listed_inserted x entry left ∙ ap (λ b. here || b) (before x)
        ∙ other_table (is_listed x (take i entries)) here (is_shown hidden x) (shown_there false e)

-- ---- entries beside the rows
pub others_within_shown : (hidden : Option Hidden) (others : List Avoided) (i : ℕ) (entry : Avoided) (other : List Avoided) (b : Bool) → i < length others →
    entry ≡ get_or others i entry → b ≡ (hidden_at hidden entry.1 entry.2 || is_listed entry other) → b ≡ true →
    AreListed (λ x. is_listed x (take i others) && is_shown hidden x) other → AreListed (λ x. is_listed x (take (i + 1) others) && is_shown hidden x) other
others_within_shown hidden others i entry other b within is tells here before =
    within_more (λ x. is_listed x (take i others) && is_shown hidden x) (λ x. is_eq (avoided_cmp x entry) && is_shown hidden x)
    (λ x. is_listed x (take (i + 1) others) && is_shown hidden x) other before one (λ x.
    ap (λ t. t && is_shown hidden x)
    (list_any_more (λ a. is_eq (avoided_cmp x a)) others i entry within ∙ ap (λ a. is_listed x (take i others) || is_eq (avoided_cmp x a)) (sym is))
    ∙ spread (is_listed x (take i others)) (is_eq (avoided_cmp x entry)) (is_shown hidden x))
  where
    one : AreListed (λ x. is_eq (avoided_cmp x entry) && is_shown hidden x) other
    one x h =
        let two = and_parts (is_eq (avoided_cmp x entry)) (is_shown hidden x) h in
        let same = is_same x entry two.0 in
        let clear : hidden_at hidden entry.1 entry.2 ≡ false =
        not-true (hidden_at hidden entry.1 entry.2) (ap (λ (a : Avoided). not (hidden_at hidden a.1 a.2)) (sym same) ∙ two.1) in
        ap (λ a. is_listed a other) same ∙ sym (tells ∙ ap (λ t. t || is_listed entry other) clear) ∙ here

pub other_not_within_shown : (hidden : Option Hidden) (others : List Avoided) (i : ℕ) (entry : Avoided) (other : List Avoided) (b : Bool) → i < length others →
    entry ≡ get_or others i entry → b ≡ (hidden_at hidden entry.1 entry.2 || is_listed entry other) → b ≡ false →
    IsTrue false ↔ AreListed (λ x. is_listed x others && is_shown hidden x) other
other_not_within_shown hidden others i entry other b within is tells not_b =
    let two = or_parts (hidden_at hidden entry.1 entry.2) (is_listed entry other) (sym tells ∙ not_b) in (
      λ u. absurd (false≢true u),
      λ all. sym two.1 ∙ all entry (and_from (is_listed entry others) (is_shown hidden entry)
          (list_any_at (λ a. is_eq (avoided_cmp entry a)) others i entry within (ap (λ a. is_eq (avoided_cmp entry a)) (sym is) ∙ is_itself entry)) (ap not two.0)),
    )

-- ---- the same of what is hidden elsewhere
pub apart_more : (f g h : Avoided → Bool) (also : Option Hidden) → AreApart f also → AreApart g also → ((x : Avoided) → h x ≡ (f x || g x)) → AreApart h also
apart_more f g h also p q e x k = elim (or_cases (f x) (g x) (sym (e x) ∙ k)) [ inl a ↦ p x a | inr b ↦ q x b ]

pub apart_by_rows : (hidden also : Option Hidden) (rows : List AvoidRow) (others : List Avoided) →
    AreApart (λ x. any_row rows x && is_shown hidden x) also → AreApart (λ x. is_listed x others && is_shown hidden x) also →
    AreApart (λ x. is_listed x (shown hidden (listed_in rows others))) also
apart_by_rows hidden also rows others p q x h =
    let two = and_parts (is_listed x (listed_in rows others)) (is_shown hidden x) (sym (listed_shown hidden x (listed_in rows others)) ∙ h) in
    elim (or_cases (any_row rows x) (is_listed x others) (sym (lists_by x rows others) ∙ two.0)) [
      | inl a ↦ p x (and_from (any_row rows x) (is_shown hidden x) a two.1)
      | inr b ↦ q x (and_from (is_listed x others) (is_shown hidden x) b two.1)
    ]

pub rows_of_apart : (hidden also : Option Hidden) (rows : List AvoidRow) (others : List Avoided) →
    AreApart (λ x. is_listed x (shown hidden (listed_in rows others))) also → AreApart (λ x. any_row rows x && is_shown hidden x) also
rows_of_apart hidden also rows others p x h =
    let two = and_parts (any_row rows x) (is_shown hidden x) h in
    p x (listed_shown hidden x (listed_in rows others) ∙ and_from (is_listed x (listed_in rows others)) (is_shown hidden x)
    (lists_by x rows others ∙ or_left (any_row rows x) (is_listed x others) two.0) two.1)

pub others_of_apart : (hidden also : Option Hidden) (rows : List AvoidRow) (others : List Avoided) →
    AreApart (λ x. is_listed x (shown hidden (listed_in rows others))) also → AreApart (λ x. is_listed x others && is_shown hidden x) also
others_of_apart hidden also rows others p x h =
    let two = and_parts (is_listed x others) (is_shown hidden x) h in
    p x (listed_shown hidden x (listed_in rows others) ∙ and_from (is_listed x (listed_in rows others)) (is_shown hidden x)
    (lists_by x rows others ∙ or_right (any_row rows x) (is_listed x others) two.0) two.1)

pub rows_apart_more : (hidden also : Option Hidden) (rows : List AvoidRow) (i : ℕ) (row less : AvoidRow) → i < length rows → row ≡ get_or rows i row →
    ((x : Avoided) → is_listed x (entries_of less) ≡ (is_listed x (entries_of row) && is_shown hidden x)) →
    AreApart (λ x. is_listed x (entries_of less)) also → AreApart (λ x. any_row (take i rows) x && is_shown hidden x) also →
    AreApart (λ x. any_row (take (i + 1) rows) x && is_shown hidden x) also
rows_apart_more hidden also rows i row less within is shows here before =
    apart_more (λ x. any_row (take i rows) x && is_shown hidden x) (λ x. is_listed x (entries_of row) && is_shown hidden x)
    (λ x. any_row (take (i + 1) rows) x && is_shown hidden x) also before (λ x h. here x (shows x ∙ h)) (any_shown_more hidden rows i row within is)

pub row_not_apart : (hidden also : Option Hidden) (rows : List AvoidRow) (i : ℕ) (row less : AvoidRow) (b : Bool) → i < length rows → row ≡ get_or rows i row →
    ((x : Avoided) → is_listed x (entries_of less) ≡ (is_listed x (entries_of row) && is_shown hidden x)) →
    (IsTrue b ↔ AreApart (λ x. is_listed x (entries_of less)) also) → b ≡ false → IsTrue false ↔ AreApart (λ x. any_row rows x && is_shown hidden x) also
row_not_apart hidden also rows i row less b within is shows tells not_b = (
  λ u. absurd (false≢true u),
  λ all. sym not_b ∙ tells.1 (λ x h.
      let two = and_parts (is_listed x (entries_of row)) (is_shown hidden x) (sym (shows x) ∙ h) in
      all x (and_from (any_row rows x) (is_shown hidden x)
      (list_any_at (λ r. is_listed x (entries_of r)) rows i row within (ap (λ r. is_listed x (entries_of r)) (sym is) ∙ two.0)) two.1)),
)

pub bit_apart : (row : AvoidRow) (n : ℕ) (also : Option Hidden) →
    (has_bit row.words n ≡ true → hidden_at also (entry_of row.neighbour n).1 (entry_of row.neighbour n).2 ≡ false) → AreApart (λ x. stands_for row x n) also
bit_apart row n also clear x h =
    let two = and_parts (has_bit row.words n) (is_eq (avoided_cmp x (entry_of row.neighbour n))) h in
    ap (λ (z : Avoided). hidden_at also z.1 z.2) (is_same x (entry_of row.neighbour n) two.1) ∙ clear two.0

pub others_apart_more : (hidden also : Option Hidden) (others : List Avoided) (i : ℕ) (entry : Avoided) (b : Bool) → i < length others → entry ≡ get_or others i entry →
    b ≡ (hidden_at hidden entry.1 entry.2 || not (hidden_at also entry.1 entry.2)) → b ≡ true →
    AreApart (λ x. is_listed x (take i others) && is_shown hidden x) also → AreApart (λ x. is_listed x (take (i + 1) others) && is_shown hidden x) also
others_apart_more hidden also others i entry b within is tells here before =
    apart_more (λ x. is_listed x (take i others) && is_shown hidden x) (λ x. is_eq (avoided_cmp x entry) && is_shown hidden x)
    (λ x. is_listed x (take (i + 1) others) && is_shown hidden x) also before one (λ x.
    ap (λ t. t && is_shown hidden x)
    (list_any_more (λ a. is_eq (avoided_cmp x a)) others i entry within ∙ ap (λ a. is_listed x (take i others) || is_eq (avoided_cmp x a)) (sym is))
    ∙ spread (is_listed x (take i others)) (is_eq (avoided_cmp x entry)) (is_shown hidden x))
  where
    one : AreApart (λ x. is_eq (avoided_cmp x entry) && is_shown hidden x) also
    one x h =
        let two = and_parts (is_eq (avoided_cmp x entry)) (is_shown hidden x) h in
        let same = is_same x entry two.0 in
        let clear : hidden_at hidden entry.1 entry.2 ≡ false =
        not-true (hidden_at hidden entry.1 entry.2) (ap (λ (a : Avoided). not (hidden_at hidden a.1 a.2)) (sym same) ∙ two.1) in
        ap (λ (a : Avoided). hidden_at also a.1 a.2) same
        ∙ not-true (hidden_at also entry.1 entry.2) (sym (tells ∙ ap (λ t. t || not (hidden_at also entry.1 entry.2)) clear) ∙ here)

pub other_not_apart : (hidden also : Option Hidden) (others : List Avoided) (i : ℕ) (entry : Avoided) (b : Bool) → i < length others → entry ≡ get_or others i entry →
    b ≡ (hidden_at hidden entry.1 entry.2 || not (hidden_at also entry.1 entry.2)) → b ≡ false →
    IsTrue false ↔ AreApart (λ x. is_listed x others && is_shown hidden x) also
other_not_apart hidden also others i entry b within is tells not_b =
    let two = or_parts (hidden_at hidden entry.1 entry.2) (not (hidden_at also entry.1 entry.2)) (sym tells ∙ not_b) in (
      λ u. absurd (false≢true u),
      λ all. sym two.1 ∙ ap not (all entry (and_from (is_listed entry others) (is_shown hidden entry)
          (list_any_at (λ a. is_eq (avoided_cmp entry a)) others i entry within (ap (λ a. is_eq (avoided_cmp entry a)) (sym is) ∙ is_itself entry)) (ap not two.0))),
    )
