-- What an avoid list that is kept in rows has, and how it gains an entry.
use Rattle.std.proofs.Common.{Result, Ok, Err, OnOk, IsTrue, take, ◌≡◌, ℕ, zero, suc, ◌+◌, ◌-◌, ◌*◌, ◌/◌, ◌%◌, ◌^◌, ◌<◌, min, ◌==◌, ◌&&◌, ◌||◌, ◌↔◌, not, Bool, true, false, cond, List, [], ◌∷◌, ◌++◌, map, length, get_or, set, Option, Some, None, refl, sym, ap, ◌∙◌, subst, inl, inr, arith}
use Rattle.std.specs.Prelude.{fold, bit_and, slice_index}
use Rattle.std.specs.Int.{bit_at, bit_not, w64}
use Rattle.std.specs.Bool.{Decides}
use Rattle.std.specs.Cmp.Lexicographic.{pointwise}
use Rattle.std.specs.List.{filter, flat_map, list_any, range_with_len}
use Rattle.std.specs.List.Sorted.{IsStrictlySortedBy}
use Rattle.std.specs.Ordering.{is_eq}
use Rattle.std.specs.Cmp.{Equal-is}
use Rattle.std.specs.BTreeSet.{insert_key}
use Rattle.std.proofs.lemmas.Bool.{and_from, and_parts, cases_eq, cases_lt, eqb-true, eq-eqb, ne_eqb, false≢true, lt-ltb, le-ltb, or_left, or_right, or_cases}
use Rattle.std.proofs.lemmas.Bool.Decides.{Decides-and, Decides-eqb}
use Rattle.std.proofs.lemmas.Cmp.{tied_itself}
use Rattle.std.proofs.lemmas.List.Folds.{list_any-append, list_any_at, list_any_more}
use Rattle.std.proofs.lemmas.Nat.Bits.{bit_at-lt, bit_at_and, bit_at_not}
use Rattle.std.proofs.lemmas.Slice.Eq.{slice_eq-Decides}
use Rattle.pl_bits.specs.Bits.{has_bit, is_set}
use Rattle.pl_bits.proofs.Exports.{bit_set, set_elsewhere, set_here}
use Rattle.pl_frame.specs.declared.address.SwitchId.{SwitchId}
use Rattle.pl_layouts.specs.Equality.{same_switch}
use Rattle.pl_node.specs.ManagerViews.{in_order}
use Rattle.pl_node.specs.AvoidLists.{avoided_cmp, is_for}
use Rattle.pl_node.specs.AvoidRows.{AreListed, AreSameBeyond, Gains, entries_of, entry_of, is_listed, listed_in, number_of, row_has, rows_have, some_has, stands_for}
use Rattle.pl_node.specs.declared.avoid_row.AvoidRow.{AvoidRow}
use Rattle.pl_node.proofs.Among.{among_filter, among_filtered, among_in_order, among_insert, among_inserted, among_kept, among_map, among_mapped, among_ordered, among_range, any_among, IsAmong, member_passes, rising_in_order, rising_inserted}
use Rattle.pl_node.proofs.AvoidOrder.{avoided_exact, avoided_total}
use Rattle.pl_node.proofs.Ordering.{same_rising}

abbrev pub Avoided : Type 0
Avoided = SwitchId × ℕ × ℕ

-- two tests that follow from one another
pub same_test : (a b : Bool) → (a ≡ true → b ≡ true) → (b ≡ true → a ≡ true) → a ≡ b
same_test true true f g = refl
same_test true false f g = sym (f refl)
same_test false true f g = g refl
same_test false false f g = refl

-- ---- listed is among
pub is_itself : (x : Avoided) → is_eq (avoided_cmp x x) ≡ true
is_itself x = ap is_eq (tied_itself avoided_total x)

pub is_same : (x a : Avoided) → is_eq (avoided_cmp x a) ≡ true → x ≡ a
is_same x a e = avoided_exact x a ((Equal-is (avoided_cmp x a)).0 e)

pub listed_among : (x : Avoided) (xs : List Avoided) → is_listed x xs ≡ true → IsAmong x xs
listed_among x xs h =
    let some = member_passes (λ a. is_eq (avoided_cmp x a)) xs h in subst (λ z. IsAmong z xs) (sym (is_same x some.0 some.2)) some.1

pub among_listed : (x : Avoided) (xs : List Avoided) → IsAmong x xs → is_listed x xs ≡ true
among_listed x xs h = any_among (λ a. is_eq (avoided_cmp x a)) x xs h (is_itself x)

pub same_listed : (xs ys : List Avoided) → IsStrictlySortedBy avoided_cmp xs → IsStrictlySortedBy avoided_cmp ys →
    ((x : Avoided) → is_listed x xs ≡ is_listed x ys) → xs ≡ ys
same_listed xs ys s t f =
    same_rising avoided_cmp avoided_total avoided_exact xs ys s t
    (λ x h. listed_among x ys (sym (f x) ∙ among_listed x xs h))
    (λ x h. listed_among x xs (f x ∙ among_listed x ys h))

listed_in_order : (x : Avoided) (xs : List Avoided) → is_listed x (in_order avoided_cmp xs) ≡ is_listed x xs
listed_in_order x xs =
    same_test (is_listed x (in_order avoided_cmp xs)) (is_listed x xs)
    (λ h. among_listed x xs (among_ordered avoided_cmp x xs (listed_among x (in_order avoided_cmp xs) h)))
    (λ h. among_listed x (in_order avoided_cmp xs) (among_in_order avoided_cmp avoided_exact x xs (listed_among x xs h)))

pub listed_inserted : (x k : Avoided) (xs : List Avoided) → is_listed x (insert_key avoided_cmp xs k) ≡ (is_eq (avoided_cmp x k) || is_listed x xs)
listed_inserted x k xs = same_test (is_listed x (insert_key avoided_cmp xs k)) (is_eq (avoided_cmp x k) || is_listed x xs)
    (λ h. elim (among_insert avoided_cmp k x xs (listed_among x (insert_key avoided_cmp xs k) h)) [
      | inl is ↦ or_left (is_eq (avoided_cmp x k)) (is_listed x xs) (subst (λ z. is_eq (avoided_cmp x z) ≡ true) (sym is) (is_itself x))
      | inr old ↦ or_right (is_eq (avoided_cmp x k)) (is_listed x xs) (among_listed x xs old)
    ])
    (λ h. among_listed x (insert_key avoided_cmp xs k) (elim (or_cases (is_eq (avoided_cmp x k)) (is_listed x xs) h) [
      | inl is ↦ subst (λ z. IsAmong z (insert_key avoided_cmp xs k)) (sym (is_same x k is)) (among_inserted avoided_cmp avoided_exact k xs)
      | inr old ↦ among_kept avoided_cmp k x xs (listed_among x xs old)
    ]))

-- ---- rows
below_of_range : (n m a : ℕ) → IsAmong m (range_with_len a n) → m < a + n
below_of_range zero m a h = absurd h
below_of_range (suc n) m a (inl is) = omega (arith, is)
below_of_range (suc n) m a (inr h) = let less = below_of_range n m (a + 1) h in omega (arith, less)

has_number : (pod position : ℕ) → pod < 24 → position < 12 → number_of pod position ≡ Some (pod * 12 + position)
has_number pod position low small = rw (lt-ltb pod 24 low, lt-ltb position 12 small) refl

pub number_back : (n : ℕ) → n < 288 → number_of (n / 12) (n % 12) ≡ Some n
number_back n h = has_number (n / 12) (n % 12) (omega arith) (omega arith) ∙ ap Some (omega arith)

pub of_number : (pod position n : ℕ) → number_of pod position ≡ Some n → (pod ≡ n / 12) × (position ≡ n % 12) × (n < 288)
of_number pod position n e = elim (cases_lt pod 24) [
  | inr high ↦ let none : None ≡ Some n = sym (rw (le-ltb pod 24 high) refl) ∙ e in absurd (cc)
  | inl low ↦ elim (cases_lt position 12) [
    | inr large ↦ let none : None ≡ Some n = sym (rw (lt-ltb pod 24 low, le-ltb position 12 large) refl) ∙ e in absurd (cc)
    | inl small ↦
        let is : Some (pod * 12 + position) ≡ Some n = sym (has_number pod position low small) ∙ e in
        let same : pod * 12 + position ≡ n = cc in
        (omega (arith, same), omega (arith, same), omega (arith, same))
  ]
]

-- what a row has
pub row_lists : (x : Avoided) (row : AvoidRow) → is_listed x (entries_of row) ≡ rows_have x.0 (number_of x.1 x.2) (row ∷ [])
row_lists x row = same_test (is_listed x (entries_of row)) (rows_have x.0 (number_of x.1 x.2) (row ∷ [])) there back
  where
    bits : List ℕ
    bits = filter (has_bit row.words) (range_with_len 0 288)

    has : (n : ℕ) → x ≡ entry_of row.neighbour n → n < 288 → has_bit row.words n ≡ true → rows_have x.0 (number_of x.1 x.2) (row ∷ []) ≡ true
    has n is small set =
        ap (λ (z : Avoided). rows_have z.0 (number_of z.1 z.2) (row ∷ [])) is
        ∙ ap (λ o. rows_have row.neighbour o (row ∷ [])) (number_back n small)
        ∙ or_left (row_has row.neighbour n row) false
        (and_from (same_switch row.neighbour row.neighbour) (has_bit row.words n) (eq-eqb row.neighbour.0 row.neighbour.0 refl) set)

    there : is_listed x (entries_of row) ≡ true → rows_have x.0 (number_of x.1 x.2) (row ∷ []) ≡ true
    there h =
        let of = among_map (entry_of row.neighbour) x bits (listed_among x (entries_of row) h) in
        let bit = among_filter (has_bit row.words) of.0 (range_with_len 0 288) of.1 in
        has of.0 (sym of.2) (below_of_range 288 of.0 0 bit.0) bit.1

    back : rows_have x.0 (number_of x.1 x.2) (row ∷ []) ≡ true → is_listed x (entries_of row) ≡ true
    back h = by (number_of x.1 x.2) refl h
      where
        by : (o : Option ℕ) → number_of x.1 x.2 ≡ o → rows_have x.0 o (row ∷ []) ≡ true → is_listed x (entries_of row) ≡ true
        by None e k = absurd (false≢true k)
        by (Some n) e k =
            let parts = of_number x.1 x.2 n e in
            let one : row_has x.0 n row ≡ true = elim (or_cases (row_has x.0 n row) false k) [ inl a ↦ a | inr b ↦ absurd (false≢true b) ] in
            let two = and_parts (same_switch row.neighbour x.0) (has_bit row.words n) one in
            let of : row.neighbour ≡ x.0 = ap (λ m. let s : SwitchId = record { 0 = m } in s) (eqb-true row.neighbour.0 x.0.0 two.0) in
            let pod : n / 12 ≡ x.1 = sym parts.0 in
            let position : n % 12 ≡ x.2 = sym parts.1 in
            let is : entry_of row.neighbour n ≡ x = (λ i. (of i, pod i, position i)) in
            among_listed x (entries_of row)
            (subst (λ z. IsAmong z (entries_of row)) is
            (among_mapped (entry_of row.neighbour) n bits
            (among_filtered (has_bit row.words) n (range_with_len 0 288) (among_range n 0 288 n (omega arith) parts.2) two.1)))

one_more : (u : SwitchId) (o : Option ℕ) (row : AvoidRow) (rows : List AvoidRow) → rows_have u o (row ∷ rows) ≡ (rows_have u o (row ∷ []) || rows_have u o rows)
one_more u None row rows = refl
one_more u (Some n) row rows = by (row_has u n row)
  where
    by : (b : Bool) → (b || list_any (row_has u n) rows) ≡ ((b || false) || list_any (row_has u n) rows)
    by true = refl
    by false = refl

pub rows_list : (x : Avoided) (rows : List AvoidRow) → is_listed x (flat_map entries_of rows) ≡ rows_have x.0 (number_of x.1 x.2) rows
rows_list x [] = by (number_of x.1 x.2)
  where
    by : (o : Option ℕ) → false ≡ rows_have x.0 o []
    by None = refl
    by (Some n) = refl
rows_list x (row ∷ rows) =
    list_any-append (λ a. is_eq (avoided_cmp x a)) (entries_of row) (flat_map entries_of rows)
    ∙ ap (λ b. b || is_listed x (flat_map entries_of rows)) (row_lists x row)
    ∙ ap (λ b. rows_have x.0 (number_of x.1 x.2) (row ∷ []) || b) (rows_list x rows)
    ∙ sym (one_more x.0 (number_of x.1 x.2) row rows)

-- all that is kept
pub lists : (x : Avoided) (rows : List AvoidRow) (others : List Avoided) →
    is_listed x (listed_in rows others) ≡ (rows_have x.0 (number_of x.1 x.2) rows || is_listed x others)
unfolding listed_in
lists x rows others =
    listed_in_order x (flat_map entries_of rows ++ others)
    ∙ list_any-append (λ a. is_eq (avoided_cmp x a)) (flat_map entries_of rows) others
    ∙ ap (λ b. b || is_listed x others) (rows_list x rows)

pub list_rises : (rows : List AvoidRow) (others : List Avoided) → IsStrictlySortedBy avoided_cmp (listed_in rows others)
unfolding listed_in
list_rises rows others = rising_in_order avoided_cmp avoided_total (flat_map entries_of rows ++ others)

-- ---- a bit is set
or_moved : (a b c : Bool) → (a || (b || c)) ≡ (b || (a || c))
or_moved true true c = refl
or_moved true false c = refl
or_moved false true c = refl
or_moved false false c = refl

-- an item in the place of another
pub any_set : {X : Type 0} (test : X → Bool) (b : Bool) (xs : List X) (i : ℕ) (x : X) → i < length xs → test x ≡ (b || test (get_or xs i x)) →
    list_any test (set xs i x) ≡ (b || list_any test xs)
any_set test b [] i x h e = absurd (omega arith)
any_set test b (y ∷ ys) zero x h e = ap (λ c. c || list_any test ys) e ∙ by b (test y)
  where
    by : (c d : Bool) → ((c || d) || list_any test ys) ≡ (c || (d || list_any test ys))
    by true d = refl
    by false d = refl
any_set test b (y ∷ ys) (suc i) x h e =
    ap (λ c. test y || c) (any_set test b ys i x (omega arith) e) ∙ or_moved (test y) b (list_any test ys)

-- the list with one more entry that has a bit
pub gains_bit : (rows more : List AvoidRow) (others : List Avoided) (entry : Avoided) (n : ℕ) → number_of entry.1 entry.2 ≡ Some n →
    ((u : SwitchId) (m : ℕ) → list_any (row_has u m) more ≡ ((same_switch entry.0 u && (m == n)) || list_any (row_has u m) rows)) →
    listed_in more others ≡ insert_key avoided_cmp (listed_in rows others) entry
gains_bit rows more others entry n number gains =
    same_listed (listed_in more others) (insert_key avoided_cmp (listed_in rows others) entry) (list_rises more others)
    (rising_inserted avoided_cmp avoided_total entry (listed_in rows others) (list_rises rows others)) each
  where
    has : (x : Avoided) → rows_have x.0 (number_of x.1 x.2) more ≡ (is_eq (avoided_cmp x entry) || rows_have x.0 (number_of x.1 x.2) rows)
    has x = same_test (rows_have x.0 (number_of x.1 x.2) more) (is_eq (avoided_cmp x entry) || rows_have x.0 (number_of x.1 x.2) rows) (there (number_of x.1 x.2) refl) back
      where
        there : (o : Option ℕ) → number_of x.1 x.2 ≡ o → rows_have x.0 o more ≡ true → (is_eq (avoided_cmp x entry) || rows_have x.0 o rows) ≡ true
        there None e h = absurd (false≢true h)
        there (Some m) e h = elim (or_cases (same_switch entry.0 x.0 && (m == n)) (list_any (row_has x.0 m) rows) (sym (gains x.0 m) ∙ h)) [
          | inr old ↦ or_right (is_eq (avoided_cmp x entry)) (list_any (row_has x.0 m) rows) old
          | inl new ↦
              let two = and_parts (same_switch entry.0 x.0) (m == n) new in
              let of : entry.0 ≡ x.0 = ap (λ k. let s : SwitchId = record { 0 = k } in s) (eqb-true entry.0.0 x.0.0 two.0) in
              let same = eqb-true m n two.1 in
              let a = of_number x.1 x.2 m e in
              let b = of_number entry.1 entry.2 n number in
              let pod : entry.1 ≡ x.1 = b.0 ∙ ap (λ k. k / 12) (sym same) ∙ sym a.0 in
              let position : entry.2 ≡ x.2 = b.1 ∙ ap (λ k. k % 12) (sym same) ∙ sym a.1 in
              let is : entry ≡ x = (λ i. (of i, pod i, position i)) in
              or_left (is_eq (avoided_cmp x entry)) (list_any (row_has x.0 m) rows)
              (subst (λ z. is_eq (avoided_cmp x z) ≡ true) (sym is) (is_itself x))
        ]

        old_kept : (o : Option ℕ) → rows_have x.0 o rows ≡ true → rows_have x.0 o more ≡ true
        old_kept None h = h
        old_kept (Some m) h = gains x.0 m ∙ or_right (same_switch entry.0 x.0 && (m == n)) (list_any (row_has x.0 m) rows) h

        back : (is_eq (avoided_cmp x entry) || rows_have x.0 (number_of x.1 x.2) rows) ≡ true → rows_have x.0 (number_of x.1 x.2) more ≡ true
        back h = elim (or_cases (is_eq (avoided_cmp x entry)) (rows_have x.0 (number_of x.1 x.2) rows) h) [
          | inr old ↦ old_kept (number_of x.1 x.2) old
          | inl new ↦
              subst (λ (z : Avoided). rows_have z.0 (number_of z.1 z.2) more ≡ true) (sym (is_same x entry new))
              (ap (λ o. rows_have entry.0 o more) number ∙ gains entry.0 n
              ∙ or_left (same_switch entry.0 entry.0 && (n == n)) (list_any (row_has entry.0 n) rows)
              (and_from (same_switch entry.0 entry.0) (n == n) (eq-eqb entry.0.0 entry.0.0 refl) (eq-eqb n n refl)))
        ]

    each : (x : Avoided) → is_listed x (listed_in more others) ≡ is_listed x (insert_key avoided_cmp (listed_in rows others) entry)
    each x =
        lists x more others
        ∙ ap (λ b. b || is_listed x others) (has x)
        ∙ by (is_eq (avoided_cmp x entry)) (rows_have x.0 (number_of x.1 x.2) rows)
        ∙ sym (ap (λ b. is_eq (avoided_cmp x entry) || b) (lists x rows others))
        ∙ sym (listed_inserted x entry (listed_in rows others))
      where
        by : (a b : Bool) → ((a || b) || is_listed x others) ≡ (a || (b || is_listed x others))
        by true b = refl
        by false b = refl

-- or one that has none
pub gains_other : (rows : List AvoidRow) (others : List Avoided) (entry : Avoided) →
    listed_in rows (insert_key avoided_cmp others entry) ≡ insert_key avoided_cmp (listed_in rows others) entry
gains_other rows others entry =
    same_listed (listed_in rows (insert_key avoided_cmp others entry)) (insert_key avoided_cmp (listed_in rows others) entry)
    (list_rises rows (insert_key avoided_cmp others entry))
    (rising_inserted avoided_cmp avoided_total entry (listed_in rows others) (list_rises rows others)) (λ x.
    lists x rows (insert_key avoided_cmp others entry)
    ∙ ap (λ b. rows_have x.0 (number_of x.1 x.2) rows || b) (listed_inserted x entry others)
    ∙ or_moved (rows_have x.0 (number_of x.1 x.2) rows) (is_eq (avoided_cmp x entry)) (is_listed x others)
    ∙ sym (ap (λ b. is_eq (avoided_cmp x entry) || b) (lists x rows others))
    ∙ sym (listed_inserted x entry (listed_in rows others)))

-- a row with one more bit
pub bit_added : (words : List ℕ) (at n : ℕ) → at / 64 < length words → has_bit (bit_set words at) n ≡ ((n == at) || has_bit words n)
bit_added words at n room = elim (cases_eq n at) [
  | inl same ↦ ap (has_bit (bit_set words at)) same ∙ set_here words at room ∙ sym (or_left (n == at) (has_bit words n) (eq-eqb n at same))
  | inr other ↦ set_elsewhere words at room n other ∙ sym (ap (λ b. b || has_bit words n) (ne_eqb n at other))
]

pub same_default : {X : Type 0} (xs : List X) (i : ℕ) (a b : X) → i < length xs → get_or xs i a ≡ get_or xs i b
same_default [] i a b h = absurd (omega arith)
same_default (x ∷ xs) zero a b h = refl
same_default (x ∷ xs) (suc i) a b h = same_default xs i a b (omega arith)

pub row_set : (rows : List AvoidRow) (i number : ℕ) (neighbour : SwitchId) (old new : AvoidRow) → i < length rows →
    ((d : AvoidRow) → (get_or rows i d).neighbour ≡ neighbour) → old ≡ get_or rows i old → new.neighbour ≡ old.neighbour →
    ((n : ℕ) → has_bit new.words n ≡ ((n == number) || has_bit old.words n)) → (u : SwitchId) (n : ℕ) →
    list_any (row_has u n) (set rows i new) ≡ ((same_switch neighbour u && (n == number)) || list_any (row_has u n) rows)
row_set rows i number neighbour old new within of is same bits u n =
    any_set (row_has u n) (same_switch neighbour u && (n == number)) rows i new within
    (ap (λ s. same_switch s u && has_bit new.words n) (same ∙ named)
    ∙ ap (λ b. same_switch neighbour u && b) (bits n)
    ∙ by (same_switch neighbour u) (n == number) (has_bit old.words n)
    ∙ ap (λ (s : SwitchId). (same_switch neighbour u && (n == number)) || (same_switch s u && has_bit old.words n)) (sym named)
    ∙ ap (λ r. (same_switch neighbour u && (n == number)) || row_has u n r) (is ∙ same_default rows i old new within))
  where
    named : old.neighbour ≡ neighbour
    named = ap (λ (r : AvoidRow). r.neighbour) is ∙ of old

    by : (a b c : Bool) → (a && (b || c)) ≡ ((a && b) || (a && c))
    by true b c = refl
    by false b c = refl

-- ---- what is left over
any_of_bits : (row : AvoidRow) (x : Avoided) (ns : List ℕ) →
    is_listed x (map (entry_of row.neighbour) (filter (has_bit row.words) ns)) ≡ list_any (stands_for row x) ns
any_of_bits row x [] = refl
any_of_bits row x (n ∷ ns) = by (any_of_bits row x ns) (has_bit row.words n)
  where
    by : is_listed x (map (entry_of row.neighbour) (filter (has_bit row.words) ns)) ≡ list_any (stands_for row x) ns → (b : Bool) →
        is_listed x (map (entry_of row.neighbour) (cond b (n ∷ filter (has_bit row.words) ns) (filter (has_bit row.words) ns)))
        ≡ ((b && is_eq (avoided_cmp x (entry_of row.neighbour n))) || list_any (stands_for row x) ns)
    by rest true = ap (λ b. is_eq (avoided_cmp x (entry_of row.neighbour n)) || b) rest
    by rest false = rest

pub any_bit : (row : AvoidRow) (x : Avoided) → is_listed x (entries_of row) ≡ list_any (stands_for row x) (range_with_len 0 288)
any_bit row x = any_of_bits row x (range_with_len 0 288)

range_more : (n a j : ℕ) → a + n ≡ j → range_with_len a (n + 1) ≡ range_with_len a n ++ j ∷ []
range_more zero a j e = ap (λ z. z ∷ []) (omega (arith, e))
range_more (suc n) a j e =
    let next : suc n + 1 ≡ suc (n + 1) = omega arith in
    ap (range_with_len a) next ∙ ap (λ ns. a ∷ ns) (range_more n (a + 1) j (omega (arith, e)))

pub any_bit_more : (row : AvoidRow) (x : Avoided) (n : ℕ) →
    list_any (stands_for row x) (range_with_len 0 (n + 1)) ≡ (list_any (stands_for row x) (range_with_len 0 n) || stands_for row x n)
any_bit_more row x n =
    ap (list_any (stands_for row x)) (range_more n 0 n (omega arith))
    ∙ list_any-append (stands_for row x) (range_with_len 0 n) (n ∷ [])
    ∙ ap (λ b. list_any (stands_for row x) (range_with_len 0 n) || b) (by (stands_for row x n))
  where
    by : (b : Bool) → (b || false) ≡ b
    by true = refl
    by false = refl

pub gains_none : (l other : List Avoided) → Gains l l other (λ x. false)
gains_none l other x = by (is_listed x l)
  where
    by : (b : Bool) → b ≡ (b || false)
    by true = refl
    by false = refl

pub gains_more : (a b c other : List Avoided) (f g h : Avoided → Bool) → Gains a b other f → Gains b c other g →
    ((x : Avoided) → h x ≡ (f x || g x)) → Gains a c other h
gains_more a b c other f g h p q e x =
    q x ∙ ap (λ z. z || (g x && not (is_listed x other))) (p x)
    ∙ by (is_listed x a) (f x) (g x) (not (is_listed x other)) ∙ sym (ap (λ z. is_listed x a || (z && not (is_listed x other))) (e x))
  where
    by : (a b c d : Bool) → ((a || (b && d)) || (c && d)) ≡ (a || ((b || c) && d))
    by true b c d = refl
    by false true true true = refl
    by false true true false = refl
    by false true false true = refl
    by false true false false = refl
    by false false c d = refl

pub gains_same : (a b other : List Avoided) (f g : Avoided → Bool) → Gains a b other f → ((x : Avoided) → g x ≡ f x) → Gains a b other g
gains_same a b other f g p e x = p x ∙ sym (ap (λ z. is_listed x a || (z && not (is_listed x other))) (e x))

-- where the other list has all that passes, there is nothing to gain
pub gains_nothing : (l other : List Avoided) (f : Avoided → Bool) → AreListed f other → Gains l l other f
gains_nothing l other f has x = by (is_listed x l) (f x) (is_listed x other) (has x)
  where
    by : (a b c : Bool) → (b ≡ true → c ≡ true) → a ≡ (a || (b && not c))
    by true b c h = refl
    by false true c h = sym (ap not (h refl))
    by false false c h = refl

-- one entry
pub gains_one : (l other : List Avoided) (entry : Avoided) → is_listed entry other ≡ false →
    Gains l (insert_key avoided_cmp l entry) other (λ x. is_eq (avoided_cmp x entry))
gains_one l other entry none x = listed_inserted x entry l ∙ by (is_eq (avoided_cmp x entry)) refl
  where
    by : (b : Bool) → is_eq (avoided_cmp x entry) ≡ b → (b || is_listed x l) ≡ (is_listed x l || (b && not (is_listed x other)))
    by true e = sym (ap (λ (z : Avoided). is_listed x l || not (is_listed z other)) (is_same x entry e) ∙ ap (λ z. is_listed x l || not z) none ∙ or_right (is_listed x l) true refl)
    by false e = sym (gains_false (is_listed x l))
      where
        gains_false : (a : Bool) → (a || false) ≡ a
        gains_false true = refl
        gains_false false = refl

pub listed_one : (entry : Avoided) (other : List Avoided) → is_listed entry other ≡ true → AreListed (λ x. is_eq (avoided_cmp x entry)) other
listed_one entry other h x is = subst (λ z. is_listed z other ≡ true) (sym (is_same x entry is)) h

-- all that is kept, by rows
pub lists_by : (x : Avoided) (rows : List AvoidRow) (others : List Avoided) →
    is_listed x (listed_in rows others) ≡ (list_any (λ row. is_listed x (entries_of row)) rows || is_listed x others)
unfolding listed_in
lists_by x rows others =
    listed_in_order x (flat_map entries_of rows ++ others)
    ∙ list_any-append (λ a. is_eq (avoided_cmp x a)) (flat_map entries_of rows) others
    ∙ ap (λ b. b || is_listed x others) (any_row rows)
  where
    any_row : (rs : List AvoidRow) → is_listed x (flat_map entries_of rs) ≡ list_any (λ row. is_listed x (entries_of row)) rs
    any_row [] = refl
    any_row (r ∷ rs) =
        list_any-append (λ a. is_eq (avoided_cmp x a)) (entries_of r) (flat_map entries_of rs) ∙ ap (λ b. is_listed x (entries_of r) || b) (any_row rs)

pub left_over_is : (rows : List AvoidRow) (others a b other : List Avoided) →
    Gains [] a other (λ x. list_any (λ row. is_listed x (entries_of row)) rows) → Gains a b other (λ x. is_listed x others) → (x : Avoided) →
    is_listed x b ≡ (is_listed x (listed_in rows others) && not (is_listed x other))
left_over_is rows others a b other p q x =
    gains_more [] a b other (λ y. list_any (λ row. is_listed y (entries_of row)) rows) (λ y. is_listed y others) (λ y. is_listed y (listed_in rows others))
    p q (λ y. lists_by y rows others) x

pub gains_inserted : {E : Type 0} (l new other : List Avoided) (entry : Avoided) (result : Result (Unit {0}) E) → is_listed entry other ≡ false →
    OnOk result (new ≡ insert_key avoided_cmp l entry) → OnOk result (Gains l new other (λ x. is_eq (avoided_cmp x entry)))
gains_inserted l new other entry (Err e) none is = is
gains_inserted l new other entry (Ok d) none is = λ x. ap (λ z. is_listed x z) is ∙ gains_one l other entry none x

-- ---- within another list
pub within_rows : (rows : List AvoidRow) (others other : List Avoided) →
    AreListed (λ x. list_any (λ row. is_listed x (entries_of row)) rows) other → AreListed (λ x. is_listed x others) other →
    AreListed (λ x. is_listed x (listed_in rows others)) other
within_rows rows others other p q x h =
    elim (or_cases (list_any (λ row. is_listed x (entries_of row)) rows) (is_listed x others) (sym (lists_by x rows others) ∙ h)) [
      | inl a ↦ p x a
      | inr b ↦ q x b
    ]

pub within_left : (rows : List AvoidRow) (others other : List Avoided) →
    AreListed (λ x. is_listed x (listed_in rows others)) other → AreListed (λ x. list_any (λ row. is_listed x (entries_of row)) rows) other
within_left rows others other p x h = p x (lists_by x rows others ∙ or_left (list_any (λ row. is_listed x (entries_of row)) rows) (is_listed x others) h)

pub within_right : (rows : List AvoidRow) (others other : List Avoided) →
    AreListed (λ x. is_listed x (listed_in rows others)) other → AreListed (λ x. is_listed x others) other
within_right rows others other p x h = p x (lists_by x rows others ∙ or_right (list_any (λ row. is_listed x (entries_of row)) rows) (is_listed x others) h)

pub within_more : (f g h : Avoided → Bool) (other : List Avoided) → AreListed f other → AreListed g other → ((x : Avoided) → h x ≡ (f x || g x)) → AreListed h other
within_more f g h other p q e x k = elim (or_cases (f x) (g x) (sym (e x) ∙ k)) [ inl a ↦ p x a | inr b ↦ q x b ]

-- one number of a row
pub bit_listed : (row : AvoidRow) (n : ℕ) (other : List Avoided) → (has_bit row.words n ≡ true → is_listed (entry_of row.neighbour n) other ≡ true) →
    AreListed (λ x. stands_for row x n) other
bit_listed row n other has x h =
    let two = and_parts (has_bit row.words n) (is_eq (avoided_cmp x (entry_of row.neighbour n))) h in
    listed_one (entry_of row.neighbour n) other (has two.0) x two.1

pub same_within : (xs ys : List Avoided) → IsStrictlySortedBy avoided_cmp xs → IsStrictlySortedBy avoided_cmp ys →
    AreListed (λ x. is_listed x xs) ys → AreListed (λ x. is_listed x ys) xs → xs ≡ ys
same_within xs ys s t p q = same_listed xs ys s t (λ x. same_test (is_listed x xs) (is_listed x ys) (p x) (q x))

pub within_itself : (xs ys : List Avoided) → xs ≡ ys → AreListed (λ x. is_listed x xs) ys
within_itself xs ys is x h = ap (is_listed x) (sym is) ∙ h

pub all_left_over : (xs ys : List Avoided) → IsStrictlySortedBy avoided_cmp xs → IsStrictlySortedBy avoided_cmp ys →
    ((x : Avoided) → is_listed x xs ≡ (is_listed x ys && not (is_listed x []))) → xs ≡ ys
all_left_over xs ys s t e = same_listed xs ys s t (λ x. e x ∙ by (is_listed x ys))
  where
    by : (b : Bool) → (b && true) ≡ b
    by true = refl
    by false = refl

-- the same of calls that may want memory
pub gains_bit_if : {E : Type 0} (rows more : List AvoidRow) (others : List Avoided) (entry : Avoided) (n : ℕ) (result : Result (Unit {0}) E) →
    number_of entry.1 entry.2 ≡ Some n →
    OnOk result ((u : SwitchId) (m : ℕ) → list_any (row_has u m) more ≡ ((same_switch entry.0 u && (m == n)) || list_any (row_has u m) rows)) →
    OnOk result (listed_in more others ≡ insert_key avoided_cmp (listed_in rows others) entry)
gains_bit_if rows more others entry n (Err e) number gains = gains
gains_bit_if rows more others entry n (Ok d) number gains = gains_bit rows more others entry n number gains

pub gains_other_if : {E : Type 0} (rows : List AvoidRow) (others new : List Avoided) (entry : Avoided) (result : Result (Unit {0}) E) →
    OnOk result (new ≡ insert_key avoided_cmp others entry) → OnOk result (listed_in rows new ≡ insert_key avoided_cmp (listed_in rows others) entry)
gains_other_if rows others new entry (Err e) is = is
gains_other_if rows others new entry (Ok d) is = ap (listed_in rows) is ∙ gains_other rows others entry

-- ---- one step of a loop
abbrev pub any_row : List AvoidRow → Avoided → Bool
any_row rows x = list_any (λ row. is_listed x (entries_of row)) rows

pub any_row_more : (rows : List AvoidRow) (i : ℕ) (row : AvoidRow) → i < length rows → row ≡ get_or rows i row → (x : Avoided) →
    any_row (take (i + 1) rows) x ≡ (any_row (take i rows) x || is_listed x (entries_of row))
any_row_more rows i row within is x =
    list_any_more (λ r. is_listed x (entries_of r)) rows i row within ∙ ap (λ r. any_row (take i rows) x || is_listed x (entries_of r)) (sym is)

pub rows_gain : (start old new other : List Avoided) (rows : List AvoidRow) (i : ℕ) (row : AvoidRow) → i < length rows → row ≡ get_or rows i row →
    Gains start old other (λ x. list_any (λ r. is_listed x (entries_of r)) (take i rows)) →
    Gains old new other (λ x. is_listed x (entries_of row)) →
    Gains start new other (λ x. list_any (λ r. is_listed x (entries_of r)) (take (i + 1) rows))
rows_gain start old new other rows i row within is p q =
    gains_more start old new other (any_row (take i rows)) (λ x. is_listed x (entries_of row)) (any_row (take (i + 1) rows)) p q (any_row_more rows i row within is)

pub rows_within_more : (rows : List AvoidRow) (i : ℕ) (row : AvoidRow) (other : List Avoided) (b : Bool) → i < length rows → row ≡ get_or rows i row →
    (IsTrue b ↔ AreListed (λ x. is_listed x (entries_of row)) other) → b ≡ true →
    AreListed (λ x. list_any (λ r. is_listed x (entries_of r)) (take i rows)) other →
    AreListed (λ x. list_any (λ r. is_listed x (entries_of r)) (take (i + 1) rows)) other
rows_within_more rows i row other b within is tells here before =
    within_more (any_row (take i rows)) (λ x. is_listed x (entries_of row)) (any_row (take (i + 1) rows)) other before (tells.0 here) (any_row_more rows i row within is)

pub rows_not_within : (rows : List AvoidRow) (i : ℕ) (row : AvoidRow) (other : List Avoided) (b : Bool) → i < length rows → row ≡ get_or rows i row →
    (IsTrue b ↔ AreListed (λ x. is_listed x (entries_of row)) other) → b ≡ false →
    IsTrue false ↔ AreListed (λ x. list_any (λ r. is_listed x (entries_of r)) rows) other
rows_not_within rows i row other b within is tells not_b = (
  λ u. absurd (false≢true u),
  λ all. sym not_b ∙ tells.1 (λ x h. all x
      (list_any_at (λ r. is_listed x (entries_of r)) rows i row within (ap (λ r. is_listed x (entries_of r)) (sym is) ∙ h))),
)

pub others_not_within : (others : List Avoided) (i : ℕ) (entry : Avoided) (other : List Avoided) (b : Bool) → i < length others → entry ≡ get_or others i entry →
    b ≡ is_listed entry other → b ≡ false → IsTrue false ↔ AreListed (λ x. is_listed x others) other
others_not_within others i entry other b within is tells not_b = (
  λ u. absurd (false≢true u),
  λ all. sym not_b ∙ tells ∙ all entry
      (list_any_at (λ a. is_eq (avoided_cmp entry a)) others i entry within (ap (λ a. is_eq (avoided_cmp entry a)) (sym is) ∙ is_itself entry)),
)

pub row_found : (rows : List AvoidRow) (i : ℕ) (one row : AvoidRow) (b : Bool) → i < length rows → one ≡ get_or rows i one → (IsTrue b → one ≡ row) → b ≡ true →
    IsTrue true → (others : List Avoided) → AreListed (λ x. is_listed x (entries_of row)) (listed_in rows others)
row_found rows i one row b within is same here u others x h =
    lists_by x rows others
    ∙ or_left (any_row rows x) (is_listed x others)
    (list_any_at (λ r. is_listed x (entries_of r)) rows i one within
    (ap (λ r. is_listed x (entries_of r)) (sym is ∙ same here) ∙ h))

pub no_bit : (row : AvoidRow) (n : ℕ) (other : List Avoided) → has_bit row.words n ≡ false → AreListed (λ x. stands_for row x n) other
no_bit row n other none x h = absurd (false≢true (sym (ap (λ b. b && is_eq (avoided_cmp x (entry_of row.neighbour n))) none) ∙ h))

-- what a loop takes for an item past the last
abbrev pub blank_row : AvoidRow
blank_row = record { neighbour = record { 0 = 0 }; words = [] }

abbrev pub blank_entry : Avoided
blank_entry = (record { 0 = 0 }, 0, 0)

-- ---- one more row
pub listed_folded : (x : Avoided) (more xs : List Avoided) →
    is_listed x (fold (insert_key avoided_cmp) xs more) ≡ (is_listed x more || is_listed x xs)
listed_folded x [] xs = refl
listed_folded x (k ∷ more) xs =
    listed_folded x more (insert_key avoided_cmp xs k)
    ∙ ap (λ b. is_listed x more || b) (listed_inserted x k xs)
    ∙ sym (or_moved (is_eq (avoided_cmp x k)) (is_listed x more) (is_listed x xs))
    ∙ by (is_eq (avoided_cmp x k)) (is_listed x more) (is_listed x xs)
  where
    by : (a b c : Bool) → (a || (b || c)) ≡ ((a || b) || c)
    by true b c = refl
    by false b c = refl

pub folded_rises : (more xs : List Avoided) → IsStrictlySortedBy avoided_cmp xs → IsStrictlySortedBy avoided_cmp (fold (insert_key avoided_cmp) xs more)
folded_rises [] xs s = s
folded_rises (k ∷ more) xs s = folded_rises more (insert_key avoided_cmp xs k) (rising_inserted avoided_cmp avoided_total k xs s)

none_set : (f : ℕ → Bool) (xs : List ℕ) → ((n : ℕ) → f n ≡ false) → filter f xs ≡ []
none_set f [] none = refl
none_set f (n ∷ xs) none = ap (λ b. cond b (n ∷ filter f xs) (filter f xs)) (none n) ∙ none_set f xs none

pub stands_for_none : (row : AvoidRow) → ((n : ℕ) → has_bit row.words n ≡ false) → entries_of row ≡ []
stands_for_none row none = ap (map (entry_of row.neighbour)) (none_set (has_bit row.words) (range_with_len 0 288) none)

rows_one_more : (x : Avoided) (row : AvoidRow) (o : Option ℕ) (rows : List AvoidRow) → rows_have x.0 o (rows ++ row ∷ []) ≡ (rows_have x.0 o (row ∷ []) || rows_have x.0 o rows)
rows_one_more x row None rows = refl
rows_one_more x row (Some n) rows =
    list_any-append (row_has x.0 n) rows (row ∷ []) ∙ by (list_any (row_has x.0 n) rows) (list_any (row_has x.0 n) (row ∷ []))
  where
    by : (a b : Bool) → (a || b) ≡ (b || a)
    by true true = refl
    by true false = refl
    by false true = refl
    by false false = refl

pub gains_row : (rows : List AvoidRow) (others : List Avoided) (row : AvoidRow) →
    listed_in (rows ++ row ∷ []) others ≡ fold (insert_key avoided_cmp) (listed_in rows others) (entries_of row)
gains_row rows others row =
    same_listed (listed_in (rows ++ row ∷ []) others) (fold (insert_key avoided_cmp) (listed_in rows others) (entries_of row))
    (list_rises (rows ++ row ∷ []) others) (folded_rises (entries_of row) (listed_in rows others) (list_rises rows others)) each
  where
    each : (x : Avoided) → is_listed x (listed_in (rows ++ row ∷ []) others) ≡ is_listed x (fold (insert_key avoided_cmp) (listed_in rows others) (entries_of row))
    each x =
        lists x (rows ++ row ∷ []) others
        ∙ ap (λ b. b || is_listed x others) (rows_one_more x row (number_of x.1 x.2) rows)
        ∙ by (rows_have x.0 (number_of x.1 x.2) (row ∷ [])) (rows_have x.0 (number_of x.1 x.2) rows) (is_listed x others)
        ∙ ap (λ b. b || (rows_have x.0 (number_of x.1 x.2) rows || is_listed x others)) (sym (row_lists x row))
        ∙ ap (λ b. is_listed x (entries_of row) || b) (sym (lists x rows others))
        ∙ sym (listed_folded x (entries_of row) (listed_in rows others))
      where
        by : (a b c : Bool) → ((a || b) || c) ≡ (a || (b || c))
        by true b c = refl
        by false b c = refl

-- ---- a row without the bits of another
pub words_left : (left words others : List ℕ) →
    ((i bit : ℕ) → i < 5 → bit < 64 → is_set (slice_index left i) bit ≡ (is_set (slice_index words i) bit && not (is_set (slice_index others i) bit))) →
    (n : ℕ) → n < 288 → has_bit left n ≡ (has_bit words n && not (has_bit others n))
words_left left words others each n small = each (n / 64) (n % 64) (omega arith) (omega arith)

pub bits_left : (word other bit : ℕ) → other < 2 ^ 64 → bit < 64 → is_set (bit_and word (bit_not w64 other)) bit ≡ (is_set word bit && not (is_set other bit))
bits_left word other bit fits low =
    ap (λ b. b == 1) (bit_at_and word (bit_not w64 other) bit ∙ ap (min (bit_at word bit)) (bit_at_not w64 other bit fits low))
    ∙ by (bit_at word bit) (bit_at other bit) (bit_at-lt word bit) (bit_at-lt other bit)
  where
    by : (a b : ℕ) → a < 2 → b < 2 → (min a (1 - b) == 1) ≡ ((a == 1) && not (b == 1))
    by zero zero p q = refl
    by zero (suc zero) p q = refl
    by (suc zero) zero p q = refl
    by (suc zero) (suc zero) p q = refl
    by (suc (suc a)) b p q = absurd (omega (arith, p))
    by zero (suc (suc b)) p q = absurd (omega (arith, q))
    by (suc zero) (suc (suc b)) p q = absurd (omega (arith, q))

pub same_beyond : (rows : List AvoidRow) (i : ℕ) (one row less : AvoidRow) (others : List Avoided) → i < length rows → one ≡ get_or rows i one →
    one.neighbour ≡ row.neighbour → less.neighbour ≡ row.neighbour →
    ((n : ℕ) → n < 288 → has_bit less.words n ≡ (has_bit row.words n && not (has_bit one.words n))) → AreSameBeyond less row (listed_in rows others)
same_beyond rows i one row less others within is of left bits x =
    ap (λ b. b && not there) (row_lists x less) ∙ by (number_of x.1 x.2) refl ∙ sym (ap (λ b. b && not there) (row_lists x row))
  where
    there : Bool
    there = is_listed x (listed_in rows others)

    has : rows_have x.0 (number_of x.1 x.2) (one ∷ []) ≡ true → there ≡ true
    has h =
        lists_by x rows others
        ∙ or_left (any_row rows x) (is_listed x others)
        (list_any_at (λ r. is_listed x (entries_of r)) rows i one within
        (ap (λ r. is_listed x (entries_of r)) (sym is) ∙ row_lists x one ∙ h))

    table : (s a b t : Bool) → (((s && b) || false) ≡ true → t ≡ true) → (((s && (a && not b)) || false) && not t) ≡ (((s && a) || false) && not t)
    table false a b t h = refl
    table true false b t h = refl
    table true true false t h = refl
    table true true true t h = sym (ap not (h refl))

    by : (o : Option ℕ) → number_of x.1 x.2 ≡ o → (rows_have x.0 o (less ∷ []) && not there) ≡ (rows_have x.0 o (row ∷ []) && not there)
    by None e = refl
    by (Some n) e =
        let small : n < 288 = (of_number x.1 x.2 n e).2 in
        ap (λ b. (b || false) && not there) ((λ j. same_switch (left j) x.0 && bits n small j))
        ∙ table (same_switch row.neighbour x.0) (has_bit row.words n) (has_bit one.words n) there (λ h. has
        (ap (λ o. rows_have x.0 o (one ∷ [])) e ∙ ap (λ (s : SwitchId). (same_switch s x.0 && has_bit one.words n) || false) of ∙ h))

-- what is gained by the bits beyond
pub gains_beyond : {E : Type 0} (row less : AvoidRow) (old new other : List Avoided) (result : Result (Unit {0}) E) → AreSameBeyond less row other →
    OnOk result (Gains old new other (λ x. is_listed x (entries_of less))) → OnOk result (Gains old new other (λ x. is_listed x (entries_of row)))
gains_beyond row less old new other (Err e) same gains = gains
gains_beyond row less old new other (Ok d) same gains = λ x. gains x ∙ ap (λ b. is_listed x old || b) (same x)

pub within_beyond : (row less : AvoidRow) (other : List Avoided) (b : Bool) → AreSameBeyond less row other →
    (IsTrue b ↔ AreListed (λ x. is_listed x (entries_of less)) other) → IsTrue b ↔ AreListed (λ x. is_listed x (entries_of row)) other
within_beyond row less other b same tells = (
  λ h x is. by (is_listed x (entries_of less)) (is_listed x (entries_of row)) (is_listed x other) (same x) (tells.0 h x) is,
  λ all. tells.1 (λ x is. by (is_listed x (entries_of row)) (is_listed x (entries_of less)) (is_listed x other) (sym (same x)) (all x) is),
)
  where
    by : (a b c : Bool) → (a && not c) ≡ (b && not c) → (a ≡ true → c ≡ true) → b ≡ true → c ≡ true
    by a b true e f is = refl
    by true b false e f is = f refl
    by false true false e f is = e
    by false false false e f is = is

-- `==` at rows tells just those apart that differ
pub row_eq : (a b : AvoidRow) → Decides (a.neighbour.0 == b.neighbour.0 && pointwise (λ x y. x == y) a.words b.words) (a ≡ b)
row_eq a b =
    let both =
    Decides-and (a.neighbour.0 == b.neighbour.0) (pointwise (λ x y. x == y) a.words b.words) (Decides-eqb a.neighbour.0 b.neighbour.0)
    (slice_eq-Decides Decides-eqb a.words b.words (pointwise (λ x y. x == y) a.words b.words) refl) in (
      λ h.
          let is = both.0 h in
          (λ i. record { neighbour = record { 0 = is.0 i }; words = is.1 i }),
      λ e. both.1 (ap (λ (r : AvoidRow). r.neighbour.0) e, ap (λ (r : AvoidRow). r.words) e),
    )

-- ---- whether some entry is for an address
pub address_listed : (pod position : ℕ) (rows : List AvoidRow) (others : List Avoided) →
    (some_has (number_of pod position) rows || list_any (is_for pod position) others) ≡ list_any (is_for pod position) (listed_in rows others)
address_listed pod position rows others =
    same_test (some_has (number_of pod position) rows || list_any (is_for pod position) others) (list_any (is_for pod position) all) there back
  where
    all : List Avoided
    all = listed_in rows others

    kept : (x : Avoided) → is_listed x all ≡ true → is_for pod position x ≡ true → list_any (is_for pod position) all ≡ true
    kept x h passes = any_among (is_for pod position) x all (listed_among x all h) passes

    itself : (u : SwitchId) → is_for pod position (u, pod, position) ≡ true
    itself u = and_from (pod == pod) (position == position) (eq-eqb pod pod refl) (eq-eqb position position refl)

    by_row : (o : Option ℕ) → number_of pod position ≡ o → some_has o rows ≡ true → list_any (is_for pod position) all ≡ true
    by_row None e h = absurd (false≢true h)
    by_row (Some n) e h =
        let some = member_passes (λ (r : AvoidRow). has_bit r.words n) rows h in
        let u = some.0.neighbour in
        let has : rows_have u (number_of pod position) rows ≡ true =
        ap (λ o. rows_have u o rows) e
        ∙ any_among (row_has u n) some.0 rows some.1 (and_from (same_switch u u) (has_bit some.0.words n) (eq-eqb u.0 u.0 refl) some.2) in
        kept (u, pod, position)
        (lists (u, pod, position) rows others ∙ or_left (rows_have u (number_of pod position) rows) (is_listed (u, pod, position) others) has) (itself u)

    there : (some_has (number_of pod position) rows || list_any (is_for pod position) others) ≡ true → list_any (is_for pod position) all ≡ true
    there h = elim (or_cases (some_has (number_of pod position) rows) (list_any (is_for pod position) others) h) [
      | inl a ↦ by_row (number_of pod position) refl a
      | inr b ↦
          let some = member_passes (is_for pod position) others b in
          let x = some.0 in
          kept x (lists x rows others ∙ or_right (rows_have x.0 (number_of x.1 x.2) rows) (is_listed x others) (among_listed x others some.1)) some.2
    ]

    of_row : (u : SwitchId) (o : Option ℕ) → rows_have u o rows ≡ true → some_has o rows ≡ true
    of_row u None h = h
    of_row u (Some n) h =
        let some = member_passes (row_has u n) rows h in
        any_among (λ (r : AvoidRow). has_bit r.words n) some.0 rows some.1 (and_parts (same_switch some.0.neighbour u) (has_bit some.0.words n) some.2).1

    back : list_any (is_for pod position) all ≡ true → (some_has (number_of pod position) rows || list_any (is_for pod position) others) ≡ true
    back h =
        let some = member_passes (is_for pod position) all h in
        let x = some.0 in
        let two = and_parts (x.1 == pod) (x.2 == position) some.2 in
        let same : number_of pod position ≡ number_of x.1 x.2 = (λ i. number_of (sym (eqb-true x.1 pod two.0) i) (sym (eqb-true x.2 position two.1) i)) in
        elim (or_cases (rows_have x.0 (number_of x.1 x.2) rows) (is_listed x others) (sym (lists x rows others) ∙ among_listed x all some.1)) [
          | inl a ↦
              or_left (some_has (number_of pod position) rows) (list_any (is_for pod position) others)
              (of_row x.0 (number_of pod position) (ap (λ o. rows_have x.0 o rows) same ∙ a))
          | inr b ↦
              or_right (some_has (number_of pod position) rows) (list_any (is_for pod position) others)
              (any_among (is_for pod position) x others (listed_among x others b) some.2)
        ]
