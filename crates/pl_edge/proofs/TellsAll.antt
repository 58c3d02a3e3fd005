-- What is told of the groups that were noted is what is told of all groups.
use Rattle.std.proofs.Common.{◌≡◌, ℕ, zero, suc, ◌+◌, ◌<◌, ◌≤◌, ◌==◌, ◌||◌, Bool, true, false, cond, List, [], ◌∷◌, ◌++◌, length, fold, refl, sym, ap, ◌∙◌, subst, inl, inr, arith}
use Rattle.std.specs.BTreeSet.{insert_key}
use Rattle.std.specs.declared.cmp.Ordering.TheVariants.{Less}
use Rattle.std.specs.List.{All, AllByRecursion, filter, flat_map, list_any}
use Rattle.std.specs.List.Sorted.{IsStrictlySortedBy}
use Rattle.std.specs.Map.{keys_of}
use Rattle.std.specs.Ordering.{nat_cmp}
use Rattle.std.proofs.lemmas.Bool.{cases_eq, cases_lt, eq-eqb, ne_eqb, or_parts}
use Rattle.std.proofs.lemmas.Cmp.{nat_cmp_total}
use Rattle.std.proofs.lemmas.List.Elements.{All-head, All-tail}
use Rattle.std.proofs.lemmas.List.Folds.{list_any-append}
use Rattle.pl_lemmas.proofs.Exports.{or_behind, or_true}
use Rattle.pl_node.specs.declared.acts.Act.{Act}
use Rattle.pl_node.specs.declared.switch_records.Member.{Member}
use Rattle.pl_node.proofs.Exports.{rising_inserted}
use Rattle.pl_switch_rule.specs.Intake.{group_told, groups_of, groups_told, has_member_of}
use Rattle.pl_members.proofs.Exports.{any_inserted, from_less}
use Rattle.pl_edge.specs.Told.{told_if_none, told_of, told_since, AreChangesNoted}

-- numbers that rise, from a number on
abbrev RiseFrom : ℕ → List ℕ → Type 0
RiseFrom n [] = Unit {0}
RiseFrom n (x ∷ xs) = (n ≤ x) × RiseFrom (x + 1) xs

sooner : (n k : ℕ) (xs : List ℕ) → k ≤ n → RiseFrom n xs → RiseFrom k xs
sooner n k [] le rise = tt
sooner n k (x ∷ xs) le rise = let from : n ≤ x = rise.0 in (omega arith, rise.1)

none_below : (n q : ℕ) (xs : List ℕ) → q < n → RiseFrom n xs → list_any (λ k. k == q) xs ≡ false
none_below n q [] lt rise = refl
none_below n q (x ∷ xs) lt rise =
    let from : n ≤ x = rise.0 in
    ap (λ b. b || list_any (λ k. k == q) xs) (ne_eqb x q (λ e. absurd (omega arith))) ∙ none_below (x + 1) q xs (omega arith) rise.1

module _ {A : Type 0} (f : ℕ → List A) where
  -- of a number from n on that is none of these nothing is said
  abbrev Covers : ℕ → List ℕ → Type 0
  Covers n xs = (q : ℕ) → n ≤ q → list_any (λ k. k == q) xs ≡ false → f q ≡ []

  further : (n x : ℕ) (xs : List ℕ) → n ≤ x → Covers n (x ∷ xs) → Covers (x + 1) xs
  further n x xs from covers q le none =
      covers q (omega arith) (ap (λ b. b || list_any (λ k. k == q) xs) (ne_eqb x q (λ e. absurd (omega arith))) ∙ none)

  later : (n k : ℕ) (xs : List ℕ) → n ≤ k → Covers n xs → Covers k xs
  later n k xs le covers q from none = covers q (omega arith) none

  nothing : (n : ℕ) (ys : List ℕ) → RiseFrom n ys → Covers n [] → flat_map f ys ≡ []
  nothing n [] rise covers = refl
  nothing n (y ∷ ys) rise covers =
      ap (λ a. a ++ flat_map f ys) (covers y rise.0 refl) ∙ nothing n ys (sooner (y + 1) n ys (let from : n ≤ y = rise.0 in omega arith) rise.1) covers

  abbrev Alike : ℕ → List ℕ → List ℕ → Type 0
  Alike n xs ys = RiseFrom n xs → RiseFrom n ys → Covers n xs → Covers n ys → flat_map f xs ≡ flat_map f ys

  -- of two such lists of numbers the same is said
  alike : (m n : ℕ) (xs ys : List ℕ) → length xs + length ys ≤ m → Alike n xs ys
  alike m n [] ys le rx ry cx cy = sym (nothing n ys ry cx)
  alike m n (x ∷ xs) [] le rx ry cx cy = nothing n (x ∷ xs) rx cy
  alike zero n (x ∷ xs) (y ∷ ys) le rx ry cx cy = absurd (omega arith)
  alike (suc m) n (x ∷ xs) (y ∷ ys) le rx ry cx cy =
      let fx : n ≤ x = rx.0 in
      let fy : n ≤ y = ry.0 in
      elim (cases_lt x y) [
        | inl lt ↦
            let none : list_any (λ k. k == x) (y ∷ ys) ≡ false = none_below (x + 1) x (y ∷ ys) (omega arith) (omega arith, ry.1) in
            ap (λ a. a ++ flat_map f xs) (cy x fx none)
            ∙ alike m (x + 1) xs (y ∷ ys) (omega arith) rx.1 (omega arith, ry.1) (further n x xs fx cx) (later n (x + 1) (y ∷ ys) (omega arith) cy)
        | inr ge ↦ elim (cases_eq x y) [
          | inl same ↦
              ap (λ a. f a ++ flat_map f xs) same
              ∙ ap (λ rest. f y ++ rest)
              (alike m (y + 1) xs ys (omega arith) (subst (λ a. RiseFrom (a + 1) xs) same rx.1) ry.1
              (subst (λ a. Covers (a + 1) xs) same (further n x xs fx cx)) (further n y ys fy cy))
          | inr other ↦
              let none : list_any (λ k. k == y) (x ∷ xs) ≡ false = none_below (y + 1) y (x ∷ xs) (omega arith) (omega arith, rx.1) in
              alike m (y + 1) (x ∷ xs) ys (omega arith) (omega arith, rx.1) ry.1 (later n (y + 1) (x ∷ xs) (omega arith) cx) (further n y ys fy cy)
              ∙ sym (ap (λ a. a ++ flat_map f ys) (cx y fy none))
        ]
      ]

from_first : (x : ℕ) (xs : List ℕ) → AllByRecursion (λ y. nat_cmp x y ≡ Less) xs → AllByRecursion (λ y. x + 1 ≤ y) xs
from_first x [] all = tt
from_first x (y ∷ xs) all = (let lt : x < y = from_less x y all.0 in omega arith, from_first x xs all.1)

rise_from : (n : ℕ) (xs : List ℕ) → AllByRecursion (λ y. n ≤ y) xs → IsStrictlySortedBy nat_cmp xs → RiseFrom n xs
unfolding IsStrictlySortedBy
rise_from n [] all rise = tt
rise_from n (x ∷ xs) all rise = (all.0, rise_from (x + 1) xs (from_first x xs rise.0) rise.1)

from_zero : (xs : List ℕ) → AllByRecursion (λ y. 0 ≤ y) xs
from_zero [] = tt
from_zero (x ∷ xs) = (omega arith, from_zero xs)

-- ---- the groups of members
abbrev noting : List ℕ → Member → List ℕ
noting groups m = insert_key nat_cmp groups m.group

groups_rise : (groups : List ℕ) (ms : List Member) → IsStrictlySortedBy nat_cmp groups → IsStrictlySortedBy nat_cmp (fold noting groups ms)
groups_rise groups [] rise = rise
groups_rise groups (m ∷ ms) rise = groups_rise (insert_key nat_cmp groups m.group) ms (rising_inserted nat_cmp nat_cmp_total m.group groups rise)

groups_are : (q : ℕ) (groups : List ℕ) (ms : List Member) → list_any (λ k. k == q) (fold noting groups ms) ≡ (list_any (λ k. k == q) groups || has_member_of ms q)
groups_are q groups [] = sym (or_none (list_any (λ k. k == q) groups))
  where
    or_none : (b : Bool) → (b || false) ≡ b
    or_none true = refl
    or_none false = refl
groups_are q groups (m ∷ ms) =
    groups_are q (insert_key nat_cmp groups m.group) ms
    ∙ ap (λ b. b || has_member_of ms q) (any_inserted m.group q groups)
    ∙ or_behind (m.group == q) (list_any (λ k. k == q) groups) (has_member_of ms q)

-- ---- what is told
unchanged : (had any : Bool) (group : ℕ) → any ≡ had → told_of had any group ≡ []
unchanged true any group e = ap (λ b. told_of true b group) e
unchanged false any group e = ap (λ b. told_of false b group) e

each_of : (P : ℕ → Type 0) (gs : List ℕ) → ((q : ℕ) → list_any (λ k. k == q) gs ≡ true → P q) → AllByRecursion P gs
each_of P [] h = tt
each_of P (g ∷ gs) h =
    (h g (ap (λ b. b || list_any (λ k. k == g) gs) (eq-eqb g g refl)), each_of P gs (λ q e. h q (ap (λ b. (g == q) || b) e ∙ or_true (g == q))))

-- what is left out makes no member
pub fewer_left : (test : Member → Bool) (ms : List Member) (q : ℕ) → has_member_of ms q ≡ false → has_member_of (filter test ms) q ≡ false
fewer_left test [] q e = refl
fewer_left test (m ∷ ms) q e = by (test m) (fewer_left test ms q ((or_parts (m.group == q) (has_member_of ms q) e).1))
  where
    by : (b : Bool) → has_member_of (filter test ms) q ≡ false → has_member_of (cond b (m ∷ filter test ms) (filter test ms)) q ≡ false
    by true rest = ap (λ b. b || has_member_of (filter test ms) q) ((or_parts (m.group == q) (has_member_of ms q) e).0) ∙ rest
    by false rest = rest

module _ (old now : List Member) where
  abbrev told : ℕ → List Act
  told = group_told old now

  each_told : (es : List (ℕ × Bool)) → All (λ (noted : ℕ × Bool). noted.1 ≡ has_member_of old noted.0) es →
      flat_map (told_since now) es ≡ flat_map told (keys_of es)
  each_told [] had = refl
  each_told (e ∷ es) had =
      ap (λ b. told_of b (has_member_of now e.0) e.0 ++ flat_map (told_since now) es) (All-head (λ (noted : ℕ × Bool). noted.1 ≡ has_member_of old noted.0) e es had)
      ∙ ap (λ rest. told e.0 ++ rest) (each_told es (All-tail (λ (noted : ℕ × Bool). noted.1 ≡ has_member_of old noted.0) e es had))

  groups_cover : Covers told 0 (groups_of (old ++ now))
  groups_cover q from none =
      let apart : (has_member_of old q || has_member_of now q) ≡ false = sym (list_any-append (λ m. m.group == q) old now) ∙ sym (groups_are q [] (old ++ now)) ∙ none in
      let both = or_parts (has_member_of old q) (has_member_of now q) apart in
      unchanged (has_member_of old q) (has_member_of now q) q (both.1 ∙ sym both.0)

  -- what is told of the groups that were noted is what is told of all groups
  pub tells_all : (es : List (ℕ × Bool)) → AreChangesNoted old now es → flat_map (told_since now) es ≡ groups_told old now
  unfolding IsStrictlySortedBy
  tells_all es noted =
      each_told es noted.had
      ∙ alike told (length (keys_of es) + length (groups_of (old ++ now))) 0 (keys_of es) (groups_of (old ++ now)) (omega arith)
      (rise_from 0 (keys_of es) (from_zero (keys_of es)) noted.rising)
      (rise_from 0 (groups_of (old ++ now)) (from_zero (groups_of (old ++ now))) (groups_rise [] (old ++ now) tt))
      (λ q from none. unchanged (has_member_of old q) (has_member_of now q) q (noted.others q none))
      groups_cover

  all_had : (gs : List ℕ) → AllByRecursion (λ g. has_member_of old g ≡ true) gs → flat_map (told_if_none now) gs ≡ flat_map told gs
  all_had [] had = refl
  all_had (g ∷ gs) had =
      ap (λ b. told_of b (has_member_of now g) g ++ flat_map (told_if_none now) gs) (sym had.0)
      ∙ ap (λ rest. told g ++ rest) (all_had gs had.1)

  -- where no group has come to have members, it is told of the groups that had some
  pub tells_emptied : ((q : ℕ) → has_member_of old q ≡ false → has_member_of now q ≡ false) → flat_map (told_if_none now) (groups_of old) ≡ groups_told old now
  unfolding IsStrictlySortedBy
  tells_emptied fewer =
      all_had (groups_of old) (each_of (λ g. has_member_of old g ≡ true) (groups_of old) (λ q e. sym (groups_are q [] old) ∙ e))
      ∙ alike told (length (groups_of old) + length (groups_of (old ++ now))) 0 (groups_of old) (groups_of (old ++ now)) (omega arith)
      (rise_from 0 (groups_of old) (from_zero (groups_of old)) (groups_rise [] old tt))
      (rise_from 0 (groups_of (old ++ now)) (from_zero (groups_of (old ++ now))) (groups_rise [] (old ++ now) tt))
      (λ q from none. let had : has_member_of old q ≡ false = sym (groups_are q [] old) ∙ none in
      unchanged (has_member_of old q) (has_member_of now q) q (fewer q had ∙ sym had))
      groups_cover
