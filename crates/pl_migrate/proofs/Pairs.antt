-- The addresses in a list of a pool, each under its key, as one of them leaves and as one comes.
use Rattle.std.proofs.Common.{◌≡◌, ◌<◌, ℕ, ◌==◌, not, Bool, true, false, cond, List, [], ◌∷◌, ◌++◌, length, Option, Some, None, get_or, refl, inl, inr, sym, ap, subst, ◌∙◌}
use Rattle.std.specs.List.{AllByRecursion, IsDistinct, find, list_any}
use Rattle.std.specs.Option.{option_map}
use Rattle.std.specs.Prelude.{slice_set}
use Rattle.std.proofs.lemmas.Bool.{cases_Bool, cases_eq, cond-false, cond-true, cond_both, eq-eqb, eqb-false, eqb-true, false_from_ne_true, ne_eqb, or_parts}
use Rattle.std.proofs.lemmas.List.{get_or-set_other, get_or-set_same}
use Rattle.pl_lemmas.proofs.Exports.{all_filter, all_push}
use Rattle.pl_pmac.specs.declared.pmac.Pmac.{Pmac}
use Rattle.pl_layouts.specs.Equality.{same_pmac}
use Rattle.pl_layouts.proofs.Exports.{pmac_is, pmac_itself}
use Rattle.pl_pool.specs.declared.key.Key.{Key}
use Rattle.pl_pool.specs.Pool.{has_key, is_under, item_at, items_of, without as without_key}
use Rattle.pl_switch_rule.specs.Granting.{without}

-- it is another address
abbrev pub IsOther : Pmac → Pmac → Type 0
IsOther x y = same_pmac y x ≡ false

pub other_of : (x y : Pmac) → IsOther x y → IsOther y x
other_of x y other = false_from_ne_true (same_pmac x y) (λ same. let e = sym (ap (λ a. same_pmac a x) (pmac_is x y same))
    ∙ pmac_itself x in let f = other in cc)

-- Lists.

pub get_or_set : {T : Type 0} (xs : List T) (i j : ℕ) (x d : T) → i < length xs → get_or (slice_set xs i x) j d ≡ cond (j == i) x (get_or xs j d)
get_or_set xs i j x d within = elim (cases_eq j i) [
  | inl same ↦ ap (λ n. get_or (slice_set xs i x) n d) same ∙ get_or-set_same xs i x d within ∙ sym (cond-true (j == i) x (get_or xs j d) (eq-eqb j i same))
  | inr apart ↦ get_or-set_other xs i j x d apart ∙ sym (cond-false (j == i) x (get_or xs j d) (ne_eqb j i apart))
]

-- Addresses without one of them.

pub without_absent : (x : Pmac) (xs : List Pmac) → AllByRecursion (IsOther x) xs → without x xs ≡ xs
without_absent x [] all = refl
without_absent x (y ∷ ys) all = ap (λ b. cond (not b) (y ∷ without x ys) (without x ys)) all.0 ∙ ap (λ zs. y ∷ zs) (without_absent x ys all.1)

pub absent_without : (x : Pmac) (xs : List Pmac) → AllByRecursion (IsOther x) (without x xs)
absent_without x [] = tt
absent_without x (y ∷ ys) = elim (cases_Bool (same_pmac y x)) [
  | inl same ↦ subst (λ b. AllByRecursion (IsOther x) (cond (not b) (y ∷ without x ys) (without x ys))) (sym same) (absent_without x ys)
  | inr other ↦ subst (λ b. AllByRecursion (IsOther x) (cond (not b) (y ∷ without x ys) (without x ys))) (sym other) (other, absent_without x ys)
]

pub distinct_without : (x : Pmac) (xs : List Pmac) → IsDistinct same_pmac xs → IsDistinct same_pmac (without x xs)
unfolding IsDistinct
distinct_without x [] apart = tt
distinct_without x (y ∷ ys) apart =
    cond_both (not (same_pmac y x)) (y ∷ without x ys) (without x ys) (IsDistinct same_pmac)
    (λ h. (all_filter (λ z. same_pmac y z ≡ false) (λ z. not (same_pmac z x)) ys apart.0, distinct_without x ys apart.1)) (λ h. distinct_without x ys apart.1)

pub distinct_push : (x : Pmac) (xs : List Pmac) → AllByRecursion (IsOther x) xs → IsDistinct same_pmac xs → IsDistinct same_pmac (xs ++ x ∷ [])
unfolding IsDistinct
distinct_push x [] other apart = (tt, tt)
distinct_push x (y ∷ ys) other apart = (all_push (λ z. same_pmac y z ≡ false) ys x apart.0 other.0, distinct_push x ys other.1 apart.1)

-- without the first of them, the others stay
pub without_first : (x : Pmac) (xs : List Pmac) → IsDistinct same_pmac (x ∷ xs) → without x (x ∷ xs) ≡ xs
unfolding IsDistinct
without_first x xs apart = ap (λ b. cond (not b) (x ∷ without x xs) (without x xs)) (pmac_itself x) ∙ without_absent x xs (others x xs apart.0)
  where
    others : (x : Pmac) (xs : List Pmac) → AllByRecursion (λ y. same_pmac x y ≡ false) xs → AllByRecursion (IsOther x) xs
    others x [] all = tt
    others x (y ∷ ys) all = (other_of y x all.0, others x ys all.1)

-- Pairs.

pub all_items : (P : Pmac → Type 0) (pairs : List (Key × Pmac)) → AllByRecursion (λ pair. P pair.1) pairs → AllByRecursion P (items_of pairs)
all_items P [] all = tt
all_items P (pair ∷ pairs) all = (all.0, all_items P pairs all.1)

-- where an address alone stands under a key, the pairs without that key are those without that address
pub items_without : (x : Pmac) (key : Key) (pairs : List (Key × Pmac)) → AllByRecursion (λ pair. is_under key pair ≡ same_pmac pair.1 x) pairs →
    items_of (without_key pairs key) ≡ without x (items_of pairs)
items_without x key [] all = refl
items_without x key (pair ∷ pairs) all = elim (cases_Bool (same_pmac pair.1 x)) [
  | inl same ↦
      ap (λ b. items_of (cond (not b) (pair ∷ without_key pairs key) (without_key pairs key))) (all.0 ∙ same)
      ∙ items_without x key pairs all.1
      ∙ sym (ap (λ b. cond (not b) (pair.1 ∷ without x (items_of pairs)) (without x (items_of pairs))) same)
  | inr other ↦
      ap (λ b. items_of (cond (not b) (pair ∷ without_key pairs key) (without_key pairs key))) (all.0 ∙ other)
      ∙ ap (λ xs. pair.1 ∷ xs) (items_without x key pairs all.1)
      ∙ sym (ap (λ b. cond (not b) (pair.1 ∷ without x (items_of pairs)) (without x (items_of pairs))) other)
]

-- what is true of the pairs under other keys
pub all_but_under : (P Q : Key × Pmac → Type 0) (key : Key) → ((pair : Key × Pmac) → is_under key pair ≡ false → P pair → Q pair) →
    (pairs : List (Key × Pmac)) → AllByRecursion P pairs → AllByRecursion Q (without_key pairs key)
all_but_under P Q key each [] all = tt
all_but_under P Q key each (pair ∷ pairs) all = elim (cases_Bool (is_under key pair)) [
  | inl under ↦ subst (λ b. AllByRecursion Q (cond (not b) (pair ∷ without_key pairs key) (without_key pairs key))) (sym under)
      (all_but_under P Q key each pairs all.1)
  | inr apart ↦ subst (λ b. AllByRecursion Q (cond (not b) (pair ∷ without_key pairs key) (without_key pairs key))) (sym apart)
      (each pair apart all.0, all_but_under P Q key each pairs all.1)
]

-- what stands under another key
pub found_without : (key other : Key) → (other.slot ≡ key.slot → ⊥) → (pairs : List (Key × Pmac)) → item_at (without_key pairs key) other ≡ item_at pairs other
found_without key other apart [] = refl
found_without key other apart (pair ∷ pairs) = elim (cases_Bool (is_under key pair)) [
  | inl under ↦
      let later : is_under other pair ≡ false = ne_eqb pair.0.slot other.slot (λ e. apart (sym e ∙ eqb-true pair.0.slot key.slot under)) in
      ap (λ b. item_at (cond (not b) (pair ∷ without_key pairs key) (without_key pairs key)) other) under
      ∙ found_without key other apart pairs
      ∙ sym (ap (λ b. option_map (λ (p : Key × Pmac). p.1) (cond b (Some pair) (find (is_under other) pairs))) later)
  | inr away ↦
      ap (λ b. item_at (cond (not b) (pair ∷ without_key pairs key) (without_key pairs key)) other) away
      ∙ elim (is_under other pair) as (λ b. option_map (λ (p : Key × Pmac). p.1) (cond b (Some pair) (find (is_under other) (without_key pairs key)))
      ≡ option_map (λ (p : Key × Pmac). p.1) (cond b (Some pair) (find (is_under other) pairs))) [
        | true ↦ refl
        | false ↦ found_without key other apart pairs
      ]
]

-- one more pair
pub found_before : (last : Key × Pmac) (key : Key) (x : Pmac) (pairs : List (Key × Pmac)) → item_at pairs key ≡ Some x →
    item_at (pairs ++ last ∷ []) key ≡ Some x
found_before last key x [] = λ found. absurd (let e = found in cc)
found_before last key x (pair ∷ pairs) = elim (is_under key pair) as (λ b.
    option_map (λ (p : Key × Pmac). p.1) (cond b (Some pair) (find (is_under key) pairs)) ≡ Some x
    → option_map (λ (p : Key × Pmac). p.1) (cond b (Some pair) (find (is_under key) (pairs ++ last ∷ []))) ≡ Some x) [
      | true ↦ λ found. found
      | false ↦ found_before last key x pairs
    ]

pub found_last : (key : Key) (x : Pmac) (pairs : List (Key × Pmac)) → has_key pairs key ≡ false → item_at (pairs ++ (key, x) ∷ []) key ≡ Some x
found_last key x [] free = ap (λ b. option_map (λ (p : Key × Pmac). p.1) (cond b (Some (key, x)) None)) (eq-eqb key.slot key.slot refl)
found_last key x (pair ∷ pairs) free =
    let parts = or_parts (is_under key pair) (list_any (is_under key) pairs) free in
    ap (λ b. option_map (λ (p : Key × Pmac). p.1) (cond b (Some pair) (find (is_under key) (pairs ++ (key, x) ∷ [])))) parts.0
    ∙ found_last key x pairs parts.1

-- the first pair under a key is the one that is found
pub found_of_first : (pair : Key × Pmac) (pairs : List (Key × Pmac)) → item_at (pair ∷ pairs) pair.0 ≡ Some pair.1
found_of_first pair pairs =
    ap (λ b. option_map (λ (p : Key × Pmac). p.1) (cond b (Some pair) (find (is_under pair.0) pairs))) (eq-eqb pair.0.slot pair.0.slot refl)
