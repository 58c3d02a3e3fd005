-- The index of the first item that passes a test, where items are added and changed.
use Rattle.std.proofs.Common.{◌≡◌, ℕ, zero, suc, ◌+◌, ◌<◌, ◌==◌, get_or, take, subst, Bool, true, false, cond, List, [], ◌∷◌, ◌++◌, length, set, Option, Some, None, slice_get, refl, sym, ◌∙◌, ap, arith}
use Rattle.std.specs.List.{position, position_from}
use Rattle.std.specs.Map.{lookup}
use Rattle.std.specs.Option.{option_map, option_or}
use Rattle.std.proofs.lemmas.Bool.Decides.{nat_tests}
use Rattle.std.proofs.lemmas.Grind.{common_steps}
use Rattle.std.proofs.lemmas.Iterator.Adapters.{position_from-zero}
use Rattle.std.proofs.lemmas.List.{take_more}
use Rattle.std.proofs.lemmas.Option.{get_or_from_slice_get, same_Some, slice_get_within}

module _ {T : Type 0} (p : T → Bool) where
  from_append : (i : ℕ) (xs : List T) (x : T) → position_from p i (xs ++ x ∷ []) ≡ option_or (position_from p i xs) (cond (p x) (Some (i + length xs)) None)
  from_append i [] x = let e : i ≡ i + 0 = omega arith in ap (λ n. cond (p x) (Some n) None) e
  from_append i (y ∷ xs) x = elim (p y) as (λ b. cond b (Some i) (position_from p (i + 1) (xs ++ x ∷ [])) ≡ option_or (cond b (Some i) (position_from p (i + 1) xs)) (cond (p x) (Some (i + length (y ∷ xs))) None)) [
    | true ↦ refl
    | false ↦
        let e : (i + 1) + length xs ≡ i + length (y ∷ xs) = omega arith in
        from_append (i + 1) xs x ∙ ap (λ n. option_or (position_from p (i + 1) xs) (cond (p x) (Some n) None)) e
  ]

  from_none : (i : ℕ) (xs : List T) → position_from p i xs ≡ None → (n : ℕ) (x : T) → slice_get xs n ≡ Some x → p x ≡ false
  from_none i [] none n x at = cc
  from_none i (y ∷ xs) none zero x at =
      elim (p y) as (λ b. p y ≡ b → cond b (Some i) (position_from p (i + 1) xs) ≡ None → p x ≡ false) [
        | true ↦ λ h e. absurd (cc)
        | false ↦ λ h e. ap p (sym (same_Some y x at)) ∙ h
      ] refl none
  from_none i (y ∷ xs) none (suc n) x at =
      elim (p y) as (λ b. cond b (Some i) (position_from p (i + 1) xs) ≡ None → p x ≡ false) [
        | true ↦ λ e. absurd (cc)
        | false ↦ λ e. from_none (i + 1) xs e n x at
      ] none

  -- an item that fails is written over one that fails
  from_same : (i : ℕ) (xs : List T) (n : ℕ) (y : T) → ((x : T) → slice_get xs n ≡ Some x → p x ≡ false) → p y ≡ false →
      position_from p i (set xs n y) ≡ position_from p i xs
  from_same i [] n y was is = refl
  from_same i (x ∷ xs) zero y was is = ap (λ b. cond b (Some i) (position_from p (i + 1) xs)) (is ∙ sym (was x refl))
  from_same i (x ∷ xs) (suc n) y was is = ap (cond (p x) (Some i)) (from_same (i + 1) xs n y was is)

  -- an item that passes is written where none passes
  from_free : (i : ℕ) (xs : List T) (n : ℕ) (y : T) → n < length xs → position_from p i xs ≡ None → p y ≡ true →
      position_from p i (set xs n y) ≡ Some (i + n)
  from_free i [] n y within none is = absurd (omega arith)
  from_free i (x ∷ xs) zero y within none is =
      let e : i ≡ i + 0 = omega arith in
      ap (λ b. cond b (Some i) (position_from p (i + 1) xs)) is ∙ ap (λ n. Some n) e
  from_free i (x ∷ xs) (suc n) y within none is =
      elim (p x) as (λ b. cond b (Some i) (position_from p (i + 1) xs) ≡ None → cond b (Some i) (position_from p (i + 1) (set xs n y)) ≡ Some (i + suc n)) [
        | true ↦ λ e. absurd (cc)
        | false ↦ λ e.
            let more : (i + 1) + n ≡ i + suc n = omega arith in
            from_free (i + 1) xs n y (omega arith) e is ∙ ap (λ m. Some m) more
      ] none

  all_fail : (i : ℕ) (xs : List T) → ((n : ℕ) (x : T) → slice_get xs n ≡ Some x → p x ≡ false) → position_from p i xs ≡ None
  all_fail i [] fails = refl
  all_fail i (x ∷ xs) fails = ap (λ b. cond b (Some i) (position_from p (i + 1) xs)) (fails 0 x refl) ∙ all_fail (i + 1) xs (λ n y at. fails (suc n) y at)

  pub position_append : (xs : List T) (x : T) → position p (xs ++ x ∷ []) ≡ option_or (position p xs) (cond (p x) (Some (length xs)) None)
  position_append xs x =
      let e : 0 + length xs ≡ length xs = omega arith in
      position_from-zero p (xs ++ x ∷ []) ∙ from_append 0 xs x
      ∙ ap (λ n. option_or (position_from p 0 xs) (cond (p x) (Some n) None)) e
      ∙ ap (λ o. option_or o (cond (p x) (Some (length xs)) None)) (sym (position_from-zero p xs))

  pub position_none : (xs : List T) → position p xs ≡ None → (n : ℕ) (x : T) → slice_get xs n ≡ Some x → p x ≡ false
  position_none xs none = from_none 0 xs (sym (position_from-zero p xs) ∙ none)

  pub position_same : (xs : List T) (n : ℕ) (y : T) → ((x : T) → slice_get xs n ≡ Some x → p x ≡ false) → p y ≡ false →
      position p (set xs n y) ≡ position p xs
  position_same xs n y was is = position_from-zero p (set xs n y) ∙ from_same 0 xs n y was is ∙ sym (position_from-zero p xs)

  pub position_free : (xs : List T) (n : ℕ) (y : T) → n < length xs → position p xs ≡ None → p y ≡ true → position p (set xs n y) ≡ Some n
  position_free xs n y within none is =
      let e : 0 + n ≡ n = omega arith in
      position_from-zero p (set xs n y) ∙ from_free 0 xs n y within (sym (position_from-zero p xs) ∙ none) is ∙ ap (λ m. Some m) e

  pub position_fails : (xs : List T) → ((n : ℕ) (x : T) → slice_get xs n ≡ Some x → p x ≡ false) → position p xs ≡ None
  position_fails xs fails = position_from-zero p xs ∙ all_fail 0 xs fails

-- what is found by a key is the first item at that key, also with one item more
module _ {K V T : Type 0} (number : V → ℕ) (same : K → K → Bool) (test : K → T → Bool) where
  mapped : (a b : Option V) → option_map number (option_or a b) ≡ option_or (option_map number a) (option_map number b)
  mapped None b = refl
  mapped (Some x) b = refl

  chosen : (b : Bool) (v : V) (n : ℕ) → number v ≡ n → option_map number (cond b (Some v) None) ≡ cond b (Some n) None
  chosen true v n is = ap (λ m. Some m) is
  chosen false v n is = refl

  pub finds_more : (items : List T) (before after : List (K × V)) (item : T) (value : V) → number value ≡ length items →
      ((key : K) → option_map number (lookup (same key) before) ≡ position (test key) items) →
      ((key : K) → lookup (same key) after ≡ option_or (lookup (same key) before) (cond (test key item) (Some value) None)) →
      (key : K) → option_map number (lookup (same key) after) ≡ position (test key) (items ++ item ∷ [])
  finds_more items before after item value is finds adds key =
      ap (option_map number) (adds key)
      ∙ mapped (lookup (same key) before) (cond (test key item) (Some value) None)
      ∙ ap (λ o. option_or o (option_map number (cond (test key item) (Some value) None))) (finds key)
      ∙ ap (option_or (position (test key) items)) (chosen (test key item) value (length items) is)
      ∙ sym (position_append (test key) items item)

  -- one more of the items of a list
  pub finds_next : (items : List T) (before after : List (K × V)) (n : ℕ) (d : T) (value : V) → n < length items → number value ≡ n →
      ((key : K) → option_map number (lookup (same key) before) ≡ position (test key) (take n items)) →
      ((key : K) → lookup (same key) after ≡ option_or (lookup (same key) before) (cond (test key (get_or items n d)) (Some value) None)) →
      (key : K) → option_map number (lookup (same key) after) ≡ position (test key) (take (n + 1) items)
  finds_next items before after n d value within is finds adds =
      let many : length (take n items) ≡ n = grind (arith, common_steps) in
      subst (λ xs. (key : K) → option_map number (lookup (same key) after) ≡ position (test key) xs) (sym (take_more items n d within))
      (finds_more (take n items) before after (get_or items n d) value (is ∙ sym many) finds adds)

  pub finds_there : (items : List T) (before after : List (K × V)) (n : ℕ) (item : T) (value : V) → slice_get items n ≡ Some item →
      number value ≡ n → ((key : K) → option_map number (lookup (same key) before) ≡ position (test key) (take n items)) →
      ((key : K) → lookup (same key) after ≡ option_or (lookup (same key) before) (cond (test key item) (Some value) None)) →
      (key : K) → option_map number (lookup (same key) after) ≡ position (test key) (take (n + 1) items)
  finds_there items before after n item value there is finds adds =
      finds_next items before after n item value (slice_get_within items n item there) is finds
      (subst (λ x. (key : K) → lookup (same key) after ≡ option_or (lookup (same key) before) (cond (test key x) (Some value) None))
      (sym (get_or_from_slice_get items n item item there)) adds)

pub same_either_way : (n m : ℕ) → (n == m) ≡ (m == n)
same_either_way n m = grind (arith, nat_tests)
