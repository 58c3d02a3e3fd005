-- Items of a list by their numbers, which begin at 1: what was granted at a port by its vmids.
use Rattle.std.proofs.Common.{◌≡◌, ◌≢◌, ◌<◌, ℕ, zero, suc, ◌+◌, ◌-◌, ◌==◌, true, false, cond, List, [], ◌∷◌, ◌++◌, length, map, Option, Some, None, refl, inl, inr, sym, ap, ◌∙◌, arith}
use Rattle.std.specs.List.{slice_get}
use Rattle.std.specs.Option.{option_map}
use Rattle.std.specs.Prelude.{slice_set}
use Rattle.std.proofs.lemmas.Bool.{cases_eq, eqb-false, ne_eqb}
use Rattle.std.proofs.lemmas.Option.{slice_get-map, slice_get_past}
use Rattle.pl_node.specs.AddressUses.{standing_trap}
use Rattle.pl_node.specs.declared.switch_records.Grant.{Grant}
use Rattle.pl_switch_rule.specs.Delivering.{grant_trap}

module _ {T : Type 0} where
  abbrev pub at_number : List T → ℕ → Option T
  at_number xs n = cond (n == 0) None (slice_get xs (n - 1))

  -- The items of a list.

  get_push : (xs : List T) (y : T) (i : ℕ) (x : T) → slice_get xs i ≡ Some x → slice_get (xs ++ y ∷ []) i ≡ Some x
  get_push [] y i x at = absurd (let e = at in cc)
  get_push (z ∷ xs) y zero x at = at
  get_push (z ∷ xs) y (suc i) x at = get_push xs y i x at

  get_last : (xs : List T) (y : T) (i : ℕ) → i ≡ length xs → slice_get (xs ++ y ∷ []) i ≡ Some y
  get_last [] y zero last = refl
  get_last [] y (suc i) last = absurd (omega arith)
  get_last (x ∷ xs) y zero last = absurd (omega arith)
  get_last (x ∷ xs) y (suc i) last = get_last xs y i (omega arith)

  get_not_last : (xs : List T) (y : T) (i : ℕ) → (i ≡ length xs → ⊥) → slice_get (xs ++ y ∷ []) i ≡ slice_get xs i
  get_not_last [] y zero apart = absurd (apart refl)
  get_not_last [] y (suc i) apart = refl
  get_not_last (x ∷ xs) y zero apart = refl
  get_not_last (x ∷ xs) y (suc i) apart = get_not_last xs y i (λ e. apart (ap suc e))

  get_set_same : (xs : List T) (i : ℕ) (old new : T) → slice_get xs i ≡ Some old → slice_get (slice_set xs i new) i ≡ Some new
  get_set_same [] i old new at = absurd (let e = at in cc)
  get_set_same (x ∷ xs) zero old new at = refl
  get_set_same (x ∷ xs) (suc i) old new at = get_set_same xs i old new at

  get_set_other : (xs : List T) (i j : ℕ) (new : T) → j ≢ i → slice_get (slice_set xs i new) j ≡ slice_get xs j
  get_set_other [] i j new apart = refl
  get_set_other (x ∷ xs) zero zero new apart = absurd (apart refl)
  get_set_other (x ∷ xs) zero (suc j) new apart = refl
  get_set_other (x ∷ xs) (suc i) zero new apart = refl
  get_set_other (x ∷ xs) (suc i) (suc j) new apart = get_set_other xs i j new (λ e. apart (ap suc e))

  -- And by numbers.

  pub record IsNumbered (xs : List T) (n : ℕ) (x : T) : Type 0 where
    pub first : 0 < n
    pub at : slice_get xs (n - 1) ≡ Some x

  pub is_numbered : (xs : List T) (n : ℕ) (x : T) → at_number xs n ≡ Some x → IsNumbered xs n x
  is_numbered xs n x =
      elim (n == 0) as (λ b. n == 0 ≡ b → cond b None (slice_get xs (n - 1)) ≡ Some x → IsNumbered xs n x) [
        | true ↦ λ zeroth found. absurd (let e = found in cc)
        | false ↦ λ later found. record { first = let apart = eqb-false n 0 later in omega arith; at = found }
      ] refl

  pub number_at : (xs : List T) (n : ℕ) → 0 < n → at_number xs n ≡ slice_get xs (n - 1)
  number_at xs n first = ap (λ b. cond b None (slice_get xs (n - 1))) (ne_eqb n 0 (λ e. omega arith))

  pub number_push : (xs : List T) (y : T) (n : ℕ) (x : T) → at_number xs n ≡ Some x → at_number (xs ++ y ∷ []) n ≡ Some x
  number_push xs y n x =
      elim (n == 0) as (λ b. cond b None (slice_get xs (n - 1)) ≡ Some x → cond b None (slice_get (xs ++ y ∷ []) (n - 1)) ≡ Some x) [
        | true ↦ λ found. found
        | false ↦ λ found. get_push xs y (n - 1) x found
      ]

  -- the next one
  pub number_next : (xs : List T) (y : T) (n : ℕ) → n ≡ length xs + 1 → at_number (xs ++ y ∷ []) n ≡ Some y
  number_next xs y n next = number_at (xs ++ y ∷ []) n (omega arith) ∙ get_last xs y (n - 1) (omega arith)

  pub number_not_next : (xs : List T) (y : T) (n : ℕ) → (n ≡ length xs + 1 → ⊥) → at_number (xs ++ y ∷ []) n ≡ at_number xs n
  number_not_next xs y n apart =
      elim (n == 0) as (λ b. n == 0 ≡ b → cond b None (slice_get (xs ++ y ∷ []) (n - 1)) ≡ cond b None (slice_get xs (n - 1))) [
        | true ↦ λ zeroth. refl
        | false ↦ λ later. get_not_last xs y (n - 1) (λ e. let above = eqb-false n 0 later in apart (omega arith))
      ] refl

  -- past the last there is none
  pub number_past : (xs : List T) (n : ℕ) → length xs < n → at_number xs n ≡ None
  number_past xs n past =
      elim (n == 0) as (λ b. cond b None (slice_get xs (n - 1)) ≡ None) [
        | true ↦ refl
        | false ↦ slice_get_past xs (n - 1) (omega arith)
      ]

  pub number_set_same : (xs : List T) (n : ℕ) (old new : T) → at_number xs n ≡ Some old → at_number (slice_set xs (n - 1) new) n ≡ Some new
  number_set_same xs n old new found =
      let is = is_numbered xs n old found in
      number_at (slice_set xs (n - 1) new) n is.first ∙ get_set_same xs (n - 1) old new is.at

  pub number_set_other : (xs : List T) (n m : ℕ) (new : T) → 0 < n → m ≢ n → at_number (slice_set xs (n - 1) new) m ≡ at_number xs m
  number_set_other xs n m new first apart =
      elim (m == 0) as (λ b. m == 0 ≡ b → cond b None (slice_get (slice_set xs (n - 1) new) (m - 1)) ≡ cond b None (slice_get xs (m - 1))) [
        | true ↦ λ zeroth. refl
        | false ↦ λ later. get_set_other xs (n - 1) (m - 1) new (λ e. let above = eqb-false m 0 later in apart (omega arith))
      ] refl

pub number_map : {T U : Type 0} (f : T → U) (xs : List T) (n : ℕ) → at_number (map f xs) n ≡ option_map f (at_number xs n)
number_map f xs n = elim (n == 0) as (λ b. cond b None (slice_get (map f xs) (n - 1)) ≡ option_map f (cond b None (slice_get xs (n - 1)))) [
  | true ↦ refl
  | false ↦ slice_get-map f xs (n - 1)
]

pub number_trap_push : (grants : List Grant) (new : Grant) (vmid : ℕ) → standing_trap new.held ≡ None →
    grant_trap (at_number (grants ++ new ∷ []) vmid) ≡ grant_trap (at_number grants vmid)
number_trap_push grants new vmid none = elim (cases_eq vmid (length grants + 1)) [
  | inl next ↦ ap grant_trap (number_next grants new vmid next) ∙ none ∙ sym (ap grant_trap (number_past grants vmid (omega arith)))
  | inr other ↦ ap grant_trap (number_not_next grants new vmid other)
]
