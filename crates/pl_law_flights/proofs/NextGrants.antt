-- The vmid that a port gives next, and what is granted under it then.
use Rattle.std.proofs.Common.{◌≡◌, ◌≢◌, ◌≤◌, ◌<◌, ◌+◌, ◌-◌, ◌==◌, ◌&&◌, ℕ, zero, suc, nat_lt, Bool, true, false, cond, if◌then◌else◌, List, [], ◌∷◌, ◌++◌, length, set, Option, Some, None, slice_get, refl, sym, ap, ap₂, subst, ◌∙◌, arith}
use Rattle.std.specs.List.{position_from}
use Rattle.std.proofs.lemmas.Bool.{cond-false, cond-true, ne_eqb}
use Rattle.std.proofs.lemmas.Option.{none-some, same_Some}
use Rattle.pl_frame.specs.declared.address.Ip4.{Ip4}
use Rattle.pl_frame.specs.declared.address.Mac.{Mac}
use Rattle.pl_layouts.specs.Equality.{same_mac}
use Rattle.pl_layouts.proofs.Exports.{mac_itself}
use Rattle.pl_node.specs.Accounting.{WereGranted}
use Rattle.pl_node.specs.AddressUses.{is_in_use}
use Rattle.pl_node.specs.declared.switch_records.Grant.{Grant}
use Rattle.pl_switch_rule.specs.Granting.{grant_number, in_use, new_grant, next_vmid, with_next}
use Rattle.pl_law_addresses.proofs.Exports.{number_push_other, number_push_same, number_set_other, number_set_same}

there : {X : Type 0} (xs : List X) (n : ℕ) → n < length xs → (x : X) × (slice_get xs n ≡ Some x)
there [] n less = absurd (omega (arith, less))
there (x ∷ xs) zero less = (x, refl)
there (x ∷ xs) (suc n) less = there xs n (omega (arith, less))

-- one of the numbers that were given has a grant
given : (gs : List Grant) (n : ℕ) → 1 ≤ n → n ≤ length gs → (g : Grant) × (grant_number gs n ≡ Some g)
given gs n some within =
    let at = there gs (n - 1) (omega (arith, some, within)) in
    (at.0, cond-false (n == 0) None (slice_get gs (n - 1)) (ne_eqb n 0 (λ e. omega (arith, some, e))) ∙ at.1)

-- where none is free it is the one behind the last
pub next_behind : (gs : List Grant) (vmid : ℕ) → next_vmid [] gs ≡ Some vmid → length gs + 1 ≡ vmid
next_behind gs vmid is = by (nat_lt (length gs) 65535) is
  where
    by : (b : Bool) → (if b then Some (length gs + 1) else None) ≡ Some vmid → length gs + 1 ≡ vmid
    by true is = same_Some (length gs + 1) vmid is
    by false is = absurd (none-some vmid is)

pub number_next_same : (freed : List ℕ) (gs : List Grant) (g : Grant) (vmid : ℕ) → next_vmid freed gs ≡ Some vmid → WereGranted gs freed →
    grant_number (with_next freed gs g) vmid ≡ Some g
number_next_same [] gs g vmid is were = subst (λ n. grant_number (gs ++ g ∷ []) n ≡ Some g) (next_behind gs vmid is) (number_push_same gs g)
number_next_same (x ∷ freed) gs g vmid is were =
    let at = given gs x were.0.0 were.0.1 in
    subst (λ n. grant_number (set gs (x - 1) g) n ≡ Some g) (same_Some x vmid is) (number_set_same gs x at.0 g at.1)

pub number_next_other : (freed : List ℕ) (gs : List Grant) (g : Grant) (vmid : ℕ) → next_vmid freed gs ≡ Some vmid → WereGranted gs freed →
    (n : ℕ) → n ≢ vmid → grant_number (with_next freed gs g) n ≡ grant_number gs n
number_next_other [] gs g vmid is were n other = number_push_other gs g n (λ e. other (e ∙ next_behind gs vmid is))
number_next_other (x ∷ freed) gs g vmid is were n other = number_set_other gs x n g (let some = were.0.0 in omega (arith, some)) (λ e. other (e ∙ same_Some x vmid is))

-- ---- the address in use
module _ {X : Type 0} (p : X → Bool) where
  -- what takes the place of another that passes alike changes no place
  pub position_set : (xs : List X) (n i : ℕ) (x y : X) → slice_get xs n ≡ Some x → p y ≡ p x → position_from p i (set xs n y) ≡ position_from p i xs
  position_set [] n i x y is same = refl
  position_set (z ∷ xs) zero i x y is same = ap (λ b. cond b (Some i) (position_from p (i + 1) xs)) (same ∙ ap p (sym (same_Some z x is)))
  position_set (z ∷ xs) (suc n) i x y is same = ap (λ r. cond (p z) (Some i) r) (position_set xs n (i + 1) x y is same)

  none_behind : (z : X) (xs : List X) (i : ℕ) → position_from p i (z ∷ xs) ≡ None → (p z ≡ false) × (position_from p (i + 1) xs ≡ None)
  none_behind z xs i none = by (p z) refl none
    where
      by : (b : Bool) → p z ≡ b → cond b (Some i) (position_from p (i + 1) xs) ≡ None → (p z ≡ false) × (position_from p (i + 1) xs ≡ None)
      by true passes none = absurd (none-some i (sym none))
      by false fails none = (fails, none)

  position_push : (xs : List X) (i : ℕ) (x : X) → position_from p i xs ≡ None → p x ≡ true → position_from p i (xs ++ x ∷ []) ≡ Some (i + length xs)
  position_push [] i x none passes = cond-true (p x) (Some i) None passes ∙ ap Some (omega arith)
  position_push (z ∷ xs) i x none passes =
      let behind = none_behind z xs i none in
      cond-false (p z) (Some i) (position_from p (i + 1) (xs ++ x ∷ [])) behind.0 ∙ position_push xs (i + 1) x behind.1 passes ∙ ap Some (omega arith)

  -- where none passes, one that is put among them is the one
  position_put : (xs : List X) (n i : ℕ) (x : X) → n < length xs → position_from p i xs ≡ None → p x ≡ true → position_from p i (set xs n x) ≡ Some (i + n)
  position_put [] n i x within none passes = absurd (omega (arith, within))
  position_put (z ∷ xs) zero i x within none passes = cond-true (p x) (Some i) (position_from p (i + 1) xs) passes ∙ ap Some (omega arith)
  position_put (z ∷ xs) (suc n) i x within none passes =
      let behind = none_behind z xs i none in
      cond-false (p z) (Some i) (position_from p (i + 1) (set xs n x)) behind.0 ∙ position_put xs n (i + 1) x (omega (arith, within)) behind.1 passes ∙ ap Some (omega arith)

none_is : (n : ℕ) → suc n ≡ 0 → ⊥
none_is n e = omega arith

pub in_use_set : (gs : List Grant) (mac : Mac) (vmid : ℕ) (g h : Grant) → grant_number gs vmid ≡ Some g → is_in_use h.held ≡ is_in_use g.held → h.amac ≡ g.amac →
    in_use (set gs (vmid - 1) h) mac ≡ in_use gs mac
in_use_set gs mac zero g h found used same = absurd (none-some g found)
in_use_set gs mac (suc n) g h found used same =
    let some : (suc n == 0) ≡ false = ne_eqb (suc n) 0 (λ e. none_is n e) in
    position_set (λ (a : Grant). is_in_use a.held && same_mac a.amac mac) gs (suc n - 1) 1 g h (sym (cond-false (suc n == 0) None (slice_get gs (suc n - 1)) some) ∙ found)
    (ap₂ (λ b m. b && same_mac m mac) used same)

pub in_use_next : (freed : List ℕ) (gs : List Grant) (mac : Mac) (ip : Option Ip4) (vmid : ℕ) → next_vmid freed gs ≡ Some vmid → WereGranted gs freed →
    in_use gs mac ≡ None → in_use (with_next freed gs (new_grant mac ip)) mac ≡ Some vmid
in_use_next [] gs mac ip vmid is were none =
    position_push (λ (a : Grant). is_in_use a.held && same_mac a.amac mac) gs 1 (new_grant mac ip) none (mac_itself mac)
    ∙ ap Some (let last = next_behind gs vmid is in omega (arith, last))
in_use_next (x ∷ freed) gs mac ip vmid is were none =
    let some = were.0.0 in let within = were.0.1 in
    position_put (λ (a : Grant). is_in_use a.held && same_mac a.amac mac) gs (x - 1) 1 (new_grant mac ip) (omega (arith, some, within)) none (mac_itself mac)
    ∙ ap Some (let same = same_Some x vmid is in omega (arith, some, same))
