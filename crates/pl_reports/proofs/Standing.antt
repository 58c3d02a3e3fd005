-- Lists of what is known of each switch of a list, once one more is among them, or something else is known of one.
use Rattle.std.proofs.Common.{◌≡◌, ℕ, zero, suc, ◌+◌, ◌≤◌, List, [], ◌∷◌, length, map, slice_get, slice_set, Some, None, Less, Equal, refl, sym, ap, ap₂, ◌∙◌, subst, inl, inr, arith}
use Rattle.std.specs.List.{AllByRecursion, insert}
use Rattle.std.specs.List.Sorted.{IsStrictlySortedBy}
use Rattle.std.proofs.lemmas.Cmp.{tied_itself}
use Rattle.pl_frame.specs.declared.address.SwitchId.{SwitchId}
use Rattle.pl_node.specs.ManagerViews.{id_cmp}
use Rattle.pl_node.proofs.Exports.{id_total, IsAmong}

pub got_inserted : {X : Type 0} (xs : List X) (n : ℕ) (x : X) → n ≤ length xs → slice_get (insert xs n x) n ≡ Some x
got_inserted [] zero x h = refl
got_inserted [] (suc n) x h = absurd (omega (arith, h))
got_inserted (y ∷ ys) zero x h = refl
got_inserted (y ∷ ys) (suc n) x h = got_inserted ys n x (omega (arith, h))

pub one_longer : {X : Type 0} (xs : List X) (n : ℕ) (x : X) → length (insert xs n x) ≡ length xs + 1
one_longer [] zero x = refl
one_longer [] (suc n) x = refl
one_longer (y ∷ ys) zero x = omega arith
one_longer (y ∷ ys) (suc n) x = omega (arith, one_longer ys n x)

pub got_set : {X : Type 0} (xs : List X) (n : ℕ) (x y : X) → slice_get xs n ≡ Some x → slice_get (slice_set xs n y) n ≡ Some y
got_set [] n x y h = let none : None ≡ Some x = h in absurd (cc)
got_set (z ∷ xs) zero x y h = refl
got_set (z ∷ xs) (suc n) x y h = got_set xs n x y h

pub set_again : {X : Type 0} (xs : List X) (n : ℕ) (x y : X) → slice_set (slice_set xs n x) n y ≡ slice_set xs n y
set_again [] zero x y = refl
set_again [] (suc n) x y = refl
set_again (z ∷ xs) zero x y = refl
set_again (z ∷ xs) (suc n) x y = ap (λ l. z ∷ l) (set_again xs n x y)

not_less : (s : SwitchId) → id_cmp s s ≡ Less → ⊥
not_less s less = let is : Equal ≡ Less = sym (tied_itself id_total s) ∙ less in absurd (cc)

all_got : {X : Type 0} (P : X → Type 0) (xs : List X) (n : ℕ) (x : X) → AllByRecursion P xs → slice_get xs n ≡ Some x → P x
all_got P [] zero x all h = let none : None ≡ Some x = h in absurd (cc)
all_got P [] (suc n) x all h = let none : None ≡ Some x = h in absurd (cc)
all_got P (y ∷ ys) zero x all h = let is : y ≡ x = (let same : Some y ≡ Some x = h in cc) in subst P is all.0
all_got P (y ∷ ys) (suc n) x all h = all_got P ys n x all.1 h

module _ {X : Type 0} where
  -- what is known of one more stands where it stands
  pub mapped_inserted : (f : SwitchId → X) (xs : List SwitchId) (n : ℕ) (s : SwitchId) → insert (map f xs) n (f s) ≡ map f (insert xs n s)
  mapped_inserted f [] zero s = refl
  mapped_inserted f [] (suc n) s = refl
  mapped_inserted f (x ∷ xs) zero s = refl
  mapped_inserted f (x ∷ xs) (suc n) s = ap (λ l. f x ∷ l) (mapped_inserted f xs n s)

  module _ (f g : SwitchId → X) (s : SwitchId) (others : (t : SwitchId) → (s ≡ t → ⊥) → g t ≡ f t) where
    behind : (xs : List SwitchId) → AllByRecursion (λ z. id_cmp s z ≡ Less) xs → map f xs ≡ map g xs
    behind [] all = refl
    behind (x ∷ xs) all =
        ap₂ (λ y ys. y ∷ ys) (sym (others x (λ is. not_less s (subst (λ z. id_cmp s z ≡ Less) (sym is) all.0)))) (behind xs all.1)

    -- where something else is known of one of them
    pub changed_at : (xs : List SwitchId) (n : ℕ) (v : X) → IsStrictlySortedBy id_cmp xs → slice_get xs n ≡ Some s → g s ≡ v →
        slice_set (map f xs) n v ≡ map g xs
    unfolding IsStrictlySortedBy
    changed_at [] zero v rising at now = let none : None ≡ Some s = at in absurd (cc)
    changed_at [] (suc n) v rising at now = let none : None ≡ Some s = at in absurd (cc)
    changed_at (x ∷ xs) zero v rising at now =
        let is : x ≡ s = (let same : Some x ≡ Some s = at in cc) in
        ap₂ (λ y ys. y ∷ ys) (sym now ∙ ap g (sym is)) (behind xs (subst (λ z. AllByRecursion (λ y. id_cmp z y ≡ Less) xs) is rising.0))
    changed_at (x ∷ xs) (suc n) v rising at now =
        let before : id_cmp x s ≡ Less = all_got (λ z. id_cmp x z ≡ Less) xs n s rising.0 at in
        ap₂ (λ y ys. y ∷ ys) (sym (others x (λ is. not_less s (subst (λ z. id_cmp z s ≡ Less) (sym is) before)))) (changed_at xs n v rising.1 at now)

    -- where it is none of them
    pub changed_nowhere : (xs : List SwitchId) → (IsAmong s xs → ⊥) → map f xs ≡ map g xs
    changed_nowhere [] none = refl
    changed_nowhere (x ∷ xs) none =
        ap₂ (λ y ys. y ∷ ys) (sym (others x (λ is. none (inl (sym is))))) (changed_nowhere xs (λ h. none (inr h)))
