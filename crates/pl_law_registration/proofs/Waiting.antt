-- What waits in queues waits still where an item is put behind it.
use Rattle.std.proofs.Common.{◌≡◌, ◌||◌, ℕ, zero, suc, Bool, true, false, set, List, [], ◌∷◌, ◌++◌, refl, ap, subst}
use Rattle.std.specs.List.{list_any}
use Rattle.std.proofs.lemmas.Bool.{false≢true}
use Rattle.pl_queues.specs.Queues.{items_at, put_at}
use Rattle.pl_world.specs.declared.item.Item.{Item}

-- what is found where something may have been put
pub found_after : {T : Type 0} (P : List T → Type 0) (queues : List (List T)) (n m : ℕ) (items : List T) → P (items_at queues m) → (m ≡ n → P items) →
    P (items_at (set queues n items) m)
found_after P [] n m items old new = old
found_after P (q ∷ queues) zero zero items old new = new refl
found_after P (q ∷ queues) zero (suc m) items old new = old
found_after P (q ∷ queues) (suc n) zero items old new = old
found_after P (q ∷ queues) (suc n) (suc m) items old new = found_after P queues n m items old (λ e. new (ap suc e))

abbrev pub Grows : List (List Item) → List (List Item) → Type 0
Grows before after = (i : ℕ) (p : Item → Bool) → list_any p (items_at before i) ≡ true → list_any p (items_at after i) ≡ true

any_behind : (p : Item → Bool) (xs : List Item) (x : Item) → list_any p xs ≡ true → list_any p (xs ++ x ∷ []) ≡ true
any_behind p [] x is = absurd (false≢true is)
any_behind p (y ∷ xs) x is = by (λ h. any_behind p xs x h) (p y) is
  where
    by : (list_any p xs ≡ true → list_any p (xs ++ x ∷ []) ≡ true) → (b : Bool) → (b || list_any p xs) ≡ true → (b || list_any p (xs ++ x ∷ [])) ≡ true
    by rest true h = refl
    by rest false h = rest h

pub any_last : (p : Item → Bool) (xs : List Item) (x : Item) → p x ≡ true → list_any p (xs ++ x ∷ []) ≡ true
any_last p [] x is = ap (λ b. b || false) is
any_last p (y ∷ xs) x is = by (any_last p xs x is) (p y)
  where
    by : list_any p (xs ++ x ∷ []) ≡ true → (b : Bool) → (b || list_any p (xs ++ x ∷ [])) ≡ true
    by rest true = refl
    by rest false = rest

pub put_grows : (queues : List (List Item)) (n : ℕ) (item : Item) → Grows queues (put_at queues n item)
put_grows queues n item = λ i p is.
    found_after (λ (xs : List Item). list_any p xs ≡ true) queues n i (items_at queues n ++ item ∷ []) is
    (λ same. any_behind p (items_at queues n) item (subst (λ (j : ℕ). list_any p (items_at queues j) ≡ true) same is))

pub grows_then : (a b c : List (List Item)) → Grows a b → Grows b c → Grows a c
grows_then a b c first next = λ i p is. next i p (first i p is)
