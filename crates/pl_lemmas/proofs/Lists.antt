-- Lists: what holds of each element, what stands at an index, ranges of numbers.
use Rattle.std.proofs.Common.{[], ap, arith, Bool, Contains, drop, false, get_or, length, List, map, None, Option, refl, replicate, set, slice_get, Some, subst, suc, sym, take, true, zero, ℕ, ◌++◌, ◌+◌, ◌<◌, ◌∙◌, ◌∷◌, ◌≡◌, ◌≢◌}
use Rattle.std.specs.List.{AllByRecursion, filter, position, range_with_len}
use Rattle.std.proofs.lemmas.Bool.{cond_both, false_from_ne_true}
use Rattle.std.proofs.lemmas.List.Quantifiers.{position-Some}
use Rattle.std.proofs.lemmas.Option.{none-some, same_Some}
use Rattle.std.proofs.lemmas.List.{drop-drop, take-append-drop}
use Rattle.std.specs.Ordering.{eq_by_cmp, nat_cmp}
use Rattle.std.specs.Cmp.Lexicographic.{slice_cmp}
use Rattle.std.proofs.lemmas.Map.Text.{is_eq-slice_cmp}
use Rattle.std.proofs.lemmas.Slice.Eq.{bytes_eq-Decides}

pub all_append : {X : Type 0} (P : X → Type 0) (xs ys : List X) → AllByRecursion P xs → AllByRecursion P ys → AllByRecursion P (xs ++ ys)
all_append P [] ys a b = b
all_append P (x ∷ xs) ys a b = (a.0, all_append P xs ys a.1 b)

pub all_push : {X : Type 0} (P : X → Type 0) (xs : List X) (y : X) → AllByRecursion P xs → P y → AllByRecursion P (xs ++ y ∷ [])
all_push P [] y h is = (is, tt)
all_push P (x ∷ xs) y h is = (h.0, all_push P xs y h.1 is)

pub all_front : {X : Type 0} (P : X → Type 0) (xs ys : List X) → AllByRecursion P (xs ++ ys) → AllByRecursion P xs
all_front P [] ys all = tt
all_front P (x ∷ xs) ys all = (all.0, all_front P xs ys all.1)

pub all_behind : {X : Type 0} (P : X → Type 0) (xs ys : List X) → AllByRecursion P (xs ++ ys) → AllByRecursion P ys
all_behind P [] ys all = all
all_behind P (x ∷ xs) ys all = all_behind P xs ys all.1

pub all_weaker : {X : Type 0} (P Q : X → Type 0) → ((x : X) → P x → Q x) → (xs : List X) → AllByRecursion P xs → AllByRecursion Q xs
all_weaker P Q f [] h = tt
all_weaker P Q f (x ∷ xs) h = (f x h.0, all_weaker P Q f xs h.1)

pub all_filter : {X : Type 0} (P : X → Type 0) (test : X → Bool) (xs : List X) → AllByRecursion P xs → AllByRecursion P (filter test xs)
all_filter P test [] all = tt
all_filter P test (x ∷ xs) all =
    cond_both (test x) (x ∷ filter test xs) (filter test xs) (AllByRecursion P) (λ h. (all.0, all_filter P test xs all.1)) (λ h. all_filter P test xs all.1)

pub all_at : {X : Type 0} (P : X → Type 0) (xs : List X) (i : ℕ) (d : X) → i < length xs → AllByRecursion P xs → P (get_or xs i d)
all_at P [] i d within all = absurd (omega (arith, within))
all_at P (x ∷ xs) zero d within all = all.0
all_at P (x ∷ xs) (suc i) d within all = all_at P xs i d (omega (arith, within)) all.1

pub all_found : {X : Type 0} (P : X → Type 0) (xs : List X) (n : ℕ) (x : X) → AllByRecursion P xs → slice_get xs n ≡ Some x → P x
all_found P [] n x all found = absurd (cc)
all_found P (y ∷ xs) zero x all found = let same : y ≡ x = cc in subst P same all.0
all_found P (y ∷ xs) (suc n) x all found = all_found P xs n x all.1 found

pub all_contained : {X : Type 0} (P : X → Type 0) (xs : List X) → ((x : X) → Contains xs x → P x) → AllByRecursion P xs
all_contained P [] each = tt
all_contained P (x ∷ xs) each =
    (each x (zero, omega arith, refl), all_contained P xs (λ y there. each y (suc there.0, omega (arith, there.1), there.2)))

pub replicated : {X : Type 0} (n i : ℕ) (x : X) → get_or (replicate n x) i x ≡ x
replicated zero i x = refl
replicated (suc n) zero x = refl
replicated (suc n) (suc i) x = replicated n i x

pub replicated_none : {X : Type 0} (n i : ℕ) → get_or {A = Option X} (replicate n None) i None ≡ None
replicated_none zero i = refl
replicated_none (suc n) zero = refl
replicated_none (suc n) (suc i) = replicated_none n i

pub replicated_empty : {X : Type 0} (n i : ℕ) → get_or {A = List X} (replicate n []) i [] ≡ []
replicated_empty zero i = refl
replicated_empty (suc n) zero = refl
replicated_empty (suc n) (suc i) = replicated_empty n i

pub set_get : {T : Type 0} (xs : List T) (n : ℕ) (x : T) → n < length xs → slice_get (set xs n x) n ≡ Some x
set_get [] n x within = absurd (omega arith)
set_get (y ∷ xs) zero x within = refl
set_get (y ∷ xs) (suc n) x within = set_get xs n x (omega arith)

pub set_get_other : {T : Type 0} (xs : List T) (n m : ℕ) (x : T) → (n ≡ m → ⊥) → slice_get (set xs n x) m ≡ slice_get xs m
set_get_other [] n m x other = refl
set_get_other (y ∷ xs) zero zero x other = absurd (other refl)
set_get_other (y ∷ xs) zero (suc m) x other = refl
set_get_other (y ∷ xs) (suc n) zero x other = refl
set_get_other (y ∷ xs) (suc n) (suc m) x other = set_get_other xs n m x (λ e. other (ap suc e))

pub set_there : {X : Type 0} (xs : List X) (n : ℕ) (x y : X) → slice_get xs n ≡ Some x → slice_get (set xs n y) n ≡ Some y
set_there [] n x y found = absurd (cc found)
set_there (z ∷ xs) zero x y found = refl
set_there (z ∷ xs) (suc n) x y found = set_there xs n x y found

pub found_once : {T : Type 0} (xs : List T) (n : ℕ) (x y : T) → slice_get xs n ≡ Some x → slice_get xs n ≡ Some y → x ≡ y
found_once xs n x y one other = cc

-- a place that is found is below the length
pub found_within : {T : Type 0} (test : T → Bool) (xs : List T) (n : ℕ) → position test xs ≡ Some n → n < length xs
found_within test [] n is = absurd (cc)
found_within test (x ∷ xs) n is = (position-Some test (x ∷ xs) n x is).0

pub from_map : {X Y : Type 0} (f : X → Y) (xs : List X) (i : ℕ) (y : Y) → slice_get (map f xs) i ≡ Some y → (x : X) × (slice_get xs i ≡ Some x) × (f x ≡ y)
from_map f [] i y is = absurd (none-some y is)
from_map f (x ∷ xs) zero y is = (x, refl, same_Some (f x) y is)
from_map f (x ∷ xs) (suc i) y is = from_map f xs i y is

pub range_more : (a n : ℕ) → range_with_len a (suc n) ≡ range_with_len a n ++ (a + n) ∷ []
range_more a zero = ap (λ m. m ∷ []) (omega arith)
range_more a (suc n) =
    let next : a + 1 + n ≡ a + suc n = omega arith in
    ap (λ r. a ∷ r) (range_more (a + 1) n ∙ ap (λ m. range_with_len (a + 1) n ++ m ∷ []) next)

pub range_parts : (a n m k next : ℕ) → n + m ≡ k → a + n ≡ next → range_with_len a k ≡ range_with_len a n ++ range_with_len next m
range_parts a zero m k next h e = let same : k ≡ m = omega arith in let here : a ≡ next = omega arith in rw (same, here) refl
range_parts a (suc n) m zero next h e = absurd (omega arith)
range_parts a (suc n) m (suc k) next h e = ap (λ l. a ∷ l) (range_parts (a + 1) n m k next (omega arith) (omega arith))

-- the next n bytes from a place on, and what follows them
pub next_part : (n at : ℕ) (p : List ℕ) → drop at p ≡ take n (drop at p) ++ drop (at + n) p
next_part n at p = sym (take-append-drop n (drop at p)) ∙ ap (λ r. take n (drop at p) ++ r) (drop-drop n at p)

pub same_bytes : (name : List ℕ) → eq_by_cmp (slice_cmp nat_cmp) name name ≡ true
same_bytes name = is_eq-slice_cmp name name ∙ (bytes_eq-Decides name name).1 refl

pub other_bytes : (q name : List ℕ) → q ≢ name → eq_by_cmp (slice_cmp nat_cmp) q name ≡ false
other_bytes q name other = is_eq-slice_cmp q name ∙ false_from_ne_true _ (λ same. other ((bytes_eq-Decides q name).0 same))
