-- Values that may be missing, and results.
use Rattle.std.proofs.Common.{Bool, Err, false, IfOk, is_none, is_some, None, Ok, Option, option_and_then, refl, Result, Some, sym, true, ℕ, ◌≡◌}
use Rattle.std.proofs.lemmas.Bool.{false≢true}
use Rattle.std.specs.Prelude.{unwrap_or}
use Rattle.std.specs.Option.{option_map, option_or}

pub is_none_is : (o : Option ℕ) → is_none o ≡ true → o ≡ None
is_none_is None h = refl
is_none_is (Some m) h = absurd (cc)

pub none_of : {X : Type 0} (o : Option X) → is_some o ≡ false → o ≡ None
none_of None e = refl
none_of (Some x) e = absurd (false≢true (sym e))

pub some_number : (o : Option ℕ) → is_some o ≡ true → (n : ℕ) × (o ≡ Some n)
some_number None h = absurd (cc)
some_number (Some n) h = (n, refl)

pub true_inside : (o : Option Bool) → unwrap_or o false ≡ true → o ≡ Some true
true_inside None h = absurd (false≢true h)
true_inside (Some true) h = refl
true_inside (Some false) h = absurd (false≢true h)

pub is_some-option_map : {X Y : Type 0} (f : X → Y) (o : Option X) → is_some (option_map f o) ≡ is_some o
is_some-option_map f None = refl
is_some-option_map f (Some x) = refl

pub option_map_some : {A B : Type 0} (f : A → B) (o : Option A) (y : B) → option_map f o ≡ Some y → (x : A) × (o ≡ Some x) × (f x ≡ y)
option_map_some f None y is = cc
option_map_some f (Some x) y is = let same : f x ≡ y = cc in (x, refl, same)

pub and_then_some : {A B : Type 0} (f : A → Option B) (o : Option A) (y : B) → option_and_then f o ≡ Some y → (x : A) × (o ≡ Some x) × (f x ≡ Some y)
and_then_some f None y is = cc
and_then_some f (Some x) y is = (x, refl, is)

pub option_or_none : {T : Type 0} (o : Option T) → option_or o None ≡ o
option_or_none None = refl
option_or_none (Some x) = refl

pub if_ok : {T E : Type 0} {P Q : T → Type 0} (r : Result T E) → ((x : T) → P x → Q x) → IfOk r P → IfOk r Q
if_ok (Ok x) f h = f x h
if_ok (Err e) f h = h
