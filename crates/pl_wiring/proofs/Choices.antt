-- What an option that was chosen says of its parts.
use Rattle.std.proofs.Common.{◌≡◌, Bool, true, false, cond, Option, Some, None, refl}

pub some_unless : {A : Type 0} (b : Bool) (x y : A) → cond b None (Some x) ≡ Some y → (b ≡ false) × (x ≡ y)
some_unless true x y is = cc
some_unless false x y is = let same : x ≡ y = cc in (refl, same)

-- what is chosen of an option and none is there where the test is true
pub where_true : {A : Type 0} (b : Bool) (o : Option A) (y : A) → cond b o None ≡ Some y → o ≡ Some y
where_true true o y is = is
where_true false o y is = cc
