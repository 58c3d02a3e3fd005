-- What a table says once a key has another value.
use Rattle.std.proofs.Common.{◌≡◌, Bool, true, false, not, cond, ◌&&◌, ◌||◌, Option, Some, None, is_none, is_some, unwrap_or, refl, sym, ◌∙◌, ap}

pub is_some_now : {A : Type 0} (b : Bool) (v : A) (before : Option A) → is_some (cond b (Some v) before) ≡ (b || is_some before)
is_some_now true v before = refl
is_some_now false v before = refl

pub value_now : {A : Type 0} (b : Bool) (v d : A) (before : Option A) → unwrap_or (cond b (Some v) before) d ≡ cond b v (unwrap_or before d)
value_now true v d before = refl
value_now false v d before = refl

-- what a test says where the first of two has been read
pub and_then : (a b x : Bool) → a ≡ true → (a && b) ≡ x → b ≡ x
and_then a b x is whole = ap (λ t. t && b) (sym is) ∙ whole

pub and_else : (a b x : Bool) → a ≡ false → (a && b) ≡ x → a ≡ x
and_else a b x is whole = is ∙ ap (λ t. t && b) (sym is) ∙ whole

pub or_then : (a b x : Bool) → a ≡ true → (a || b) ≡ x → a ≡ x
or_then a b x is whole = is ∙ ap (λ t. t || b) (sym is) ∙ whole

pub or_else : (a b x : Bool) → a ≡ false → (a || b) ≡ x → b ≡ x
or_else a b x is whole = ap (λ t. t || b) (sym is) ∙ whole

-- that there is none
pub none_by : {A : Type 0} (o : Option A) (b : Bool) → is_some o ≡ not b → b ≡ is_none o
none_by None true is = refl
none_by None false is = is
none_by (Some x) true is = is
none_by (Some x) false is = refl
