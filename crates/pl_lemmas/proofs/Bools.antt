-- Truth values: and, or, not, and choices by them.
use Rattle.std.proofs.Common.{Bool, cond, false, None, not, Option, refl, sym, true, ◌&&◌, ◌||◌, ◌∙◌, ◌≡◌}
use Rattle.std.proofs.lemmas.Bool.{false≢true, not-true}

pub or_swap : (a b c : Bool) → (a || (b || c)) ≡ (b || (a || c))
or_swap true true c = refl
or_swap true false c = refl
or_swap false b c = refl

pub or_behind : (a b c : Bool) → ((a || b) || c) ≡ (b || (a || c))
or_behind true true c = refl
or_behind true false c = refl
or_behind false true c = refl
or_behind false false c = refl

pub or_twice : (a b : Bool) → (a || b) ≡ (a || (a || b))
or_twice true b = refl
or_twice false b = refl

pub or_true : (b : Bool) → (b || true) ≡ true
or_true true = refl
or_true false = refl

pub or_false : (b : Bool) → b ≡ (b || false)
or_false true = refl
or_false false = refl

pub and_true : (b : Bool) → (b && true) ≡ b
and_true true = refl
and_true false = refl

pub and_false : (b : Bool) → (b && false) ≡ false
and_false true = refl
and_false false = refl

pub and_turned : (a b : Bool) → (a && b) ≡ (b && a)
and_turned true true = refl
and_turned true false = refl
and_turned false true = refl
and_turned false false = refl

pub second_false : (a b : Bool) → (a && b) ≡ false → a ≡ true → b ≡ false
second_false true b none here = none
second_false false b none here = cc

pub false_before : (a b : Bool) → (a ≡ true → b ≡ true) → b ≡ false → a ≡ false
false_before true b f e = absurd (false≢true (sym e ∙ f refl))
false_before false b f e = refl

pub same_truth : (a b : Bool) → (a ≡ true → b ≡ true) → (b ≡ true → a ≡ true) → a ≡ b
same_truth true b f g = sym (f refl)
same_truth false true f g = g refl
same_truth false false f g = refl

pub still_is : (now was : Bool) → cond was now (not now) ≡ true → now ≡ was
still_is now true e = e
still_is now false e = not-true now e

pub cond_and : {X : Type 0} (a b : Bool) (x : Option X) → cond (a && b) x None ≡ cond a (cond b x None) None
cond_and true b x = refl
cond_and false b x = refl
