-- A number that is known is that number.
use Rattle.std.proofs.Common.{ap, None, Option, refl, Some, true, ℕ, ◌≡◌}
use Rattle.std.proofs.lemmas.Bool.{eq-eqb, eqb-true}
use Rattle.pl_layouts.specs.Placement.{is_known}

pub known_is : (o : Option ℕ) (n : ℕ) → is_known o n ≡ true → o ≡ Some n
known_is None n h = absurd (cc)
known_is (Some m) n h = ap (λ x. Some x) (eqb-true m n h)

pub is_known_of : (o : Option ℕ) (n : ℕ) → o ≡ Some n → is_known o n ≡ true
is_known_of o n e = rw e (eq-eqb n n refl)
