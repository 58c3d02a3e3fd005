-- The front of a list is rewritten in place.
use Rattle.std.proofs.Common.{◌≡◌, ℕ, zero, suc, List, [], ◌∷◌, ◌++◌, length, take, drop, refl, ap, arith}

pub front_kept : {X : Type 0} (n : ℕ) (old new : List X) → length new ≡ length (take n old) → take n (new ++ drop n old) ≡ new
front_kept zero old [] many = refl
front_kept zero old (x ∷ new) many = absurd (omega arith)
front_kept (suc n) [] [] many = refl
front_kept (suc n) [] (x ∷ new) many = absurd (omega arith)
front_kept (suc n) (y ∷ old) [] many = absurd (omega arith)
front_kept (suc n) (y ∷ old) (x ∷ new) many = ap (λ rest. x ∷ rest) (front_kept n old new (omega arith))
