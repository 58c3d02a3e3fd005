-- An entry begins one frame at most.
use Rattle.std.proofs.Common.{arith, Bool, false, if◌then◌else◌, nat_le, true, ℕ, ◌&&◌, ◌≤◌}
use Rattle.pl_world.specs.Flying.{born}

pub born_once : (id many : ℕ) → born id many ≤ 1
born_once id many = by_test (nat_le 1 id && nat_le id many)
  where
    by_test : (b : Bool) → (if b then 1 else 0) ≤ 1
    by_test true = omega arith
    by_test false = omega arith
