-- A switch is its number.
use Rattle.std.proofs.Common.{ap, ℕ, ◌≡◌}
use Rattle.pl_frame.specs.declared.address.SwitchId.{SwitchId}

pub same_id : (a b : SwitchId) → a.0 ≡ b.0 → a ≡ b
same_id a b e = let made : ℕ → SwitchId = λ n. record { 0 = n } in ap made e
