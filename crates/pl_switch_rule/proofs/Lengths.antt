-- Freeing holds keeps how many there are.
use Rattle.std.proofs.Common.{[], ap, length, List, Option, refl, suc, ℕ, ◌+◌, ◌∷◌, ◌≡◌}
use Rattle.pl_frame.specs.declared.address.SwitchId.{SwitchId}
use Rattle.pl_node.specs.declared.switch_records.Hold.{Hold}
use Rattle.pl_switch_rule.specs.Positions.{freed_but}

pub length_freed : (position : ℕ) (edge : SwitchId) (n : ℕ) (holds : List (Option Hold)) → length (freed_but position edge n holds) ≡ length holds
length_freed position edge n [] = refl
length_freed position edge n (hold ∷ holds) = ap suc (length_freed position edge (n + 1) holds)
