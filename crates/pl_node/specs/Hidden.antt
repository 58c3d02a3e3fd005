-- What an avoid list leaves out of what its rows have.
use Rattle.std.specs.Prelude.{ℕ, ◌==◌, ◌&&◌, not, Bool, true, false, List, Option, Some, None}
use Rattle.std.specs.List.{filter}
use Rattle.pl_frame.specs.declared.address.SwitchId.{SwitchId}
use Rattle.pl_node.specs.declared.hidden.Hidden.{Hidden}

abbrev pub is_or_none : Option ℕ → ℕ → Bool
is_or_none None n = true
is_or_none (Some m) n = m == n

-- whether the entries for a pod and a position are left out
abbrev pub hides : Hidden → ℕ → ℕ → Bool
hides h pod position = (h.pod == pod) && is_or_none h.position position

abbrev pub hidden_at : Option Hidden → ℕ → ℕ → Bool
hidden_at None pod position = false
hidden_at (Some h) pod position = hides h pod position

-- all others
unfoldable pub shown : Option Hidden → List (SwitchId × ℕ × ℕ) → List (SwitchId × ℕ × ℕ)
shown hidden list = filter (λ x. not (hidden_at hidden x.1 x.2)) list
