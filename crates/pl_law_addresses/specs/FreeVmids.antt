-- The vmids of a port whose addresses are free.
use Rattle.std.specs.Prelude.{◌≡◌, ℕ, ◌==◌, not, Bool, false, List, [], ◌∷◌, Option, Some, None}
use Rattle.std.specs.List.{list_any}
use Rattle.pl_node.specs.AddressUses.{is_held}
use Rattle.pl_node.specs.declared.switch_records.Grant.{Grant}
use Rattle.pl_switch_rule.specs.Granting.{grant_number}

-- an address was granted, and is nobody's
abbrev pub is_free : Option Grant → Bool
is_free None = false
is_free (Some g) = not (is_held g.held)

abbrev pub is_in : ℕ → List ℕ → Bool
is_in vmid vmids = list_any (λ v. v == vmid) vmids

abbrev pub AreOnce : List ℕ → Type 0
AreOnce [] = Unit {0}
AreOnce (v ∷ vmids) = (is_in v vmids ≡ false) × AreOnce vmids

-- a list has just those of the free ones, each once
pub record AreFreeVmids (grants : List Grant) (freed : List ℕ) : Type 0 where
  pub listed : (vmid : ℕ) → is_in vmid freed ≡ is_free (grant_number grants vmid)
  pub once : AreOnce freed
