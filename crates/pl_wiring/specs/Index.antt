-- Tables that find an item of a list: by a port of a switch, or by a name.
use Rattle.std.specs.Prelude.{◌≡◌, ℕ, ◌+◌, ◌*◌, ◌<◌, List, Option, Some, None, HoldsAt, nat_lt, if◌then◌else◌, slice_index_or}

-- `look` gives the number of the one item, among the first so many, that is at a key
pub record IsIndex {K X : Type 0} (look : K → Option ℕ) (IsAtKey : X → K → Type 0) (items : List X) (many : ℕ) : Type 0 where
  pub says : (key : K) (n : ℕ) → look key ≡ Some n → (n < many) × HoldsAt (λ x. IsAtKey x key) items n
  pub knows : (n : ℕ) (d : X) (key : K) → n < many → IsAtKey (slice_index_or items n d) key → look key ≡ Some n

-- where a port stands in a table of all ports, switch by switch
abbrev pub port_index : ℕ → ℕ → ℕ → ℕ
port_index k switch port = switch * k + port

-- what such a table has for a port, and `none` where there is no such port
abbrev pub entry_at : {X : Type 0} → X → ℕ → List X → ℕ → ℕ → X
entry_at none k table switch port = if nat_lt port k then slice_index_or table (port_index k switch port) none else none

-- the number of the item at a port
abbrev pub look_at : ℕ → List (Option ℕ) → ℕ × ℕ → Option ℕ
look_at k table key = entry_at None k table key.0 key.1
