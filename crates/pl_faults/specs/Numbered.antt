-- The bits of edge switches, and whether each has one.
use Rattle.std.specs.Prelude.{◌≡◌, ◌==◌, ℕ, Bool, false, List, Option, Some, None, is_some}
use Rattle.std.specs.List.{list_all, list_any}
use Rattle.pl_bits.specs.Bits.{has_bit}
use Rattle.pl_node.specs.AvoidRows.{number_of}
use Rattle.pl_faults.specs.declared.edges.Edge.{Edge}

-- whether a number is that of a bit
abbrev pub is_number : ℕ → Option ℕ → Bool
is_number n None = false
is_number n (Some m) = n == m

-- whether the bit of an edge switch has this number
abbrev pub has_bit_at : ℕ → Edge → Bool
has_bit_at n e = is_number n (number_of e.pod e.position)

-- whether an edge switch has a bit
abbrev pub has_number : Edge → Bool
has_number e = is_some (number_of e.pod e.position)

-- the bits of edge switches, and whether each has one
pub record AreNumbered (es : List Edge) (words : List ℕ) (is_all : Bool) : Type 0 where
  pub bits : (n : ℕ) → has_bit words n ≡ list_any (has_bit_at n) es
  pub all : is_all ≡ list_all has_number es
