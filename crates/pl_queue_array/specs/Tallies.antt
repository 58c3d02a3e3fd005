-- A tree of counts in a row. Below the node n are the nodes 2 n and 2 n + 1, and the leaves are the nodes from `width` on.
use Rattle.std.specs.Prelude.{◌≡◌, ℕ, zero, suc, ◌+◌, ◌*◌, ◌<◌, ◌≤◌, ◌==◌, Bool, List, [], ◌∷◌, length, map, Some, None, slice_get, slice_index, true, false, refl}
use Rattle.std.specs.List.{filter, range_with_len}
use Rattle.pl_queue_array.specs.Bits.{is_marked}

-- the marked indices, rising
abbrev pub marked_indices : List Bool → List ℕ
marked_indices marks = filter (is_marked marks) (range_with_len 0 (length marks))

-- how many leaves a tree of so many levels has
abbrev pub leaves_of : ℕ → ℕ
leaves_of zero = 1
leaves_of (suc levels) = leaves_of levels + leaves_of levels

-- the leaf of an index counts 1 where the index is marked
abbrev pub is_counted : ℕ → List ℕ → ℕ → Bool
is_counted width tree at = slice_index tree (width + at) == 1

-- the marks of the indices below n
unfoldable pub marks_in : ℕ → List ℕ → ℕ → List Bool
marks_in width tree n = map (is_counted width tree) (range_with_len 0 n)

-- each node above the leaves counts what the two below it count
pub record IsSummed (width : ℕ) (tree : List ℕ) : Type 0 where
  pub size : length tree ≡ width + width
  pub sums : (node : ℕ) → 0 < node → node < width → slice_index tree node ≡ slice_index tree (2 * node) + slice_index tree (2 * node + 1)
  pub ones : (at : ℕ) → slice_index tree (width + at) ≤ 1
  -- the farther from the root, the less is counted
  pub few : (node : ℕ) → slice_index tree node * node ≤ width + width

-- such a tree, of so many levels, for the indices below n
pub record IsTallyTree (n levels width : ℕ) (tree : List ℕ) : Type 0 where
  pub leaves : width ≡ leaves_of levels
  pub room : n ≤ width
  pub small : width ≤ 2199023255552
  pub summed : IsSummed width tree
  -- past the last index nothing is counted
  pub none : (at : ℕ) → n ≤ at → slice_index tree (width + at) ≡ 0

-- of four indices 1 and 2 are marked: number 1 of the marked ones is index 2, and there is no number 2
two_of_four
    : (slice_get (marked_indices (false ∷ true ∷ true ∷ false ∷ [])) 1 ≡ Some 2)
    × (slice_get (marked_indices (false ∷ true ∷ true ∷ false ∷ [])) 2 ≡ None)
two_of_four = (refl, refl)
