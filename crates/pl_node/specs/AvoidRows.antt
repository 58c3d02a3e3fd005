-- How an avoid list is kept: for each neighbour a row of bits, one for each pod below 24 and position below 12, and beside the rows whatever
-- else is listed.
use Rattle.std.specs.Prelude.{ℕ, ◌+◌, ◌*◌, ◌/◌, ◌%◌, ◌&&◌, ◌||◌, ◌≡◌, not, nat_lt, Bool, true, false, if◌then◌else◌, List, ◌++◌, map, Option, Some, None}
use Rattle.std.specs.List.{filter, flat_map, list_any, range_with_len}
use Rattle.std.specs.Ordering.{is_eq}
use Rattle.pl_bits.specs.Bits.{has_bit}
use Rattle.pl_frame.specs.declared.address.SwitchId.{SwitchId}
use Rattle.pl_layouts.specs.Equality.{same_switch}
use Rattle.pl_node.specs.ManagerViews.{in_order}
use Rattle.pl_node.specs.AvoidLists.{avoided_cmp}
use Rattle.pl_node.specs.Hidden.{hidden_at}
use Rattle.pl_node.specs.declared.avoid_row.AvoidRow.{AvoidRow}
use Rattle.pl_node.specs.declared.hidden.Hidden.{Hidden}

-- the number of the bit of a pod and a position, where they have one
abbrev pub number_of : ℕ → ℕ → Option ℕ
number_of pod position = if nat_lt pod 24 && nat_lt position 12 then Some (pod * 12 + position) else None

-- the pod and the position of a bit, with the neighbour of its row
abbrev pub entry_of : SwitchId → ℕ → SwitchId × ℕ × ℕ
entry_of neighbour number = (neighbour, number / 12, number % 12)

abbrev pub entries_of : AvoidRow → List (SwitchId × ℕ × ℕ)
entries_of row = map (entry_of row.neighbour) (filter (has_bit row.words) (range_with_len 0 288))

-- whether a bit of a row is set, and stands for this entry
abbrev pub stands_for : AvoidRow → SwitchId × ℕ × ℕ → ℕ → Bool
stands_for row x n = has_bit row.words n && is_eq (avoided_cmp x (entry_of row.neighbour n))

-- all that the rows have and what stands beside them, in rising order
unfoldable pub listed_in : List AvoidRow → List (SwitchId × ℕ × ℕ) → List (SwitchId × ℕ × ℕ)
listed_in rows others = in_order avoided_cmp (flat_map entries_of rows ++ others)

abbrev pub is_listed : SwitchId × ℕ × ℕ → List (SwitchId × ℕ × ℕ) → Bool
is_listed x list = list_any (λ a. is_eq (avoided_cmp x a)) list

-- whether a row is of this neighbour and has this bit
abbrev pub row_has : SwitchId → ℕ → AvoidRow → Bool
row_has neighbour number row = same_switch row.neighbour neighbour && has_bit row.words number

abbrev pub rows_have : SwitchId → Option ℕ → List AvoidRow → Bool
rows_have neighbour None rows = false
rows_have neighbour (Some number) rows = list_any (row_has neighbour number) rows

-- whether some row has this bit
abbrev pub some_has : Option ℕ → List AvoidRow → Bool
some_has None rows = false
some_has (Some number) rows = list_any (λ row. has_bit row.words number) rows

-- a list gains the items that pass, unless another list has them
abbrev pub Gains : List (SwitchId × ℕ × ℕ) → List (SwitchId × ℕ × ℕ) → List (SwitchId × ℕ × ℕ) → (SwitchId × ℕ × ℕ → Bool) → Type 0
Gains old new other test = (x : SwitchId × ℕ × ℕ) → is_listed x new ≡ (is_listed x old || (test x && not (is_listed x other)))

-- whatever passes is listed
abbrev pub AreListed : (SwitchId × ℕ × ℕ → Bool) → List (SwitchId × ℕ × ℕ) → Type 0
AreListed test list = (x : SwitchId × ℕ × ℕ) → test x ≡ true → is_listed x list ≡ true

-- two rows have the same apart from what a list has
abbrev pub AreSameBeyond : AvoidRow → AvoidRow → List (SwitchId × ℕ × ℕ) → Type 0
AreSameBeyond a b list =
    (x : SwitchId × ℕ × ℕ) → (is_listed x (entries_of a) && not (is_listed x list)) ≡ (is_listed x (entries_of b) && not (is_listed x list))

-- nothing that passes is hidden
abbrev pub AreApart : (SwitchId × ℕ × ℕ → Bool) → Option Hidden → Type 0
AreApart test hidden = (x : SwitchId × ℕ × ℕ) → test x ≡ true → hidden_at hidden x.1 x.2 ≡ false
