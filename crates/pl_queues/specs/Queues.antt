-- What a queue array is: the queue at an index, and the next queue that has items.
use Rattle.std.specs.Prelude.{◌≡◌, ℕ, ◌-◌, Bool, true, false, List, [], ◌∷◌, ◌++◌, length, Option, None, Some, slice_get, slice_index_or, slice_set, refl}
use Rattle.std.specs.List.{filter, find, range_with_len}

-- the first index that passes, of those from `from` on that are below n
abbrev pub next_index : (ℕ → Bool) → ℕ → ℕ → Option ℕ
next_index test n from = find test (range_with_len from (n - from))

-- the queue at an index; past the last it is empty
abbrev pub items_at : {T : Type 0} → List (List T) → ℕ → List T
items_at queues at = slice_index_or queues at []

-- an item is put behind the others of a queue
abbrev pub put_at : {T : Type 0} → List (List T) → ℕ → T → List (List T)
put_at queues at item = slice_set queues at (items_at queues at ++ item ∷ [])

-- whether a queue has items
abbrev pub has_items : {T : Type 0} → List T → Bool
has_items [] = false
has_items (x ∷ xs) = true

-- the first index from `from` on whose queue has items
abbrev pub next_filled : {T : Type 0} → List (List T) → ℕ → Option ℕ
next_filled queues from = next_index (λ at. has_items (items_at queues at)) (length queues) from

-- the indices whose queues have items, rising
abbrev pub filled_indices : {T : Type 0} → List (List T) → List ℕ
filled_indices queues = filter (λ at. has_items (items_at queues at)) (range_with_len 0 (length queues))

-- from index 1 on, the queue at 3 is the next that has items, and from 4 on there is none
pub the_next_queue_with_items_is_found
    : (next_filled {T = ℕ} ((7 ∷ []) ∷ [] ∷ [] ∷ (8 ∷ 9 ∷ []) ∷ [] ∷ []) 1 ≡ Some 3)
    × (next_filled {T = ℕ} ((7 ∷ []) ∷ [] ∷ [] ∷ (8 ∷ 9 ∷ []) ∷ [] ∷ []) 4 ≡ None)
the_next_queue_with_items_is_found = (refl, refl)

-- the second index with items is 3
pub the_second_queue_with_items_is_found : slice_get (filled_indices {T = ℕ} ((7 ∷ []) ∷ [] ∷ [] ∷ (8 ∷ 9 ∷ []) ∷ [] ∷ [])) 1 ≡ Some 3
the_second_queue_with_items_is_found = refl
