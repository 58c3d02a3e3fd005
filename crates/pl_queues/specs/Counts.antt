-- How many items of a queue array count, by a test of an item.
use Rattle.std.specs.Prelude.{◌≡◌, ◌≤◌, ℕ, ◌==◌, ◌^◌, Bool, List, [], ◌∷◌, count_by, sum_by, refl}

-- how many items of all queues pass
abbrev pub counted_in : {T : Type 0} → (T → Bool) → List (List T) → ℕ
counted_in counts queues = sum_by (count_by counts) queues

-- no more are counted, so that counts can be added
abbrev pub most : ℕ
most = 2 ^ 62

-- a number is kept that is how many items count
pub record IsKeptCount {T : Type 0} (counts : T → Bool) (queues : List (List T)) (kept : ℕ) : Type 0 where
  pub is : kept ≡ counted_in counts queues
  pub within : kept ≤ most

-- of five items in three queues, those that are 7 are two
pub items_of_all_queues_count : counted_in (λ n. n == 7) ((7 ∷ 8 ∷ []) ∷ [] ∷ (7 ∷ 9 ∷ 9 ∷ []) ∷ []) ≡ 2
items_of_all_queues_count = refl
