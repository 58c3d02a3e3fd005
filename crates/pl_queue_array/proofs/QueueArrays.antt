-- The marks of the queues that have items.
use Rattle.std.proofs.Common.{◌≡◌, ℕ, Option, None, Some, MatchOption, IfSome, ◌-◌, ◌<◌, ◌≤◌, Bool, true, false, List, [], ◌∷◌, ◌++◌, map, length, replicate, slice_get, slice_set, sym, refl, ap, ◌∙◌, zero, suc, arith}
use Rattle.std.specs.List.{filter, range_with_len}
use Rattle.std.proofs.lemmas.List.{map-set, length-map, set-get_or}
use Rattle.std.proofs.lemmas.List.Elements.{filter_agree}
use Rattle.pl_queues.specs.Queues.{filled_indices, has_items, items_at, next_filled, next_index}
use Rattle.pl_queue_array.specs.Bits.{is_marked, next_marked}
use Rattle.pl_queue_array.specs.Tallies.{marked_indices}
use Rattle.pl_queue_array.proofs.Ranges.{index_below}
use Rattle.pl_queue_array.proofs.Indices.{find_same, next_index_is_least}

module _ {T : Type 0} where
  -- a queue changes, and its mark with it
  pub marks-changed : (marks : List Bool) (queues : List (List T)) (at : ℕ) (queue : List T) (b : Bool)
      → marks ≡ map has_items queues → has_items queue ≡ b → slice_set marks at b ≡ map has_items (slice_set queues at queue)
  marks-changed marks queues at queue b marked here =
      ap (λ m. slice_set m at b) marked ∙ ap (λ c. slice_set (map has_items queues) at c) (sym here) ∙ sym (map-set has_items queues at queue)

  -- a queue is emptied, and its mark is cleared
  pub marks_emptied : (marks : List Bool) (queues : List (List T)) (at : ℕ) → marks ≡ map has_items queues → slice_set marks at false ≡ map has_items (slice_set queues at [])
  marks_emptied marks queues at marked = marks-changed marks queues at [] false marked refl

  -- a queue changes that had items and still has them
  marks-kept : (marks : List Bool) (queues : List (List T)) (at : ℕ) (queue : List T)
      → marks ≡ map has_items queues → has_items (items_at queues at) ≡ has_items queue → marks ≡ map has_items (slice_set queues at queue)
  marks-kept marks queues at queue marked same =
      marked ∙ ap (map has_items) (sym (set-get_or queues at []))
      ∙ map-set has_items queues at (items_at queues at)
      ∙ ap (λ c. slice_set (map has_items queues) at c) same ∙ sym (map-set has_items queues at queue)

  has_items-push : (queue : List T) (x : T) → has_items (queue ++ x ∷ []) ≡ true
  has_items-push [] x = refl
  has_items-push (y ∷ ys) x = refl

  -- an item is put behind the others of a queue, and its mark is set
  pub marks_put : (marks : List Bool) (queues : List (List T)) (at : ℕ) (queue old : List T) (x : T)
      → marks ≡ map has_items queues → queue ≡ old ++ x ∷ [] → slice_set marks at true ≡ map has_items (slice_set queues at queue)
  marks_put marks queues at queue old x marked longer =
      marks-changed marks queues at queue true marked (ap has_items longer ∙ has_items-push old x)

  has_items_of_some : (queue : List T) → 0 < length queue → has_items queue ≡ true
  has_items_of_some [] some = absurd (omega (arith, some))
  has_items_of_some (y ∷ ys) some = refl

  nothing_left : (queue : List T) → length queue ≡ 0 → queue ≡ []
  nothing_left [] none = refl
  nothing_left (y ∷ ys) none = absurd (omega (arith, none))

  -- what taking the first item of a queue does
  abbrev Takes : List (List T) → List (List T) → ℕ → Option T → Type 0
  Takes old new at taken =
      MatchOption taken ((items_at old at ≡ []) × (new ≡ old)) (λ x. (items_at old at ≡ x ∷ items_at new at) × (new ≡ slice_set old at (items_at new at)))

  module _ (marks : List Bool) (old new : List (List T)) (at : ℕ) (marked : marks ≡ map has_items old) where
    -- the queue is empty then, and its mark is cleared
    pub marks_of_emptied : (taken : Option T) → Takes old new at taken → length (items_at new at) ≡ 0 → slice_set marks at false ≡ map has_items new
    marks_of_emptied None h none =
        marks-changed marks old at [] false marked refl
        ∙ ap (map has_items) (ap (slice_set old at) (sym h.0) ∙ set-get_or old at [] ∙ sym h.1)
    marks_of_emptied (Some x) h none =
        marks-changed marks old at (items_at new at) false marked (ap has_items (nothing_left (items_at new at) none)) ∙ ap (map has_items) (sym h.1)

    -- or it has items yet
    pub marks_of_taken : (taken : Option T) → Takes old new at taken → 0 < length (items_at new at) → marks ≡ map has_items new
    marks_of_taken None h some = marked ∙ ap (map has_items) (sym h.1)
    marks_of_taken (Some x) h some =
        marks-kept marks old at (items_at new at) marked (ap has_items h.0 ∙ sym (has_items_of_some (items_at new at) some)) ∙ ap (map has_items) (sym h.1)

  -- the mark of an index tells whether its queue has items
  is_marked-map : (queues : List (List T)) (at : ℕ) → is_marked (map has_items queues) at ≡ has_items (items_at queues at)
  is_marked-map [] at = refl
  is_marked-map (queue ∷ queues) zero = refl
  is_marked-map (queue ∷ queues) (suc at) = is_marked-map queues at

  -- the next mark is the next queue that has items
  pub next_mark_is_next_filled : (marks : List Bool) (queues : List (List T)) (from : ℕ) → marks ≡ map has_items queues
      → next_marked marks from ≡ next_filled queues from
  next_mark_is_next_filled marks queues from marked =
      ap (λ m. next_marked m from) marked
      ∙ ap (λ n. next_index (is_marked (map has_items queues)) n from) (length-map queues has_items)
      ∙ find_same (is_marked (map has_items queues)) (λ at. has_items (items_at queues at)) (is_marked-map queues) (range_with_len from (length queues - from))

  -- the next queue that has items is one of the queue array
  pub next_filled_is_there : (queues : List (List T)) (from : ℕ) (answer : Option ℕ) → answer ≡ next_filled queues from
      → IfSome answer (λ at. (from ≤ at) × (at < length queues) × (has_items (items_at queues at) ≡ true))
  next_filled_is_there queues from None e = tt
  next_filled_is_there queues from (Some at) e =
      let found = next_index_is_least (λ k. has_items (items_at queues k)) (length queues) from (Some at) e in
      (found.0.reached, found.1, found.0.passes)

-- the marked indices are those whose queues have items
pub marked_are_filled : {T : Type 0} (marks : List Bool) (queues : List (List T)) → marks ≡ map has_items queues → marked_indices marks ≡ filled_indices queues
marked_are_filled marks queues marked =
    ap marked_indices marked
    ∙ ap (λ n. filter (is_marked (map has_items queues)) (range_with_len 0 n)) (length-map queues has_items)
    ∙ filter_agree (is_marked (map has_items queues)) (λ at. has_items (items_at queues at)) (is_marked-map queues) (range_with_len 0 (length queues))

-- each is an index of the queue array
pub filled_is_there : {T : Type 0} (queues : List (List T)) (i : ℕ) (answer : Option ℕ) → answer ≡ slice_get (filled_indices queues) i
    → IfSome answer (λ at. at < length queues)
filled_is_there queues i None is = tt
filled_is_there queues i (Some at) is =
    let low = index_below (λ at. has_items (items_at queues at)) (length queues) 0 i at (sym is) in
    omega arith

-- queues that are all empty have no mark
pub no_items_at_first : (T : Type 0) (count : ℕ) → replicate count false ≡ map (has_items {T = T}) (replicate count [])
no_items_at_first T zero = refl
no_items_at_first T (suc count) = ap (λ l. false ∷ l) (no_items_at_first T count)
