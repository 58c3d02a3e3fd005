-- What is in queues: where an item is put, a head is taken or a queue is emptied; and how often a frame that waits, or has ended, is counted.
use Rattle.std.proofs.Common.{◌≡◌, ◌⊎◌, ℕ, zero, suc, ◌+◌, ◌≤◌, ◌<◌, ◌==◌, Bool, true, false, if◌then◌else◌, List, [], ◌∷◌, ◌++◌, length, set, refl, sym, subst, arith, inl, inr}
use Rattle.std.proofs.lemmas.Bool.{cases_eq, cases_lt, cond-true, eq-eqb}
use Rattle.std.proofs.lemmas.List.{get_or-set_other, get_or-set_same, set_past}
use Rattle.pl_journal.specs.declared.entry.Entry.{Entry}
use Rattle.pl_journal.specs.declared.entry.Entry.TheVariants.{Arrived}
use Rattle.pl_wiring.specs.declared.host.HostNo.{HostNo}
use Rattle.pl_journal.specs.Flights.{ended_by, ends, is_frame}
use Rattle.pl_node.proofs.Exports.{among_left, among_right, IsAmong}
use Rattle.pl_queues.specs.Queues.{items_at, put_at}
use Rattle.pl_world.specs.declared.item.Item.{Item}
use Rattle.pl_world.specs.declared.item.Item.TheVariants.{Control, Data}
use Rattle.pl_world.specs.Flying.{times_in, times_in_all}

pub put_keeps : (queues : List (List Item)) (n i : ℕ) (x y : Item) → IsAmong x (items_at queues i) → IsAmong x (items_at (put_at queues n y) i)
put_keeps queues n i x y h = elim (cases_eq i n) [
  | inr other ↦ subst (IsAmong x) (sym (get_or-set_other queues n i (items_at queues n ++ y ∷ []) [] other)) h
  | inl same ↦ elim (cases_lt n (length queues)) [
    | inl within ↦
        subst (λ j. IsAmong x (items_at (put_at queues n y) j)) (sym same)
        (subst (IsAmong x) (sym (get_or-set_same queues n (items_at queues n ++ y ∷ []) [] within))
        (among_left x (items_at queues n) (y ∷ []) (subst (λ j. IsAmong x (items_at queues j)) same h)))
    | inr past ↦ subst (λ qs. IsAmong x (items_at qs i)) (sym (set_past queues n (items_at queues n ++ y ∷ []) past)) h
  ]
]

pub put_there : (queues : List (List Item)) (n : ℕ) (y : Item) → n < length queues → IsAmong y (items_at (put_at queues n y) n)
put_there queues n y within =
    subst (IsAmong y) (sym (get_or-set_same queues n (items_at queues n ++ y ∷ []) [] within)) (among_right y (items_at queues n) (y ∷ []) (inl refl))

-- what is left of a queue, and of the others, once its first item is taken
pub left_over : (queues : List (List Item)) (n i : ℕ) (x y : Item) (items : List Item) → items_at queues n ≡ y ∷ items → IsAmong x (items_at queues i) →
    ((i ≡ n) × (y ≡ x)) ⊎ IsAmong x (items_at (set queues n items) i)
left_over queues n i x y items head h = elim (cases_eq i n) [
  | inr other ↦ inr (subst (IsAmong x) (sym (get_or-set_other queues n i items [] other)) h)
  | inl same ↦ elim (subst (IsAmong x) head (subst (λ j. IsAmong x (items_at queues j)) same h)) [
    | inl is ↦ inl (same, is)
    | inr rest ↦ elim (cases_lt n (length queues)) [
      | inl within ↦ inr (subst (λ j. IsAmong x (items_at (set queues n items) j)) (sym same) (subst (IsAmong x) (sym (get_or-set_same queues n items [] within)) rest))
      | inr past ↦ inr (subst (λ qs. IsAmong x (items_at qs i)) (sym (set_past queues n items past)) h)
    ]
  ]
]

-- another queue is emptied
pub emptied : (queues : List (List Item)) (n i : ℕ) (x : Item) → (i ≡ n → ⊥) → IsAmong x (items_at queues i) → IsAmong x (items_at (set queues n []) i)
emptied queues n i x other h = subst (IsAmong x) (sym (get_or-set_other queues n i [] [] other)) h

waits_once : (id : ℕ) (frame : List ℕ) (items : List Item) → IsAmong (Data id frame) items → 1 ≤ times_in id items
waits_once id frame [] among = absurd among
waits_once id frame (item ∷ items) (inl is) = subst (λ y. 1 ≤ times_in id (y ∷ items)) (sym is)
    (subst (λ n. 1 ≤ n) (sym (cond-true (id == id) (times_in id items + 1) (times_in id items) (eq-eqb id id refl))) (omega arith))
waits_once id frame (Control f ∷ items) (inr rest) = waits_once id frame items rest
waits_once id frame (Data n f ∷ items) (inr rest) = by (waits_once id frame items rest) (n == id)
  where
    by : 1 ≤ times_in id items → (b : Bool) → 1 ≤ (if b then times_in id items + 1 else times_in id items)
    by less true = omega (arith, less)
    by less false = less

pub waits_in_all : (id : ℕ) (frame : List ℕ) (queues : List (List Item)) (n : ℕ) → IsAmong (Data id frame) (items_at queues n) → 1 ≤ times_in_all id queues
waits_in_all id frame [] n among = absurd among
waits_in_all id frame (queue ∷ queues) zero among = let here = waits_once id frame queue among in omega (arith, here)
waits_in_all id frame (queue ∷ queues) (suc n) among = let rest = waits_in_all id frame queues n among in omega (arith, rest)

pub arrived_ends : (id : ℕ) (h : HostNo) (frame : List ℕ) (journal : List Entry) → IsAmong (Arrived id h frame) journal → 1 ≤ ends journal id
arrived_ends id h frame [] among = absurd among
arrived_ends id h frame (x ∷ journal) (inl same) =
    subst (λ e. 1 ≤ ends (e ∷ journal) id) (sym same) (subst (λ n. 1 ≤ n) (sym (cond-true (id == id) (ends journal id + 1) (ends journal id) (eq-eqb id id refl))) (omega arith))
arrived_ends id h frame (x ∷ journal) (inr rest) = by (arrived_ends id h frame journal rest) (is_frame (ended_by x) id)
  where
    by : 1 ≤ ends journal id → (b : Bool) → 1 ≤ (if b then ends journal id + 1 else ends journal id)
    by less true = omega (arith, less)
    by less false = less
