-- What holds of the items of queues.
use Rattle.std.proofs.Common.{ℕ, zero, suc, List, [], ◌∷◌, false, refl, sym, ◌≡◌}
use Rattle.std.specs.List.{AllByRecursion}
use Rattle.std.proofs.lemmas.Bool.{false≢true}
use Rattle.pl_queues.specs.Queues.{has_items, items_at}

-- all items at a place
pub all_items_at : {X : Type 0} (P : X → Type 0) (queues : List (List X)) (i : ℕ) → AllByRecursion (AllByRecursion P) queues → AllByRecursion P (items_at queues i)
all_items_at P [] i all = tt
all_items_at P (queue ∷ queues) zero all = all.0
all_items_at P (queue ∷ queues) (suc i) all = all_items_at P queues i all.1

pub no_items : {T : Type 0} (xs : List T) → has_items xs ≡ false → xs ≡ []
no_items [] h = refl
no_items (x ∷ xs) h = absurd (false≢true (sym h))
