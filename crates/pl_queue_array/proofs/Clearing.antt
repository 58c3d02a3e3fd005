-- Queues are emptied one after the other.
use Rattle.std.proofs.Common.{◌≡◌, ℕ, ◌+◌, ◌<◌, List, [], ◌∷◌, ◌++◌, length, take, replicate, slice_set, sym, ap, ◌∙◌, arith}
use Rattle.std.proofs.lemmas.List.{replicate_more, take_all, take_more_set}

module _ {T : Type 0} where
  -- the first ones are empty
  abbrev pub AreEmptied : List (List T) → ℕ → Type 0
  AreEmptied queues n = take n queues ≡ replicate n []

  pub one_more_emptied : (queues : List (List T)) (n : ℕ) → n < length queues → AreEmptied queues n → AreEmptied (slice_set queues n []) (n + 1)
  one_more_emptied queues n within done = take_more_set queues n [] within ∙ ap (λ l. l ++ [] ∷ []) done ∙ replicate_more n []

  pub all_emptied : (queues : List (List T)) (n : ℕ) → n ≡ length queues → AreEmptied queues n → queues ≡ replicate n []
  all_emptied queues n all done = sym (take_all n queues (omega (arith, all))) ∙ done
