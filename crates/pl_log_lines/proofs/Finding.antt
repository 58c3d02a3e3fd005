-- The first item that passes a test, looked for from the first on.
use Rattle.std.proofs.Common.{◌≡◌, ◌<◌, ◌≤◌, ℕ, suc, ◌+◌, Bool, true, false, if◌then◌else◌, List, ◌∷◌, Option, None, Some, drop, find, get_or, length, ap, ◌∙◌, add-one}
use Rattle.std.proofs.lemmas.List.{drop_all}
use Rattle.std.proofs.Math.Seq.{drop-cons}

module _ {T : Type 0} (test : T → Bool) (items : List T) (i : ℕ) where
  next_of : (d : T) → i < length items → find test (drop i items) ≡ find test (get_or items i d ∷ drop (suc i) items)
  next_of d within = ap (find test) (drop-cons items i d within)

  pub found_here : (d : T) (whole : Option T) → i < length items → whole ≡ find test (drop i items) → test (get_or items i d) ≡ true → whole ≡ Some (get_or items i d)
  found_here d whole within before passes =
      before ∙ next_of d within ∙ ap (λ b. if◌then◌else◌ {A = Option T} b (Some (get_or items i d)) (find test (drop (suc i) items))) passes

  pub found_later : (d : T) (whole : Option T) → i < length items → whole ≡ find test (drop i items) → test (get_or items i d) ≡ false →
      whole ≡ find test (drop (i + 1) items)
  found_later d whole within before fails =
      rw add-one (before ∙ next_of d within ∙ ap (λ b. if◌then◌else◌ {A = Option T} b (Some (get_or items i d)) (find test (drop (suc i) items))) fails)

  pub found_nowhere : (whole : Option T) → length items ≤ i → whole ≡ find test (drop i items) → whole ≡ None
  found_nowhere whole past before = before ∙ ap (find test) (drop_all i items past)
