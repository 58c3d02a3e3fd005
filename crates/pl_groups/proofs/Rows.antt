-- What rows say of the needed edge switches: how many a switch serves, and what a core switch reaches.
use Rattle.std.proofs.Common.{◌≡◌, ℕ, ◌+◌, ◌++◌, ◌&&◌, ◌||◌, take, Bool, true, false, cond, List, [], ◌∷◌, length, map, Some, None, refl, sym, ap, ◌∙◌, arith}
use Rattle.std.specs.List.{filter, list_any}
use Rattle.std.proofs.lemmas.List.Sums.{sum_by-cons}
use Rattle.pl_lemmas.proofs.Exports.{or_false}
use Rattle.pl_bits.specs.Rows.{trues}
use Rattle.pl_bits.proofs.Exports.{either_of}
use Rattle.pl_frame.specs.declared.address.SwitchId.{SwitchId}
use Rattle.pl_node.specs.ManagerViews.{Told, alive_neighbours, has_level, is_alive}
use Rattle.pl_node.specs.Trees.{core_reaches}
use Rattle.pl_groups.specs.Serving.{served_at}
use Rattle.pl_groups.specs.Reaching.{with_row}
use Rattle.pl_groups.proofs.Edges.{any_more}

-- ---- a row counted
pub count_is : {X : Type 0} (f : X → Bool) (xs : List X) → trues (map f xs) ≡ length (filter f xs)
count_is f [] = refl
count_is f (x ∷ xs) = sum_by-cons (λ b. cond b 1 0) (f x) (map f xs) ∙ by (count_is f xs) (f x)
  where
    by : trues (map f xs) ≡ length (filter f xs) → (b : Bool) → cond b 1 0 + trues (map f xs) ≡ length (cond b (x ∷ filter f xs) (filter f xs))
    by rest true = omega (arith, rest)
    by rest false = omega (arith, rest)

-- ---- rows of two switches

-- what is reached by some of the neighbours of a core switch
abbrev pub reached_in : Told → List SwitchId → SwitchId → Bool
reached_in told xs e = list_any (λ a. has_level told a 1 && is_alive told a e) xs

pub reached_next : (told : Told) (needed items : List SwitchId) (j : ℕ) (x : SwitchId) (old new : List Bool) → take (j + 1) items ≡ take j items ++ x ∷ [] →
    old ≡ map (reached_in told (take j items)) needed → new ≡ with_row old (served_at told needed x) →
    new ≡ map (reached_in told (take (j + 1) items)) needed
reached_next told needed items j x old new more were now =
    now ∙ ap (λ row. with_row row (served_at told needed x)) were ∙ by (has_level told x 1)
    ∙ (λ i. map (λ e. sym (ap (λ xs. reached_in told xs e) more ∙ any_more (λ a. has_level told a 1 && is_alive told a e) (take j items) x) i) needed)
  where
    by : (b : Bool) → with_row (map (reached_in told (take j items)) needed) (cond b (Some (map (is_alive told x) needed)) None)
        ≡ map (λ e. reached_in told (take j items) e || (b && is_alive told x e)) needed
    by true = either_of (reached_in told (take j items)) (is_alive told x) needed
    by false = λ i. map (λ e. or_false (reached_in told (take j items) e) i) needed

any_filtered : {X : Type 0} (p q : X → Bool) (xs : List X) → list_any (λ x. p x && q x) xs ≡ list_any q (filter p xs)
any_filtered p q [] = refl
any_filtered p q (x ∷ xs) = by (any_filtered p q xs) (p x)
  where
    by : list_any (λ y. p y && q y) xs ≡ list_any q (filter p xs) → (b : Bool) →
        ((b && q x) || list_any (λ y. p y && q y) xs) ≡ list_any q (cond b (x ∷ filter p xs) (filter p xs))
    by rest true = ap (λ c. q x || c) rest
    by rest false = rest

pub reached_all : (told : Told) (needed : List SwitchId) (core : SwitchId) →
    map (reached_in told (alive_neighbours told core)) needed ≡ map (core_reaches told core) needed
reached_all told needed core =
    λ i. map (λ e. any_filtered (λ a. has_level told a 1) (λ a. is_alive told a e) (alive_neighbours told core) i) needed
