-- A hash goes on where the one before it ended.
use Rattle.std.proofs.Common.{◌≡◌, ℕ, List, ◌∷◌, ◌++◌, sym, ap, ◌∙◌}
use Rattle.std.specs.List.{fold}
use Rattle.std.proofs.lemmas.List.Sums.{fold-append}
use Rattle.pl_layouts.specs.Flow.{fnv_step}

-- one byte, some more, and then the rest
pub hashed_in_parts : (before : ℕ) (first : ℕ) (next rest : List ℕ) {with_first with_next all : ℕ} {last : List ℕ}
    → with_first ≡ fnv_step before first → with_next ≡ fold fnv_step with_first next → last ≡ rest → all ≡ fold fnv_step with_next last
    → all ≡ fold fnv_step before (first ∷ (next ++ rest))
hashed_in_parts before first next rest a b c d =
    d ∙ ap (fold fnv_step _) c ∙ ap (λ h. fold fnv_step h rest) (b ∙ ap (λ h. fold fnv_step h next) a)
    ∙ sym (fold-append fnv_step (fnv_step before first) next rest)
