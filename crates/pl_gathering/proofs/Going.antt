-- What each treated word keeps, the treating of all that was kept keeps.
use mathlib.Core.Path.{fun_ext}
use Rattle.std.proofs.Common.{◌≡◌, Bool, true, false, if◌then◌else◌, not, List, [], ◌∷◌, ◌++◌, refl, sym, ap, ◌∙◌, subst, append-nil}
use Rattle.std.specs.List.{filter}
use Rattle.pl_frame.specs.declared.address.SwitchId.{SwitchId}
use Rattle.pl_layouts.specs.Equality.{same_switch}
use Rattle.pl_gathering.specs.Gathering.{Heard, all_treated, in_turn, kept_of}
use Rattle.pl_gathering.specs.Keeping.{IsKept}

module _ {K T : Type 0} (treat : K → Heard T → K) (P : K → (SwitchId → List T) → Type 0) where
  first_kept : (h : Heard T) (kept : List (Heard T)) (up : SwitchId → List T) (s : SwitchId) (b : Bool) →
      (if b then h.word ∷ kept_of s kept else kept_of s kept) ++ up s ≡ (if b then h.word ∷ (kept_of s kept ++ up s) else kept_of s kept ++ up s)
  first_kept h kept up s true = refl
  first_kept h kept up s false = refl

  pub all_treated_keeps : IsKept treat P → (kept : List (Heard T)) (k : K) (up : SwitchId → List T) → P k (λ s. kept_of s kept ++ up s) → P (all_treated treat k kept) up
  all_treated_keeps each [] k up holds = holds
  all_treated_keeps each (h ∷ kept) k up holds =
      all_treated_keeps each kept (treat k h) up
      (each k h (λ s. kept_of s kept ++ up s)
      (subst (P k) (fun_ext (λ s. first_kept h kept up s (same_switch h.switch s))) holds))

pub kept_both : {T : Type 0} (s : SwitchId) (xs ys : List (Heard T)) → kept_of s (xs ++ ys) ≡ kept_of s xs ++ kept_of s ys
kept_both s [] ys = refl
kept_both {T} s (h ∷ xs) ys = by (same_switch h.switch s) (kept_both s xs ys)
  where
    by : (b : Bool) → kept_of s (xs ++ ys) ≡ kept_of s xs ++ kept_of s ys →
        (if b then h.word ∷ kept_of s (xs ++ ys) else kept_of s (xs ++ ys)) ≡ (if b then h.word ∷ kept_of s xs else kept_of s xs) ++ kept_of s ys
    by true rest = ap (λ ws. h.word ∷ ws) rest
    by false rest = rest

-- Words that wait are moved behind the others: whoever does not look at them sees no change.
module _ {T : Type 0} (waits : T → Bool) (s : SwitchId) where
  abbrev pub others : List T → List T
  others xs = filter (λ t. not (waits t)) xs

  others_append : (xs ys : List T) → others (xs ++ ys) ≡ others xs ++ others ys
  others_append [] ys = refl
  others_append (x ∷ xs) ys = by (waits x) (others_append xs ys)
    where
      by : (b : Bool) → others (xs ++ ys) ≡ others xs ++ others ys →
          (if not b then x ∷ others (xs ++ ys) else others (xs ++ ys)) ≡ (if not b then x ∷ others xs else others xs) ++ others ys
      by true rest = rest
      by false rest = ap (λ ws. x ∷ ws) rest

  -- those that wait are none of the others
  kept_waiting : (kept : List (Heard T)) → others (kept_of s (filter (λ h. waits h.word) kept)) ≡ []
  kept_waiting [] = refl
  kept_waiting (h ∷ kept) = by (waits h.word) refl (same_switch h.switch s) (kept_waiting kept)
    where
      by : (b : Bool) → waits h.word ≡ b → (c : Bool) → others (kept_of s (filter (λ h. waits h.word) kept)) ≡ [] →
          others (kept_of s (if b then h ∷ filter (λ h. waits h.word) kept else filter (λ h. waits h.word) kept)) ≡ []
      by true is c rest = two (same_switch h.switch s)
        where
          two : (c : Bool) → others (if c then h.word ∷ kept_of s (filter (λ h. waits h.word) kept) else kept_of s (filter (λ h. waits h.word) kept)) ≡ []
          two true = ap (λ b. if not b then h.word ∷ others (kept_of s (filter (λ h. waits h.word) kept)) else others (kept_of s (filter (λ h. waits h.word) kept))) is ∙ rest
          two false = rest
      by false is c rest = rest

  kept_others : (kept : List (Heard T)) → others (kept_of s (filter (λ h. not (waits h.word)) kept)) ≡ others (kept_of s kept)
  kept_others [] = refl
  kept_others (h ∷ kept) = by (waits h.word) refl (kept_others kept)
    where
      those : List (Heard T)
      those = filter (λ h. not (waits h.word)) kept

      here : (b c : Bool) → others (kept_of s those) ≡ others (kept_of s kept) →
          others (if c then h.word ∷ kept_of s those else kept_of s those) ≡ others (if c then h.word ∷ kept_of s kept else kept_of s kept)
      here b true rest = ap (λ ws. if not (waits h.word) then h.word ∷ ws else ws) rest
      here b false rest = rest

      gone : (c : Bool) → waits h.word ≡ true → others (kept_of s those) ≡ others (kept_of s kept) →
          others (kept_of s those) ≡ others (if c then h.word ∷ kept_of s kept else kept_of s kept)
      gone true is rest = rest ∙ ap (λ b. if not b then h.word ∷ others (kept_of s kept) else others (kept_of s kept)) (sym is)
      gone false is rest = rest

      by : (b : Bool) → waits h.word ≡ b → others (kept_of s those) ≡ others (kept_of s kept) →
          others (kept_of s (if not b then h ∷ those else those)) ≡ others (if same_switch h.switch s then h.word ∷ kept_of s kept else kept_of s kept)
      by true is rest = gone (same_switch h.switch s) is rest
      by false is rest = here true (same_switch h.switch s) rest

  -- the others of what is due are in the order in which they were heard
  pub in_turn_others : (kept : List (Heard T)) → others (kept_of s (in_turn waits kept)) ≡ others (kept_of s kept)
  in_turn_others kept =
      ap others (kept_both s (filter (λ h. not (waits h.word)) kept) (filter (λ h. waits h.word) kept))
      ∙ others_append (kept_of s (filter (λ h. not (waits h.word)) kept)) (kept_of s (filter (λ h. waits h.word) kept))
      ∙ (ap (λ ws. others (kept_of s (filter (λ h. not (waits h.word)) kept)) ++ ws) (kept_waiting kept) ∙ append-nil (others (kept_of s (filter (λ h. not (waits h.word)) kept))))
      ∙ kept_others kept
