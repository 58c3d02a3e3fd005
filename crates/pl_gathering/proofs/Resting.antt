-- A report that is missing is on its way: so where nothing waits none is missing, and all that was told is treated.
use Rattle.std.proofs.Common.{◌≡◌, ℕ, ◌==◌, ◌||◌, ◌&&◌, not, Bool, true, false, cond, List, [], ◌∷◌, ◌++◌, refl, sym, ap, ◌∙◌, subst, inl, inr}
use Rattle.std.specs.List.{IsDistinct}
use Rattle.std.proofs.lemmas.Bool.{cases_Bool, cond_both, false≢true, or_parts}
use Rattle.pl_frame.specs.declared.address.SwitchId.{SwitchId}
use Rattle.pl_layouts.specs.Equality.{same_switch}
use Rattle.pl_layouts.proofs.Exports.{switch_itself}
use Rattle.pl_gathering.specs.Gathering.{Gathered, Heard, Report, all_treated, gone_through, hears, hears_begin, hears_end, hears_word, in_turn, is_among, is_whole, with_ended, treated_alone}
use Rattle.pl_gathering.specs.Gathering.Report.{Begin, End, Tells}
use Rattle.pl_gathering.specs.Keeping.{before}
use Rattle.pl_gathering.specs.Orderly.{AreComing, IsOrderly, will_end}
use Rattle.pl_gathering.proofs.Hearing.{same_is}
use Rattle.pl_gathering.proofs.Phases.{whole_at_rest}

-- where no `Hello` and no report waits, all reports were heard
pub rest_is_whole : {K T : Type 0} (ids : List SwitchId) (g : Gathered K T) (silent : SwitchId → Bool) (queue : SwitchId → List (Report T)) → IsOrderly ids g → IsDistinct same_switch ids →
    AreComing ids g silent queue → ((s : SwitchId) → silent s ≡ false) → ((s : SwitchId) → queue s ≡ []) → is_whole g ≡ true
rest_is_whole ids g silent queue orderly once coming loud empty = elim (cases_Bool (is_whole g)) [
  | inl whole ↦ whole
  | inr part ↦ whole_at_rest g ids orderly.many once (λ t known. elim (cases_Bool (is_among t g.ended)) [
    | inl ended ↦ ended
    | inr missing ↦ absurd (false≢true (ap (will_end g.epoch (is_among t g.begun)) (sym (empty t)) ∙ coming t known (loud t) part missing))
  ])
]

module _ {K T : Type 0} (ids : List SwitchId) (g : Gathered K T) (silent : SwitchId → Bool) (s : SwitchId) (queue : SwitchId → List (Report T)) where
  -- of the others the same is coming
  other_same : (r : Report T) (t : SwitchId) → same_switch s t ≡ false → before s r queue t ≡ queue t
  other_same r t other = ap (λ b. cond b (r ∷ queue t) (queue t)) other

  here_first : (r : Report T) (t : SwitchId) → same_switch s t ≡ true → before s r queue t ≡ r ∷ queue t
  here_first r t same = ap (λ b. cond b (r ∷ queue t) (queue t)) same

  unequal : (n : ℕ) → (not (n == g.epoch) || is_among s g.begun) ≡ true → (b : Bool) → is_among s g.begun ≡ b → (q : List (Report T)) →
      will_end g.epoch b (Begin n ∷ q) ≡ true → will_end g.epoch b q ≡ true
  unequal n void true begun q ends = ends
  unequal n void false none q ends = by (n == g.epoch) (ap (λ c. not (n == g.epoch) || c) (sym none) ∙ void) ends
    where
      by : (c : Bool) → (not c || false) ≡ true → cond c (will_end g.epoch true q) (will_end g.epoch false q) ≡ true → will_end g.epoch false q ≡ true
      by true void ends = absurd (false≢true void)
      by false void ends = ends

  coming_begun : (n : ℕ) → AreComing ids g silent (before s (Begin n) queue) → AreComing ids (hears_begin g s n) silent queue
  coming_begun n coming =
      cond_both (is_whole g || (not (n == g.epoch) || is_among s g.begun)) g (record g { begun = s ∷ g.begun }) (λ x. AreComing ids x silent queue)
      (λ void t known loud part missing. elim (cases_Bool (same_switch s t)) [
        | inr other ↦ subst (λ q. will_end g.epoch (is_among t g.begun) q ≡ true) (other_same (Begin n) t other) (coming t known loud part missing)
        | inl same ↦
            let is = sym (ap (λ b. b || (not (n == g.epoch) || is_among s g.begun)) part) ∙ void in
            subst (λ u. will_end g.epoch (is_among u g.begun) (queue u) ≡ true) (same_is s t same)
            (unequal n is (is_among s g.begun) refl (queue s)
            (subst (λ q. will_end g.epoch (is_among s g.begun) q ≡ true) (here_first (Begin n) s (switch_itself s))
            (subst (λ u. will_end g.epoch (is_among u g.begun) (before s (Begin n) queue u) ≡ true) (sym (same_is s t same)) (coming t known loud part missing))))
      ])
      (λ heard t known loud part missing.
      let two = or_parts (is_whole g) (not (n == g.epoch) || is_among s g.begun) heard in
      let more = or_parts (not (n == g.epoch)) (is_among s g.begun) two.1 in
      by t n more.0 more.1 (same_switch s t) refl (coming t known loud part missing))
    where
      by : (t : SwitchId) (n : ℕ) → not (n == g.epoch) ≡ false → is_among s g.begun ≡ false → (b : Bool) → same_switch s t ≡ b →
          will_end g.epoch (is_among t g.begun) (cond b (Begin n ∷ queue t) (queue t)) ≡ true → will_end g.epoch (b || is_among t g.begun) (queue t) ≡ true
      by t n equal none false other ends = ends
      by t n equal none true same ends =
          let not_yet = subst (λ u. is_among u g.begun ≡ false) (same_is s t same) none in
          sym (ap (λ c. cond c (will_end g.epoch false (queue t)) (will_end g.epoch true (queue t))) equal)
          ∙ turn (n == g.epoch)
          ∙ (sym (ap (λ c. will_end g.epoch c (Begin n ∷ queue t)) not_yet) ∙ ends)
        where
          turn : (c : Bool) → cond (not c) (will_end g.epoch false (queue t)) (will_end g.epoch true (queue t)) ≡ cond c (will_end g.epoch true (queue t)) (will_end g.epoch false (queue t))
          turn true = refl
          turn false = refl

  coming_told : (treat : K → Heard T → K) (word : T) → AreComing ids g silent (before s (Tells word) queue) → AreComing ids (hears_word treat g s word) silent queue
  coming_told treat word coming =
      cond_both (is_whole g) (record g { known = treat g.known (record { switch = s; word = word }) })
      (cond (is_among s g.begun) (record g { kept = g.kept ++ record { switch = s; word = word } ∷ [] }) g) (λ x. AreComing ids x silent queue)
      (λ whole t known loud part missing. absurd (false≢true (sym part ∙ whole)))
      (λ part. cond_both (is_among s g.begun) (record g { kept = g.kept ++ record { switch = s; word = word } ∷ [] }) g (λ x. AreComing ids x silent queue)
      (λ begun t known loud part missing. by t (is_among t g.begun) (same_switch s t) (coming t known loud part missing))
      (λ none t known loud part missing. by t (is_among t g.begun) (same_switch s t) (coming t known loud part missing)))
    where
      by : (t : SwitchId) (c b : Bool) → will_end g.epoch c (cond b (Tells word ∷ queue t) (queue t)) ≡ true → will_end g.epoch c (queue t) ≡ true
      by t c true ends = ends
      by t c false ends = ends

  coming_ended : (treat : K → Heard T → K) (waits : T → Bool) (after : K → K) (n : ℕ) → AreComing ids g silent (before s (End n) queue) →
      AreComing ids (hears_end treat waits after g s n) silent queue
  coming_ended treat waits after n coming =
      cond_both (is_whole g || (not (n == g.epoch && is_among s g.begun) || is_among s g.ended)) g (gone_through treat waits after (with_ended s g)) (λ x. AreComing ids x silent queue)
      (λ void t known loud part missing. elim (cases_Bool (same_switch s t)) [
        | inr other ↦ subst (λ q. will_end g.epoch (is_among t g.begun) q ≡ true) (other_same (End n) t other) (coming t known loud part missing)
        | inl same ↦
            let mine = subst (λ u. is_among u g.ended ≡ false) (sym (same_is s t same)) missing in
            let is = sym (ap (λ b. b || (not (n == g.epoch && is_among s g.begun) || is_among s g.ended)) part) ∙ void in
            let not_now = sym (ap (λ b. not (n == g.epoch && is_among s g.begun) || b) mine) ∙ is in
            subst (λ u. will_end g.epoch (is_among u g.begun) (queue u) ≡ true) (same_is s t same)
            (skipped (n == g.epoch) refl (is_among s g.begun) not_now (queue s)
            (subst (λ q. will_end g.epoch (is_among s g.begun) q ≡ true) (here_first (End n) s (switch_itself s))
            (subst (λ u. will_end g.epoch (is_among u g.begun) (before s (End n) queue u) ≡ true) (sym (same_is s t same)) (coming t known loud part missing))))
      ])
      (λ heard.
      let two = or_parts (is_whole g) (not (n == g.epoch && is_among s g.begun) || is_among s g.ended) heard in
      let h : Gathered K T = with_ended s g in
      cond_both (is_whole h) (record h { kept = []; known = after (all_treated treat h.known (in_turn waits h.kept)) }) h (λ x. AreComing ids x silent queue)
      (λ whole t known loud part missing. absurd (false≢true (sym part ∙ whole)))
      (λ part t known loud part_too missing.
      let more = or_parts (same_switch s t) (is_among t g.ended) missing in
      subst (λ q. will_end g.epoch (is_among t g.begun) q ≡ true) (other_same (End n) t more.0) (coming t known loud two.0 more.1)))
    where
      skipped : (c : Bool) → (n == g.epoch) ≡ c → (b : Bool) → (not (c && b) || false) ≡ true → (q : List (Report T)) → will_end g.epoch b (End n ∷ q) ≡ true → will_end g.epoch b q ≡ true
      skipped c is false void q ends = ends
      skipped true is true void q ends = absurd (false≢true void)
      skipped false is true void q ends = sym (ap (λ x. x || will_end g.epoch true q) is) ∙ ends

  -- each hearing leaves it so
  pub hearing_coming : (treat : K → Heard T → K) (waits : T → Bool) (after : K → K) (r : Report T) → AreComing ids g silent (before s r queue) →
      AreComing ids (hears treat waits after g s r) silent queue
  hearing_coming treat waits after (Begin n) coming = coming_begun n coming
  hearing_coming treat waits after (End n) coming = coming_ended treat waits after n coming
  hearing_coming treat waits after (Tells word) coming = coming_told (treated_alone treat after) word coming
