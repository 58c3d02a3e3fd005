-- What each treated word keeps, each hearing keeps.
use mathlib.Core.Path.{fun_ext}
use Rattle.std.proofs.Common.{◌≡◌, ℕ, Bool, true, false, if◌then◌else◌, not, ◌||◌, ◌&&◌, ◌==◌, List, [], ◌∷◌, ◌++◌, refl, sym, ap, ◌∙◌, subst, eqb-true, append_assoc, append-nil, inl, inr}
use Rattle.std.proofs.lemmas.Bool.{and_parts, cases_Bool, cond_both, eq-eqb, or_parts}
use Rattle.pl_frame.specs.declared.address.SwitchId.{SwitchId}
use Rattle.pl_layouts.specs.Equality.{same_switch}
use Rattle.pl_gathering.specs.Gathering.{Gathered, Heard, Report, all_treated, due, gone_through, hears, hears_begin, hears_end, hears_word, in_turn, is_among, is_whole, kept_of, with_ended, words, words_behind_begin, treated_alone}
use Rattle.pl_gathering.specs.Gathering.Report.{Begin, End, Tells}
use Rattle.pl_gathering.specs.Keeping.{IsKept, before}
use Rattle.pl_gathering.specs.Orderly.{IsGathering}
use Rattle.pl_gathering.proofs.Going.{all_treated_keeps, kept_both}

pub same_is : (s t : SwitchId) → same_switch s t ≡ true → s ≡ t
same_is s t is = let n = eqb-true s.0 t.0 is in let made : ℕ → SwitchId = λ m. record { 0 = m } in ap made n

pub not_false : (b : Bool) → not b ≡ false → b ≡ true
not_false true h = refl
not_false false h = absurd (cc h)

-- the first report of a queue, of which only a word is one
module _ {T : Type 0} where
  pub word_first : (s t : SwitchId) (word : T) (queue : SwitchId → List (Report T)) (b : Bool) →
      words (if b then Tells word ∷ queue t else queue t) ≡ (if b then word ∷ words (queue t) else words (queue t))
  word_first s t word queue true = refl
  word_first s t word queue false = refl

  pub begin_first : (s t : SwitchId) (n : ℕ) (queue : SwitchId → List (Report T)) (b : Bool) → words (if b then Begin n ∷ queue t else queue t) ≡ words (queue t)
  begin_first s t n queue true = refl
  begin_first s t n queue false = refl

  pub end_first : (s t : SwitchId) (n : ℕ) (queue : SwitchId → List (Report T)) (b : Bool) → words (if b then End n ∷ queue t else queue t) ≡ words (queue t)
  end_first s t n queue true = refl
  end_first s t n queue false = refl

module _ {K T : Type 0} where
  abbrev pub part_due : Gathered K T → (SwitchId → List (Report T)) → SwitchId → List T
  part_due g queue s = if is_among s g.begun then kept_of s g.kept ++ words (queue s) else words_behind_begin g.epoch (queue s)

  pub due_whole : (g : Gathered K T) (queue : SwitchId → List (Report T)) → is_whole g ≡ true → due g queue ≡ (λ s. words (queue s))
  due_whole g queue is = ap (λ b. λ s. if b then words (queue s) else part_due g queue s) is

  pub due_part : (g : Gathered K T) (queue : SwitchId → List (Report T)) → is_whole g ≡ false → due g queue ≡ part_due g queue
  due_part g queue is = ap (λ b. λ s. if b then words (queue s) else part_due g queue s) is

  -- A word is told: where it is kept
  pub kept_last : (g : Gathered K T) (s t : SwitchId) (word : T) (queue : SwitchId → List (Report T)) → is_among s g.begun ≡ true → (b : Bool) → same_switch s t ≡ b →
      (if is_among t g.begun then kept_of t g.kept ++ words (if b then Tells word ∷ queue t else queue t) else words_behind_begin g.epoch (if b then Tells word ∷ queue t else queue t))
      ≡ (if is_among t g.begun then kept_of t (g.kept ++ record { switch = s; word = word } ∷ []) ++ words (queue t) else words_behind_begin g.epoch (queue t))
  kept_last g s t word queue begun true same =
      let is = subst (λ x. is_among x g.begun ≡ true) (same_is s t same) begun in
      ap (λ c. if c then kept_of t g.kept ++ (word ∷ words (queue t)) else words_behind_begin g.epoch (Tells word ∷ queue t)) is
      ∙ (sym (append_assoc (kept_of t g.kept) (word ∷ []) (words (queue t)))
      ∙ ap (λ ws. ws ++ words (queue t)) (ap (λ b. kept_of t g.kept ++ (if b then word ∷ [] else [])) (sym same) ∙ sym (kept_both t g.kept (record { switch = s; word = word } ∷ []))))
      ∙ sym (ap (λ c. if c then kept_of t (g.kept ++ record { switch = s; word = word } ∷ []) ++ words (queue t) else words_behind_begin g.epoch (queue t)) is)
  kept_last g s t word queue begun false other =
      ap (λ ks. if is_among t g.begun then ks ++ words (queue t) else words_behind_begin g.epoch (queue t))
      (sym (append-nil (kept_of t g.kept)) ∙ ap (λ b. kept_of t g.kept ++ (if b then word ∷ [] else [])) (sym other) ∙ sym (kept_both t g.kept (record { switch = s; word = word } ∷ [])))

  -- where the switch has not begun
  pub unheard : (g : Gathered K T) (s t : SwitchId) (word : T) (queue : SwitchId → List (Report T)) → is_among s g.begun ≡ false → (b : Bool) → same_switch s t ≡ b →
      (if is_among t g.begun then kept_of t g.kept ++ words (if b then Tells word ∷ queue t else queue t) else words_behind_begin g.epoch (if b then Tells word ∷ queue t else queue t))
      ≡ (if is_among t g.begun then kept_of t g.kept ++ words (queue t) else words_behind_begin g.epoch (queue t))
  unheard g s t word queue none true same =
      let isnt = subst (λ x. is_among x g.begun ≡ false) (same_is s t same) none in
      ap (λ c. if c then kept_of t g.kept ++ (word ∷ words (queue t)) else words_behind_begin g.epoch (queue t)) isnt
      ∙ sym (ap (λ c. if c then kept_of t g.kept ++ words (queue t) else words_behind_begin g.epoch (queue t)) isnt)
  unheard g s t word queue none false other = refl

  -- A report begins: what is due of its switch, of which nothing is kept, is what stands behind.
  pub begun_now : (g : Gathered K T) (s t : SwitchId) (queue : SwitchId → List (Report T)) → kept_of s g.kept ≡ [] → is_among s g.begun ≡ false → (b : Bool) → same_switch s t ≡ b →
      (if is_among t g.begun then kept_of t g.kept ++ words (if b then Begin g.epoch ∷ queue t else queue t) else words_behind_begin g.epoch (if b then Begin g.epoch ∷ queue t else queue t))
      ≡ (if b || is_among t g.begun then kept_of t g.kept ++ words (queue t) else words_behind_begin g.epoch (queue t))
  begun_now g s t queue empty none true same =
      let isnt = subst (λ x. is_among x g.begun ≡ false) (same_is s t same) none in
      let nothing = subst (λ x. kept_of x g.kept ≡ []) (same_is s t same) empty in
      ap (λ c. if c then kept_of t g.kept ++ words (queue t) else (if g.epoch == g.epoch then words (queue t) else words_behind_begin g.epoch (queue t))) isnt
      ∙ ap (λ b. if b then words (queue t) else words_behind_begin g.epoch (queue t)) (eq-eqb g.epoch g.epoch refl)
      ∙ ap (λ ks. ks ++ words (queue t)) (sym nothing)
  begun_now g s t queue empty none false other = refl

  -- one that is not heard
  pub void : (g : Gathered K T) (s t : SwitchId) (n : ℕ) (queue : SwitchId → List (Report T)) → (not (n == g.epoch) || is_among s g.begun) ≡ true → (b : Bool) → same_switch s t ≡ b →
      (if is_among t g.begun then kept_of t g.kept ++ words (if b then Begin n ∷ queue t else queue t) else words_behind_begin g.epoch (if b then Begin n ∷ queue t else queue t))
      ≡ (if is_among t g.begun then kept_of t g.kept ++ words (queue t) else words_behind_begin g.epoch (queue t))
  void g s t n queue is true same = two (n == g.epoch) (is_among t g.begun) (subst (λ x. (not (n == g.epoch) || is_among x g.begun) ≡ true) (same_is s t same) is)
    where
      two : (x y : Bool) → (not x || y) ≡ true →
          (if y then kept_of t g.kept ++ words (queue t) else (if x then words (queue t) else words_behind_begin g.epoch (queue t)))
          ≡ (if y then kept_of t g.kept ++ words (queue t) else words_behind_begin g.epoch (queue t))
      two x true is = refl
      two false false is = refl
      two true false is = absurd (cc is)
  void g s t n queue is false other = refl

  -- A report ends: nothing is taken from what is due.
  pub ended_now : (g : Gathered K T) (s t : SwitchId) (n : ℕ) (queue : SwitchId → List (Report T)) (b : Bool) →
      (if is_among t g.begun then kept_of t g.kept ++ words (if b then End n ∷ queue t else queue t) else words_behind_begin g.epoch (if b then End n ∷ queue t else queue t))
      ≡ (if is_among t g.begun then kept_of t g.kept ++ words (queue t) else words_behind_begin g.epoch (queue t))
  ended_now g s t n queue true = refl
  ended_now g s t n queue false = refl

  -- the end that is not the last
  pub end_due : (g : Gathered K T) (s : SwitchId) (n : ℕ) (queue : SwitchId → List (Report T)) → (b : Bool) → is_whole g ≡ b → due g (before s (End n) queue) ≡ due g queue
  end_due g s n queue true whole = due_whole g (before s (End n) queue) whole ∙ fun_ext (λ t. end_first s t n queue (same_switch s t)) ∙ sym (due_whole g queue whole)
  end_due g s n queue false part = due_part g (before s (End n) queue) part ∙ fun_ext (λ t. ended_now g s t n queue (same_switch s t)) ∙ sym (due_part g queue part)

  -- where all have begun, what is due is what was kept and what waits
  pub all_begun : (g : Gathered K T) (queue : SwitchId → List (Report T)) → ((t : SwitchId) → is_among t g.begun ≡ false → queue t ≡ []) → (t : SwitchId) → (b : Bool) → is_among t g.begun ≡ b →
      IsGathering g → (if b then kept_of t g.kept ++ words (queue t) else words_behind_begin g.epoch (queue t)) ≡ kept_of t g.kept ++ words (queue t)
  all_begun g queue all t true is gathering = refl
  all_begun g queue all t false isnt gathering =
      ap (λ q. words_behind_begin g.epoch q) (all t isnt) ∙ sym (ap (λ ks. ks ++ words (queue t)) (gathering.kept t isnt) ∙ ap (λ q. words q) (all t isnt))

module _ {K T : Type 0} (treat : K → Heard T → K) (P : K → (SwitchId → List T) → Type 0) (each : IsKept treat P) where
  pub word_kept : (g : Gathered K T) (s : SwitchId) (word : T) (queue : SwitchId → List (Report T)) →
      P g.known (due g (before s (Tells word) queue)) → P (hears_word treat g s word).known (due (hears_word treat g s word) queue)
  word_kept g s word queue holds =
      cond_both (is_whole g) (record g { known = treat g.known (record { switch = s; word = word }) })
      (if is_among s g.begun then record g { kept = g.kept ++ record { switch = s; word = word } ∷ [] } else g)
      (λ x. P x.known (due x queue))
      (λ whole.
      let h : Heard T = record { switch = s; word = word } in
      subst (P (treat g.known h)) (sym (due_whole g queue whole))
      (each g.known h (λ t. words (queue t))
      (subst (P g.known) (due_whole g (before s (Tells word) queue) whole ∙ fun_ext (λ t. word_first s t word queue (same_switch s t))) holds)))
      (λ part.
      cond_both (is_among s g.begun) (record g { kept = g.kept ++ record { switch = s; word = word } ∷ [] }) g
      (λ x. P x.known (due x queue))
      (λ begun.
      let x : Gathered K T = record g { kept = g.kept ++ record { switch = s; word = word } ∷ [] } in
      subst (P g.known) (due_part g (before s (Tells word) queue) part
      ∙ fun_ext (λ t. kept_last g s t word queue begun (same_switch s t) refl)
      ∙ sym (due_part x queue part)) holds)
      (λ none.
      subst (P g.known) (due_part g (before s (Tells word) queue) part
      ∙ fun_ext (λ t. unheard g s t word queue none (same_switch s t) refl)
      ∙ sym (due_part g queue part)) holds))

module _ {K T : Type 0} (treat : K → Heard T → K) (P : K → (SwitchId → List T) → Type 0) (each : IsKept treat P) where
  pub begin_kept : (g : Gathered K T) (s : SwitchId) (n : ℕ) (queue : SwitchId → List (Report T)) → IsGathering g →
      P g.known (due g (before s (Begin n) queue)) → P (hears_begin g s n).known (due (hears_begin g s n) queue)
  begin_kept g s n queue gathering holds =
      cond_both (is_whole g || (not (n == g.epoch) || is_among s g.begun)) g (record g { begun = s ∷ g.begun }) (λ x. P x.known (due x queue))
      (λ not_heard. elim (cases_Bool (is_whole g)) [
        | inl whole ↦
            subst (P g.known) (due_whole g (before s (Begin n) queue) whole ∙ fun_ext (λ t. begin_first s t n queue (same_switch s t)) ∙ sym (due_whole g queue whole)) holds
        | inr part ↦
            let is = sym (ap (λ b. b || (not (n == g.epoch) || is_among s g.begun)) part) ∙ not_heard in
            subst (P g.known) (due_part g (before s (Begin n) queue) part ∙ fun_ext (λ t. void g s t n queue is (same_switch s t) refl) ∙ sym (due_part g queue part)) holds
      ])
      (λ heard.
      let two = or_parts (is_whole g) (not (n == g.epoch) || is_among s g.begun) heard in
      let more = or_parts (not (n == g.epoch)) (is_among s g.begun) two.1 in
      let epoch : n ≡ g.epoch = eqb-true n g.epoch (not_false (n == g.epoch) more.0) in
      let x : Gathered K T = record g { begun = s ∷ g.begun } in
      subst (P g.known) (ap (λ m. due g (before s (Begin m) queue)) epoch ∙ due_part g (before s (Begin g.epoch) queue) two.0
      ∙ fun_ext (λ t. begun_now g s t queue (gathering.kept s more.1) more.1 (same_switch s t) refl)
      ∙ sym (due_part x queue two.0)) holds)

  module _ (waits : T → Bool) (after : K → K)
      (turns : (k : K) (kept : List (Heard T)) (up : SwitchId → List T) → P k (λ s. kept_of s kept ++ up s) → P k (λ s. kept_of s (in_turn waits kept) ++ up s))
      (then_kept : (k : K) (d : SwitchId → List T) → P k d → P (after k) d) where
    pub end_kept : (g : Gathered K T) (s : SwitchId) (n : ℕ) (queue : SwitchId → List (Report T)) → IsGathering g →
        (is_whole g ≡ false → is_among s g.begun ≡ true → is_among s g.ended ≡ false → is_whole (with_ended s g) ≡ true → (t : SwitchId) → is_among t g.begun ≡ false → queue t ≡ []) →
        P g.known (due g (before s (End n) queue)) → P (hears_end treat waits after g s n).known (due (hears_end treat waits after g s n) queue)
    end_kept g s n queue gathering everyone holds =
        cond_both (is_whole g || (not (n == g.epoch && is_among s g.begun) || is_among s g.ended)) g (gone_through treat waits after (with_ended s g)) (λ x. P x.known (due x queue))
        (λ not_heard. subst (P g.known) (end_due g s n queue (is_whole g) refl) holds)
        (λ heard.
        let two = or_parts (is_whole g) (not (n == g.epoch && is_among s g.begun) || is_among s g.ended) heard in
        let h : Gathered K T = with_ended s g in
        let more = or_parts (not (n == g.epoch && is_among s g.begun)) (is_among s g.ended) two.1 in
        let here = and_parts (n == g.epoch) (is_among s g.begun) (not_false (n == g.epoch && is_among s g.begun) more.0) in
        let now = subst (P g.known) (end_due g s n queue (is_whole g) refl ∙ due_part g queue two.0) holds in
        cond_both (is_whole h) (record h { kept = []; known = after (all_treated treat h.known (in_turn waits h.kept)) }) h (λ x. P x.known (due x queue))
        (λ whole.
        subst (P (after (all_treated treat g.known (in_turn waits g.kept))))
        (sym (due_whole (record h { kept = []; known = after (all_treated treat h.known (in_turn waits h.kept)) }) queue whole))
        (then_kept (all_treated treat g.known (in_turn waits g.kept)) (λ t. words (queue t))
        (all_treated_keeps treat P each (in_turn waits g.kept) g.known (λ t. words (queue t))
        (turns g.known g.kept (λ t. words (queue t))
        (subst (P g.known) (fun_ext (λ t. all_begun g queue (everyone two.0 here.1 more.1 whole) t (is_among t g.begun) refl gathering)) now)))))
        (λ part. subst (P g.known) (sym (due_part h queue part)) now))

    -- each hearing
    pub hearing_keeps : (g : Gathered K T) (s : SwitchId) (r : Report T) (queue : SwitchId → List (Report T)) → IsGathering g →
        (is_whole g ≡ false → is_among s g.begun ≡ true → is_among s g.ended ≡ false → is_whole (with_ended s g) ≡ true → (t : SwitchId) → is_among t g.begun ≡ false → queue t ≡ []) →
        P g.known (due g (before s r queue)) → P (hears treat waits after g s r).known (due (hears treat waits after g s r) queue)
    hearing_keeps g s (Begin n) queue gathering everyone holds = begin_kept g s n queue gathering holds
    hearing_keeps g s (End n) queue gathering everyone holds = end_kept g s n queue gathering everyone holds
    hearing_keeps g s (Tells word) queue gathering everyone holds =
        word_kept (treated_alone treat after) P (λ k h d is. then_kept (treat k h) d (each k h d is)) g s word queue holds
