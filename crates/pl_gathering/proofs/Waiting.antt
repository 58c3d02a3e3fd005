-- While a report is missing nothing is treated, and what is due stays: a word goes from its queue to those that are kept.
use mathlib.Core.Path.{fun_ext}
use Rattle.std.proofs.Common.{◌≡◌, ℕ, ◌==◌, ◌||◌, ◌&&◌, not, Bool, true, false, cond, List, [], ◌∷◌, ◌++◌, refl, sym, ap, ◌∙◌, eqb-true}
use Rattle.std.proofs.lemmas.Bool.{cond-true, cond_both, false≢true, or_parts}
use Rattle.pl_frame.specs.declared.address.SwitchId.{SwitchId}
use Rattle.pl_layouts.specs.Equality.{same_switch}
use Rattle.pl_gathering.specs.Gathering.{Gathered, Heard, Report, all_treated, due, gone_through, hears, hears_begin, hears_end, hears_word, in_turn, is_among, is_whole, with_ended, treated_alone}
use Rattle.pl_gathering.specs.Gathering.Report.{Begin, End, Tells}
use Rattle.pl_gathering.specs.Keeping.{before}
use Rattle.pl_gathering.specs.Orderly.{IsGathering}
use Rattle.pl_gathering.proofs.Hearing.{begun_now, due_part, end_due, kept_last, not_false, unheard, void}

module _ {K T : Type 0} (g : Gathered K T) (s : SwitchId) (queue : SwitchId → List (Report T)) where
  -- nothing was treated, and what is due now was due before this report was taken
  pub record IsUnchanged (r : Report T) (now : Gathered K T) : Type 0 where
    pub same : now.known ≡ g.known
    pub stays : due now queue ≡ due g (before s r queue)

  begin_unchanged : (n : ℕ) → IsGathering g → is_whole g ≡ false → IsUnchanged (Begin n) (hears_begin g s n)
  begin_unchanged n gathering part =
      cond_both (is_whole g || (not (n == g.epoch) || is_among s g.begun)) g (record g { begun = s ∷ g.begun }) (IsUnchanged (Begin n))
      (λ not_heard.
      let is = sym (ap (λ b. b || (not (n == g.epoch) || is_among s g.begun)) part) ∙ not_heard in
      record {
        same = refl;
        stays = sym (due_part g (before s (Begin n) queue) part ∙ fun_ext (λ t. void g s t n queue is (same_switch s t) refl) ∙ sym (due_part g queue part));
      })
      (λ heard.
      let two = or_parts (is_whole g) (not (n == g.epoch) || is_among s g.begun) heard in
      let more = or_parts (not (n == g.epoch)) (is_among s g.begun) two.1 in
      let epoch : n ≡ g.epoch = eqb-true n g.epoch (not_false (n == g.epoch) more.0) in
      let x : Gathered K T = record g { begun = s ∷ g.begun } in
      record {
        same = refl;
        stays = sym (ap (λ m. due g (before s (Begin m) queue)) epoch ∙ due_part g (before s (Begin g.epoch) queue) part
            ∙ fun_ext (λ t. begun_now g s t queue (gathering.kept s more.1) more.1 (same_switch s t) refl)
            ∙ sym (due_part x queue part));
      })

  word_unchanged : (treat : K → Heard T → K) (word : T) → is_whole g ≡ false → IsUnchanged (Tells word) (hears_word treat g s word)
  word_unchanged treat word part =
      cond_both (is_whole g) (record g { known = treat g.known (record { switch = s; word = word }) })
      (cond (is_among s g.begun) (record g { kept = g.kept ++ record { switch = s; word = word } ∷ [] }) g) (IsUnchanged (Tells word))
      (λ whole. absurd (false≢true (sym part ∙ whole)))
      (λ still. cond_both (is_among s g.begun) (record g { kept = g.kept ++ record { switch = s; word = word } ∷ [] }) g (IsUnchanged (Tells word))
      (λ begun.
      let x : Gathered K T = record g { kept = g.kept ++ record { switch = s; word = word } ∷ [] } in
      record {
        same = refl;
        stays = sym (due_part g (before s (Tells word) queue) part ∙ fun_ext (λ t. kept_last g s t word queue begun (same_switch s t) refl) ∙ sym (due_part x queue part));
      })
      (λ none. record {
        same = refl;
        stays = sym (due_part g (before s (Tells word) queue) part ∙ fun_ext (λ t. unheard g s t word queue none (same_switch s t) refl) ∙ sym (due_part g queue part));
      }))

  module _ (treat : K → Heard T → K) (waits : T → Bool) (after : K → K) where
    -- a report ends that is not the last
    end_unchanged : (n : ℕ) → is_whole g ≡ false → is_whole (hears_end treat waits after g s n) ≡ false → IsUnchanged (End n) (hears_end treat waits after g s n)
    end_unchanged n part =
        cond_both (is_whole g || (not (n == g.epoch && is_among s g.begun) || is_among s g.ended)) g (gone_through treat waits after (with_ended s g))
        (λ x. is_whole x ≡ false → IsUnchanged (End n) x)
        (λ not_heard still. record { same = refl; stays = sym (end_due g s n queue false part) })
        (λ heard.
        let h : Gathered K T = with_ended s g in
        cond_both (is_whole h) (record h { kept = []; known = after (all_treated treat h.known (in_turn waits h.kept)) }) h (λ x. is_whole x ≡ false → IsUnchanged (End n) x)
        (λ whole still. absurd (false≢true (sym still ∙ whole)))
        (λ missing still. record { same = refl; stays = due_part h queue missing ∙ sym (due_part g queue part) ∙ sym (end_due g s n queue false part) }))

    -- so it is with each hearing after which a report is still missing
    pub nothing_treated : (r : Report T) → IsGathering g → is_whole g ≡ false → is_whole (hears treat waits after g s r) ≡ false → IsUnchanged r (hears treat waits after g s r)
    nothing_treated (Begin n) gathering part still = begin_unchanged n gathering part
    nothing_treated (End n) gathering part still = end_unchanged n part still
    nothing_treated (Tells word) gathering part still = word_unchanged (treated_alone treat after) word part

    -- where all reports were heard, a word is treated at once, and then what follows from it
    pub treated_at_once : (word : T) → is_whole g ≡ true →
        hears treat waits after g s (Tells word) ≡ record g { known = after (treat g.known (record { switch = s; word = word })) }
    treated_at_once word whole =
        cond-true (is_whole g) (record g { known = after (treat g.known (record { switch = s; word = word })) })
        (cond (is_among s g.begun) (record g { kept = g.kept ++ record { switch = s; word = word } ∷ [] }) g) whole

    -- and no report is missing later
    pub whole_later : (r : Report T) → is_whole g ≡ true → is_whole (hears treat waits after g s r) ≡ true
    whole_later (Begin n) whole =
        cond_both (is_whole g || (not (n == g.epoch) || is_among s g.begun)) g (record g { begun = s ∷ g.begun }) (λ x. is_whole x ≡ true) (λ not_heard. whole) (λ heard. whole)
    whole_later (Tells word) whole =
        cond_both (is_whole g) (record g { known = after (treat g.known (record { switch = s; word = word })) })
        (cond (is_among s g.begun) (record g { kept = g.kept ++ record { switch = s; word = word } ∷ [] }) g) (λ x. is_whole x ≡ true)
        (λ is. whole) (λ part. absurd (false≢true (sym part ∙ whole)))
    whole_later (End n) whole =
        cond_both (is_whole g || (not (n == g.epoch && is_among s g.begun) || is_among s g.ended)) g (gone_through treat waits after (with_ended s g)) (λ x. is_whole x ≡ true)
        (λ not_heard. whole)
        (λ heard. let two = or_parts (is_whole g) (not (n == g.epoch && is_among s g.begun) || is_among s g.ended) heard in absurd (false≢true (sym two.0 ∙ whole)))
