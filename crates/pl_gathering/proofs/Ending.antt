-- The last report ends: all that was kept is treated, and nothing is due any more but what waits in the queues.
use mathlib.Core.Path.{fun_ext}
use Rattle.std.proofs.Common.{◌≡◌, ℕ, ◌==◌, ◌||◌, ◌&&◌, not, Bool, true, false, List, [], ◌++◌, refl, sym, ◌∙◌}
use Rattle.std.proofs.lemmas.Bool.{and_parts, cond_both, false≢true, or_parts}
use Rattle.pl_frame.specs.declared.address.SwitchId.{SwitchId}
use Rattle.pl_gathering.specs.Gathering.{Gathered, Heard, Report, all_treated, due, gone_through, hears_end, in_turn, is_among, is_whole, kept_of, with_ended, words}
use Rattle.pl_gathering.specs.Gathering.Report.{End}
use Rattle.pl_gathering.specs.Keeping.{before}
use Rattle.pl_gathering.specs.Orderly.{IsOrderly, has}
use Rattle.pl_gathering.proofs.Hearing.{all_begun, due_part, due_whole, end_due, not_false}
use Rattle.pl_gathering.proofs.Phases.{everyone}

module _ {K T : Type 0} (treat : K → Heard T → K) (waits : T → Bool) (after : K → K) (g : Gathered K T) (s : SwitchId) (queue : SwitchId → List (Report T)) where
  pub record IsGoneThrough (n : ℕ) (now : Gathered K T) : Type 0 where
    pub known : now.known ≡ after (all_treated treat g.known (in_turn waits g.kept))
    pub none : now.kept ≡ []
    -- what was due was what was kept, and then what waits
    pub was_due : due g (before s (End n) queue) ≡ (λ t. kept_of t g.kept ++ words (queue t))
    pub is_due : due now queue ≡ (λ t. words (queue t))

  pub last_end : (ids : List SwitchId) → IsOrderly ids g → has ids s ≡ true → ((t : SwitchId) → has ids t ≡ false → queue t ≡ []) → (n : ℕ) → is_whole g ≡ false →
      is_whole (hears_end treat waits after g s n) ≡ true → IsGoneThrough n (hears_end treat waits after g s n)
  last_end ids orderly there strangers n part =
      cond_both (is_whole g || (not (n == g.epoch && is_among s g.begun) || is_among s g.ended)) g (gone_through treat waits after (with_ended s g))
      (λ x. is_whole x ≡ true → IsGoneThrough n x)
      (λ not_heard whole. absurd (false≢true (sym part ∙ whole)))
      (λ heard.
      let two = or_parts (is_whole g) (not (n == g.epoch && is_among s g.begun) || is_among s g.ended) heard in
      let more = or_parts (not (n == g.epoch && is_among s g.begun)) (is_among s g.ended) two.1 in
      let here = and_parts (n == g.epoch) (is_among s g.begun) (not_false (n == g.epoch && is_among s g.begun) more.0) in
      let h : Gathered K T = with_ended s g in
      let through : Gathered K T = record h { kept = []; known = after (all_treated treat h.known (in_turn waits h.kept)) } in
      cond_both (is_whole h) through h (λ x. is_whole x ≡ true → IsGoneThrough n x)
      (λ whole is. record {
        known = refl;
        none = refl;
        was_due = end_due g s n queue false part ∙ due_part g queue part
            ∙ fun_ext (λ t. all_begun g queue (everyone ids g orderly s there queue strangers part here.1 more.1 whole) t (is_among t g.begun) refl orderly.gathering);
        is_due = due_whole through queue whole;
      })
      (λ missing is. absurd (false≢true (sym missing ∙ is))))
