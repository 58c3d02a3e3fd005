-- A switch hears of an epoch, and tells its report: then its report is coming, and the words of the report are due.
use Rattle.std.proofs.Common.{◌≡◌, ℕ, ◌==◌, Bool, true, false, cond, List, [], ◌∷◌, ◌++◌, map, refl, ap, ◌∙◌, eq-eqb}
use Rattle.std.specs.List.{AllByRecursion}
use Rattle.std.proofs.lemmas.Bool.{cond-false, or_left, or_right}
use Rattle.pl_gathering.specs.Gathering.{Report, report, words, words_behind_begin}
use Rattle.pl_gathering.specs.Gathering.Report.{Begin, End, Tells}
use Rattle.pl_gathering.specs.Orderly.{begins, will_end}

module _ {T : Type 0} (epoch : ℕ) (told : List T) where
  ends_behind : (ws : List T) → will_end epoch true (map (λ w. Tells w) ws ++ End epoch ∷ []) ≡ true
  ends_behind [] = or_left (epoch == epoch) false (eq-eqb epoch epoch refl)
  ends_behind (w ∷ ws) = ends_behind ws

  -- whatever stands before it, and whether or not a report has begun
  pub report_ends : (queue : List (Report T)) (begun : Bool) → will_end epoch begun (queue ++ report epoch told) ≡ true
  report_ends [] true = ends_behind told
  report_ends [] false =
      ap (λ b. cond b (will_end epoch true (map (λ w. Tells w) told ++ End epoch ∷ [])) (will_end epoch false (map (λ w. Tells w) told ++ End epoch ∷ []))) (eq-eqb epoch epoch refl)
      ∙ ends_behind told
  report_ends (Begin n ∷ queue) true = report_ends queue true
  report_ends (Begin n ∷ queue) false = by (n == epoch) (report_ends queue true) (report_ends queue false)
    where
      by : (b : Bool) → will_end epoch true (queue ++ report epoch told) ≡ true → will_end epoch false (queue ++ report epoch told) ≡ true →
          cond b (will_end epoch true (queue ++ report epoch told)) (will_end epoch false (queue ++ report epoch told)) ≡ true
      by true first second = first
      by false first second = second
  report_ends (End n ∷ queue) true = or_right (n == epoch) (will_end epoch true (queue ++ report epoch told)) (report_ends queue true)
  report_ends (End n ∷ queue) false = report_ends queue false
  report_ends (Tells word ∷ queue) begun = report_ends queue begun

  words_told : (ws : List T) → words (map (λ w. Tells w) ws ++ End epoch ∷ []) ≡ ws
  words_told [] = refl
  words_told (w ∷ ws) = ap (λ rest. w ∷ rest) (words_told ws)

  -- of a switch that has not begun, and whose queue has no `Begin` of this epoch
  pub report_due : (queue : List (Report T)) → AllByRecursion (λ r. begins epoch r ≡ false) queue → words_behind_begin epoch (queue ++ report epoch told) ≡ told
  report_due [] none =
      ap (λ b. cond b (words (map (λ w. Tells w) told ++ End epoch ∷ [])) (words_behind_begin epoch (map (λ w. Tells w) told ++ End epoch ∷ []))) (eq-eqb epoch epoch refl)
      ∙ words_told told
  report_due (Begin n ∷ queue) none =
      cond-false (n == epoch) (words (queue ++ report epoch told)) (words_behind_begin epoch (queue ++ report epoch told)) none.0 ∙ report_due queue none.1
  report_due (End n ∷ queue) none = report_due queue none.1
  report_due (Tells word ∷ queue) none = report_due queue none.1
