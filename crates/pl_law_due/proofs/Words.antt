-- What is due once more is told: the words that were told behind it, or nothing.
use Rattle.std.proofs.Common.{◌≡◌, ℕ, ◌==◌, ◌||◌, Bool, true, false, cond, List, [], ◌∷◌, ◌++◌, refl, sym, ap, subst, ◌∙◌, append_assoc, inl, inr}
use Rattle.std.specs.List.{AllByRecursion}
use Rattle.std.proofs.lemmas.Bool.{cases_Bool, cond-false, cond-true, false≢true, or_left, or_right}
use Rattle.std.proofs.lemmas.List.{map-append}
use Rattle.pl_lemmas.proofs.Exports.{all_append}
use Rattle.pl_frame.specs.declared.address.SwitchId.{SwitchId}
use Rattle.pl_layouts.specs.Equality.{same_switch}
use Rattle.pl_gathering.specs.Gathering.{Gathered, Heard, Report, due, is_among, is_whole, kept_of, words, words_behind_begin}
use Rattle.pl_gathering.specs.Gathering.Report.{Begin, End, Tells}
use Rattle.pl_gathering.specs.Orderly.{begins, will_end}
use Rattle.pl_node.specs.declared.messages.ToManager.{ToManager}
use Rattle.pl_node.specs.declared.messages.ToManager.TheVariants as tell
use Rattle.pl_manager_rule.specs.Treating.{as_report}
use Rattle.pl_law_due.specs.Due.{read, words_of}
use Rattle.pl_law_due.specs.Gathering.{IsWord}

-- ---- queues of reports
module _ {T : Type 0} where
  pub words_append : (xs ys : List (Report T)) → words (xs ++ ys) ≡ words xs ++ words ys
  words_append [] ys = refl
  words_append (Begin n ∷ xs) ys = words_append xs ys
  words_append (End n ∷ xs) ys = words_append xs ys
  words_append (Tells word ∷ xs) ys = ap (λ ws. word ∷ ws) (words_append xs ys)

  -- where the end of a report is coming, its begin has come
  behind_append : (epoch : ℕ) (xs ys : List (Report T)) → will_end epoch false xs ≡ true → words_behind_begin epoch (xs ++ ys) ≡ words_behind_begin epoch xs ++ words ys
  behind_append epoch [] ys ends = absurd (false≢true ends)
  behind_append epoch (Begin n ∷ xs) ys ends = by (n == epoch) ends (behind_append epoch xs ys)
    where
      by : (b : Bool) → cond b (will_end epoch true xs) (will_end epoch false xs) ≡ true →
          (will_end epoch false xs ≡ true → words_behind_begin epoch (xs ++ ys) ≡ words_behind_begin epoch xs ++ words ys) →
          cond b (words (xs ++ ys)) (words_behind_begin epoch (xs ++ ys)) ≡ cond b (words xs) (words_behind_begin epoch xs) ++ words ys
      by true ends rest = words_append xs ys
      by false ends rest = rest ends
  behind_append epoch (End n ∷ xs) ys ends = behind_append epoch xs ys ends
  behind_append epoch (Tells word ∷ xs) ys ends = behind_append epoch xs ys ends

  pub none_behind : (epoch : ℕ) (xs : List (Report T)) → AllByRecursion (λ r. begins epoch r ≡ false) xs → words_behind_begin epoch xs ≡ []
  none_behind epoch [] none = refl
  none_behind epoch (Begin n ∷ xs) none = cond-false (n == epoch) (words xs) (words_behind_begin epoch xs) none.0 ∙ none_behind epoch xs none.1
  none_behind epoch (End n ∷ xs) none = none_behind epoch xs none.1
  none_behind epoch (Tells word ∷ xs) none = none_behind epoch xs none.1

  -- a report begins behind what is old
  pub begun_behind : (epoch n : ℕ) (xs ys : List (Report T)) → AllByRecursion (λ r. begins epoch r ≡ false) xs → (n == epoch) ≡ true →
      words_behind_begin epoch (xs ++ Begin n ∷ ys) ≡ words ys
  begun_behind epoch n [] ys none same = cond-true (n == epoch) (words ys) (words_behind_begin epoch ys) same
  begun_behind epoch n (Begin m ∷ xs) ys none same =
      cond-false (m == epoch) (words (xs ++ Begin n ∷ ys)) (words_behind_begin epoch (xs ++ Begin n ∷ ys)) none.0 ∙ begun_behind epoch n xs ys none.1 same
  begun_behind epoch n (End m ∷ xs) ys none same = begun_behind epoch n xs ys none.1 same
  begun_behind epoch n (Tells word ∷ xs) ys none same = begun_behind epoch n xs ys none.1 same

  -- whatever is told behind it, an end is still coming
  pub ends_still : (epoch : ℕ) (begun : Bool) (xs ys : List (Report T)) → will_end epoch begun xs ≡ true → will_end epoch begun (xs ++ ys) ≡ true
  ends_still epoch begun [] ys ends = absurd (false≢true ends)
  ends_still epoch true (Begin n ∷ xs) ys ends = ends_still epoch true xs ys ends
  ends_still epoch false (Begin n ∷ xs) ys ends = by (n == epoch) ends (ends_still epoch true xs ys) (ends_still epoch false xs ys)
    where
      by : (b : Bool) → cond b (will_end epoch true xs) (will_end epoch false xs) ≡ true → (will_end epoch true xs ≡ true → will_end epoch true (xs ++ ys) ≡ true) →
          (will_end epoch false xs ≡ true → will_end epoch false (xs ++ ys) ≡ true) → cond b (will_end epoch true (xs ++ ys)) (will_end epoch false (xs ++ ys)) ≡ true
      by true ends first second = first ends
      by false ends first second = second ends
  ends_still epoch true (End n ∷ xs) ys ends = by (n == epoch) ends (ends_still epoch true xs ys)
    where
      by : (b : Bool) → (b || will_end epoch true xs) ≡ true → (will_end epoch true xs ≡ true → will_end epoch true (xs ++ ys) ≡ true) → (b || will_end epoch true (xs ++ ys)) ≡ true
      by true ends rest = refl
      by false ends rest = rest ends
  ends_still epoch false (End n ∷ xs) ys ends = ends_still epoch false xs ys ends
  ends_still epoch begun (Tells word ∷ xs) ys ends = ends_still epoch begun xs ys ends

  ends_last : (epoch n : ℕ) (xs : List (Report T)) → (n == epoch) ≡ true → will_end epoch true (xs ++ End n ∷ []) ≡ true
  ends_last epoch n [] same = or_left (n == epoch) false same
  ends_last epoch n (Begin m ∷ xs) same = ends_last epoch n xs same
  ends_last epoch n (End m ∷ xs) same = or_right (m == epoch) (will_end epoch true (xs ++ End n ∷ [])) (ends_last epoch n xs same)
  ends_last epoch n (Tells word ∷ xs) same = ends_last epoch n xs same

  -- a whole report behind what is old
  pub report_coming : (epoch n : ℕ) (xs ys : List (Report T)) → AllByRecursion (λ r. begins epoch r ≡ false) xs → (n == epoch) ≡ true →
      will_end epoch false (xs ++ Begin n ∷ (ys ++ End n ∷ [])) ≡ true
  report_coming epoch n [] ys none same =
      cond-true (n == epoch) (will_end epoch true (ys ++ End n ∷ [])) (will_end epoch false (ys ++ End n ∷ [])) same ∙ ends_last epoch n ys same
  report_coming epoch n (Begin m ∷ xs) ys none same =
      let rest = xs ++ Begin n ∷ (ys ++ End n ∷ []) in
      cond-false (m == epoch) (will_end epoch true rest) (will_end epoch false rest) none.0 ∙ report_coming epoch n xs ys none.1 same
  report_coming epoch n (End m ∷ xs) ys none same = report_coming epoch n xs ys none.1 same
  report_coming epoch n (Tells word ∷ xs) ys none same = report_coming epoch n xs ys none.1 same

-- ---- what is due
module _ {K T : Type 0} (g : Gathered K T) (id : SwitchId) where
  abbrev pub due_at : List (Report T) → List T
  due_at queue = due g (λ t. queue) id

  -- of a switch whose report has ended, or is coming
  pub due_more : (xs ys : List (Report T)) → (is_among id g.ended ≡ true → is_among id g.begun ≡ true) →
      (is_whole g ≡ false → is_among id g.ended ≡ false → will_end g.epoch (is_among id g.begun) xs ≡ true) → due_at (xs ++ ys) ≡ due_at xs ++ words ys
  due_more xs ys begun coming = by (is_whole g) refl (is_among id g.begun) refl
    where
      ended_not : is_among id g.begun ≡ false → is_among id g.ended ≡ false
      ended_not not = elim (cases_Bool (is_among id g.ended)) [
        | inl ended ↦ absurd (false≢true (sym not ∙ begun ended))
        | inr missing ↦ missing
      ]

      by : (w : Bool) → is_whole g ≡ w → (b : Bool) → is_among id g.begun ≡ b →
          cond w (words (xs ++ ys)) (cond b (kept_of id g.kept ++ words (xs ++ ys)) (words_behind_begin g.epoch (xs ++ ys)))
          ≡ cond w (words xs) (cond b (kept_of id g.kept ++ words xs) (words_behind_begin g.epoch xs)) ++ words ys
      by true whole b is = words_append xs ys
      by false part true is = ap (λ ws. kept_of id g.kept ++ ws) (words_append xs ys) ∙ sym (append_assoc (kept_of id g.kept) (words xs) (words ys))
      by false part false not =
          behind_append g.epoch xs ys (subst (λ b. will_end g.epoch b xs ≡ true) not (coming part (ended_not not)))

  -- of one whose report has not begun
  pub due_unbegun : (xs : List (Report T)) → is_whole g ≡ false → is_among id g.begun ≡ false → due_at xs ≡ words_behind_begin g.epoch xs
  due_unbegun xs part not =
      cond-false (is_whole g) (words xs) (cond (is_among id g.begun) (kept_of id g.kept ++ words xs) (words_behind_begin g.epoch xs)) part
      ∙ cond-false (is_among id g.begun) (kept_of id g.kept ++ words xs) (words_behind_begin g.epoch xs) not

-- ---- words of switches
pub read_append : (xs ys : List ToManager) → read (xs ++ ys) ≡ read xs ++ read ys
read_append xs ys = map-append as_report xs ys

pub plain_words : (ws : List ToManager) → AllByRecursion IsWord ws → words_of ws ≡ ws
plain_words [] all = refl
plain_words (w ∷ ws) all = ap (λ r. words (r ∷ read ws)) all.0 ∙ ap (λ rest. w ∷ rest) (plain_words ws all.1)

pub words_plain : (queue : List ToManager) → AllByRecursion IsWord (words (read queue))
words_plain [] = tt
words_plain (tell.Begin n ∷ queue) = words_plain queue
words_plain (tell.End n ∷ queue) = words_plain queue
words_plain (tell.Place place ∷ queue) = (refl, words_plain queue)
words_plain (tell.Link u usable ∷ queue) = (refl, words_plain queue)
words_plain (tell.PodWanted ∷ queue) = (refl, words_plain queue)
words_plain (tell.Learned a b c ∷ queue) = (refl, words_plain queue)
words_plain (tell.Aged a b ∷ queue) = (refl, words_plain queue)
words_plain (tell.Trapped a b c ∷ queue) = (refl, words_plain queue)
words_plain (tell.Query a b c ∷ queue) = (refl, words_plain queue)
words_plain (tell.Members group any ∷ queue) = (refl, words_plain queue)

behind_plain : (epoch : ℕ) (queue : List ToManager) → AllByRecursion IsWord (words_behind_begin epoch (read queue))
behind_plain epoch [] = tt
behind_plain epoch (tell.Begin n ∷ queue) = by (n == epoch) (behind_plain epoch queue)
  where
    by : (b : Bool) → AllByRecursion IsWord (words_behind_begin epoch (read queue)) → AllByRecursion IsWord (cond b (words (read queue)) (words_behind_begin epoch (read queue)))
    by true rest = words_plain queue
    by false rest = rest
behind_plain epoch (tell.End n ∷ queue) = behind_plain epoch queue
behind_plain epoch (tell.Place place ∷ queue) = behind_plain epoch queue
behind_plain epoch (tell.Link u usable ∷ queue) = behind_plain epoch queue
behind_plain epoch (tell.PodWanted ∷ queue) = behind_plain epoch queue
behind_plain epoch (tell.Learned a b c ∷ queue) = behind_plain epoch queue
behind_plain epoch (tell.Aged a b ∷ queue) = behind_plain epoch queue
behind_plain epoch (tell.Trapped a b c ∷ queue) = behind_plain epoch queue
behind_plain epoch (tell.Query a b c ∷ queue) = behind_plain epoch queue
behind_plain epoch (tell.Members group any ∷ queue) = behind_plain epoch queue

kept_plain : (id : SwitchId) (kept : List (Heard ToManager)) → AllByRecursion (λ h. IsWord h.word) kept → AllByRecursion IsWord (kept_of id kept)
kept_plain id [] all = tt
kept_plain id (h ∷ kept) all = by (same_switch h.switch id) (kept_plain id kept all.1)
  where
    by : (b : Bool) → AllByRecursion IsWord (kept_of id kept) → AllByRecursion IsWord (cond b (h.word ∷ kept_of id kept) (kept_of id kept))
    by true rest = (all.0, rest)
    by false rest = rest

-- all that is due
pub due_plain : {K : Type 0} (g : Gathered K ToManager) (id : SwitchId) (queue : List ToManager) → AllByRecursion (λ h. IsWord h.word) g.kept →
    AllByRecursion IsWord (due_at g id (read queue))
due_plain g id queue plain = by (is_whole g) (is_among id g.begun)
  where
    by : (w b : Bool) → AllByRecursion IsWord (cond w (words (read queue)) (cond b (kept_of id g.kept ++ words (read queue)) (words_behind_begin g.epoch (read queue))))
    by true b = words_plain queue
    by false true = all_append IsWord (kept_of id g.kept) (words (read queue)) (kept_plain id g.kept plain) (words_plain queue)
    by false false = behind_plain g.epoch queue
