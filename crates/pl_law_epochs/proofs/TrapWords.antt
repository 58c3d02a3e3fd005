-- Where traps are told in queues: more is told, a report comes, and a switch is heard.
use Rattle.std.proofs.Common.{◌≡◌, ℕ, ◌==◌, ◌&&◌, ◌||◌, not, nat_le, Bool, true, false, cond, List, [], ◌∷◌, ◌++◌, length, refl, sym, ap, ◌∙◌}
use Rattle.std.specs.List.{AllByRecursion}
use Rattle.std.proofs.lemmas.Bool.{and_from, and_parts, cond-false, cond-true, cond_both, false≢true, or_parts}
use Rattle.pl_frame.specs.declared.address.SwitchId.{SwitchId}
use Rattle.pl_layouts.specs.Equality.{same_switch}
use Rattle.pl_layouts.proofs.Exports.{switch_itself}
use Rattle.pl_gathering.specs.Gathering.{Gathered, Heard, Report, all_treated, gone_through, hears, in_turn, is_among, is_whole, keeps_word, with_ended}
use Rattle.pl_gathering.specs.Gathering.Report.{Begin, End, Tells}
use Rattle.pl_gathering.specs.Orderly.{IsOrderly, begins, has, will_end}
use Rattle.pl_node.specs.declared.messages.ToManager.{ToManager}
use Rattle.pl_manager_rule.specs.Treating.{Treating}
use Rattle.pl_law_epochs.specs.Trapping.{is_trap, no_traps, traps_end, traps_in_report}
use Rattle.pl_law_epochs.proofs.AllEnded.{whole_ended}

-- ---- more is told
pub no_more_traps : (xs ys : List (Report ToManager)) → no_traps xs ≡ true → no_traps ys ≡ true → no_traps (xs ++ ys) ≡ true
no_more_traps [] ys none more = more
no_more_traps (Begin n ∷ xs) ys none more = no_more_traps xs ys none more
no_more_traps (End n ∷ xs) ys none more = no_more_traps xs ys none more
no_more_traps (Tells w ∷ xs) ys none more =
    let two = and_parts (not (is_trap w)) (no_traps xs) none in and_from (not (is_trap w)) (no_traps (xs ++ ys)) two.0 (no_more_traps xs ys two.1 more)

pub traps_end_more : (e : ℕ) (b : Bool) (xs ys : List (Report ToManager)) → will_end e b xs ≡ true → traps_end e b xs ≡ true → no_traps ys ≡ true → traps_end e b (xs ++ ys) ≡ true
traps_end_more e b [] ys ends first more = absurd (false≢true ends)
traps_end_more e true (End n ∷ xs) ys ends first more = by (n == e) ends first (traps_end_more e true xs ys)
  where
    by : (c : Bool) → (c || will_end e true xs) ≡ true → cond c (no_traps xs) (traps_end e true xs) ≡ true →
        (will_end e true xs ≡ true → traps_end e true xs ≡ true → no_traps ys ≡ true → traps_end e true (xs ++ ys) ≡ true) → cond c (no_traps (xs ++ ys)) (traps_end e true (xs ++ ys)) ≡ true
    by true ending none rest = no_more_traps xs ys none more
    by false ending end rest = rest ending end more
traps_end_more e false (End n ∷ xs) ys ends first more = traps_end_more e false xs ys ends first more
traps_end_more e true (Begin n ∷ xs) ys ends first more = traps_end_more e true xs ys ends first more
traps_end_more e false (Begin n ∷ xs) ys ends first more = by (n == e) ends first (traps_end_more e true xs ys) (traps_end_more e false xs ys)
  where
    by : (c : Bool) → cond c (will_end e true xs) (will_end e false xs) ≡ true → cond c (traps_end e true xs) (traps_end e false xs) ≡ true →
        (will_end e true xs ≡ true → traps_end e true xs ≡ true → no_traps ys ≡ true → traps_end e true (xs ++ ys) ≡ true) →
        (will_end e false xs ≡ true → traps_end e false xs ≡ true → no_traps ys ≡ true → traps_end e false (xs ++ ys) ≡ true) →
        cond c (traps_end e true (xs ++ ys)) (traps_end e false (xs ++ ys)) ≡ true
    by true ending end one other = one ending end more
    by false ending end one other = other ending end more
traps_end_more e b (Tells w ∷ xs) ys ends first more = traps_end_more e b xs ys ends first more

-- of a switch that has heard of the epoch
pub more_in_report : (g : Gathered Treating ToManager) (id : SwitchId) (xs ys : List (Report ToManager)) →
    (is_whole g ≡ false → is_among id g.ended ≡ false → will_end g.epoch (is_among id g.begun) xs ≡ true) → no_traps ys ≡ true → traps_in_report g id xs ≡ true →
    traps_in_report g id (xs ++ ys) ≡ true
more_in_report g id xs ys coming more first = by (is_whole g) (is_among id g.ended) coming first
  where
    by : (w e : Bool) → (w ≡ false → e ≡ false → will_end g.epoch (is_among id g.begun) xs ≡ true) →
        cond (w || e) (no_traps xs) (traps_end g.epoch (is_among id g.begun) xs) ≡ true → cond (w || e) (no_traps (xs ++ ys)) (traps_end g.epoch (is_among id g.begun) (xs ++ ys)) ≡ true
    by true e will none = no_more_traps xs ys none more
    by false true will none = no_more_traps xs ys none more
    by false false will end = traps_end_more g.epoch (is_among id g.begun) xs ys (will refl refl) end more

-- ---- a whole report comes behind what is old
abbrev pub is_end : Report ToManager → Bool
is_end (End n) = true
is_end r = false

traps_end_last : (e n : ℕ) (ys : List (Report ToManager)) → AllByRecursion (λ r. is_end r ≡ false) ys → (n == e) ≡ true → traps_end e true (ys ++ End n ∷ []) ≡ true
traps_end_last e n [] none same = cond-true (n == e) true true same
traps_end_last e n (Begin m ∷ ys) none same = traps_end_last e n ys none.1 same
traps_end_last e n (End m ∷ ys) none same = absurd (false≢true (sym none.0))
traps_end_last e n (Tells w ∷ ys) none same = traps_end_last e n ys none.1 same

pub report_traps : (e n : ℕ) (xs ys : List (Report ToManager)) → AllByRecursion (λ r. begins e r ≡ false) xs → AllByRecursion (λ r. is_end r ≡ false) ys → (n == e) ≡ true →
    traps_end e false (xs ++ Begin n ∷ (ys ++ End n ∷ [])) ≡ true
report_traps e n [] ys old none same =
    cond-true (n == e) (traps_end e true (ys ++ End n ∷ [])) (traps_end e false (ys ++ End n ∷ [])) same ∙ traps_end_last e n ys none same
report_traps e n (Begin m ∷ xs) ys old none same =
    let rest = xs ++ Begin n ∷ (ys ++ End n ∷ []) in
    cond-false (m == e) (traps_end e true rest) (traps_end e false rest) old.0 ∙ report_traps e n xs ys old.1 none same
report_traps e n (End m ∷ xs) ys old none same = report_traps e n xs ys old.1 none same
report_traps e n (Tells w ∷ xs) ys old none same = report_traps e n xs ys old.1 none same

-- ---- a switch is heard
not_false : (b : Bool) → not b ≡ false → b ≡ true
not_false true h = refl
not_false false h = absurd (false≢true (sym h))

or_true : (b : Bool) → (b || true) ≡ true
or_true true = refl
or_true false = refl

-- a first word that is not the end of the report of this epoch
module _ (g : Gathered Treating ToManager) (t : SwitchId) (queue : List (Report ToManager)) where
  word_gone : (w : ToManager) → traps_in_report g t (Tells w ∷ queue) ≡ true → traps_in_report g t queue ≡ true
  word_gone w h = by (is_whole g || is_among t g.ended) h
    where
      by : (c : Bool) → cond c (not (is_trap w) && no_traps queue) (traps_end g.epoch (is_among t g.begun) queue) ≡ true → cond c (no_traps queue) (traps_end g.epoch (is_among t g.begun) queue) ≡ true
      by true none = (and_parts (not (is_trap w)) (no_traps queue) none).1
      by false end = end

  begin_gone : (n : ℕ) → (is_whole g || (not (n == g.epoch) || is_among t g.begun)) ≡ true → traps_in_report g t (Begin n ∷ queue) ≡ true → traps_in_report g t queue ≡ true
  begin_gone n void h = by (is_whole g) (is_among t g.ended) (is_among t g.begun) void h
    where
      other : (c : Bool) → (not c || false) ≡ true → cond c (traps_end g.epoch true queue) (traps_end g.epoch false queue) ≡ true → traps_end g.epoch false queue ≡ true
      other true nay end = absurd (false≢true nay)
      other false nay end = end

      by : (w e b : Bool) → (w || (not (n == g.epoch) || b)) ≡ true → cond (w || e) (no_traps queue) (traps_end g.epoch b (Begin n ∷ queue)) ≡ true →
          cond (w || e) (no_traps queue) (traps_end g.epoch b queue) ≡ true
      by true e b nay none = none
      by false true b nay none = none
      by false false true nay end = end
      by false false false nay end = other (n == g.epoch) nay end

  end_gone : (n : ℕ) → (is_whole g || (not (n == g.epoch && is_among t g.begun) || is_among t g.ended)) ≡ true → traps_in_report g t (End n ∷ queue) ≡ true → traps_in_report g t queue ≡ true
  end_gone n void h = by (is_whole g) (is_among t g.ended) (is_among t g.begun) void h
    where
      other : (c : Bool) → (not (c && true) || false) ≡ true → cond c (no_traps queue) (traps_end g.epoch true queue) ≡ true → traps_end g.epoch true queue ≡ true
      other true nay end = absurd (false≢true nay)
      other false nay end = end

      by : (w e b : Bool) → (w || (not (n == g.epoch && b) || e)) ≡ true → cond (w || e) (no_traps queue) (traps_end g.epoch b (End n ∷ queue)) ≡ true →
          cond (w || e) (no_traps queue) (traps_end g.epoch b queue) ≡ true
      by true e b nay none = none
      by false true b nay none = none
      by false false true nay end = other (n == g.epoch) nay end
      by false false false nay end = end

module _ (g : Gathered Treating ToManager) (s : SwitchId) (treat : Treating → Heard ToManager → Treating) (waits : ToManager → Bool) (after : Treating → Treating) where
  -- of the switch that is heard
  pub own_heard : (r : Report ToManager) (queue : List (Report ToManager)) → traps_in_report g s (r ∷ queue) ≡ true → traps_in_report (hears treat waits after g s r) s queue ≡ true
  own_heard (Begin n) queue h =
      cond_both (is_whole g || (not (n == g.epoch) || is_among s g.begun)) g (record g { begun = s ∷ g.begun }) (λ x. traps_in_report x s queue ≡ true)
      (λ void. begin_gone g s queue n void h)
      (λ heard.
      let two = or_parts (is_whole g) (not (n == g.epoch) || is_among s g.begun) heard in
      let more = or_parts (not (n == g.epoch)) (is_among s g.begun) two.1 in
      let now : is_among s (s ∷ g.begun) ≡ true = ap (λ b. b || is_among s g.begun) (switch_itself s) in
      let same : (n == g.epoch) ≡ true = not_false (n == g.epoch) more.0 in
      by (is_whole g || is_among s g.ended) (is_among s g.begun) (is_among s (s ∷ g.begun)) more.1 now same h)
    where
      by : (c before later : Bool) → before ≡ false → later ≡ true → (n == g.epoch) ≡ true → cond c (no_traps queue) (traps_end g.epoch before (Begin n ∷ queue)) ≡ true →
          cond c (no_traps queue) (traps_end g.epoch later queue) ≡ true
      by true before later nay yea same none = none
      by false true later nay yea same end = absurd (false≢true (sym nay))
      by false false false nay yea same end = absurd (false≢true yea)
      by false false true nay yea same end = sym (cond-true (n == g.epoch) (traps_end g.epoch true queue) (traps_end g.epoch false queue) same) ∙ end
  own_heard (End n) queue h =
      let h₁ : Gathered Treating ToManager = with_ended s g in
      cond_both (is_whole g || (not (n == g.epoch && is_among s g.begun) || is_among s g.ended)) g (gone_through treat waits after h₁) (λ x. traps_in_report x s queue ≡ true)
      (λ void. end_gone g s queue n void h)
      (λ heard.
      let two = or_parts (is_whole g) (not (n == g.epoch && is_among s g.begun) || is_among s g.ended) heard in
      let more = or_parts (not (n == g.epoch && is_among s g.begun)) (is_among s g.ended) two.1 in
      let here = and_parts (n == g.epoch) (is_among s g.begun) (not_false (n == g.epoch && is_among s g.begun) more.0) in
      let now : is_among s (s ∷ g.ended) ≡ true = ap (λ b. b || is_among s g.ended) (switch_itself s) in
      let none : no_traps queue ≡ true = was (is_whole g) (is_among s g.ended) (is_among s g.begun) two.0 more.1 here.1 here.0 h in
      cond_both (is_whole h₁) (record h₁ { kept = []; known = after (all_treated treat h₁.known (in_turn waits h₁.kept)) }) h₁ (λ x. traps_in_report x s queue ≡ true)
      (λ whole. cond-true (is_whole h₁ || is_among s (s ∷ g.ended)) (no_traps queue) (traps_end g.epoch (is_among s g.begun) queue) (ap (λ b. is_whole h₁ || b) now ∙ or_true (is_whole h₁)) ∙ none)
      (λ part. cond-true (is_whole h₁ || is_among s (s ∷ g.ended)) (no_traps queue) (traps_end g.epoch (is_among s g.begun) queue) (ap (λ b. is_whole h₁ || b) now ∙ or_true (is_whole h₁)) ∙ none))
    where
      was : (w e b : Bool) → w ≡ false → e ≡ false → b ≡ true → (n == g.epoch) ≡ true → cond (w || e) (no_traps queue) (traps_end g.epoch b (End n ∷ queue)) ≡ true → no_traps queue ≡ true
      was true e b w_no e_no yea same end = absurd (false≢true (sym w_no))
      was false true b w_no e_no yea same end = absurd (false≢true (sym e_no))
      was false false false w_no e_no yea same end = absurd (false≢true yea)
      was false false true w_no e_no yea same end = sym (cond-true (n == g.epoch) (no_traps queue) (traps_end g.epoch true queue) same) ∙ end
  own_heard (Tells w) queue h =
      cond_both (is_whole g) (record g { known = after (treat g.known (record { switch = s; word = w })) }) (keeps_word g s w) (λ x. traps_in_report x s queue ≡ true)
      (λ whole. word_gone g s queue w h)
      (λ part. cond_both (is_among s g.begun) (record g { kept = g.kept ++ record { switch = s; word = w } ∷ [] }) g (λ x. traps_in_report x s queue ≡ true)
      (λ begun. word_gone g s queue w h) (λ unheard. word_gone g s queue w h))

  -- and of another
  module _ (ids : List SwitchId) (t : SwitchId) (there : has ids t ≡ true) (other : same_switch s t ≡ false) (queue : List (Report ToManager)) where
    same_among : (xs : List SwitchId) → is_among t (s ∷ xs) ≡ is_among t xs
    same_among xs = ap (λ b. b || is_among t xs) other

    pub other_heard : (r : Report ToManager) → IsOrderly ids (hears treat waits after g s r) → traps_in_report g t queue ≡ true → traps_in_report (hears treat waits after g s r) t queue ≡ true
    other_heard (Begin n) orderly h =
        cond_both (is_whole g || (not (n == g.epoch) || is_among s g.begun)) g (record g { begun = s ∷ g.begun }) (λ x. traps_in_report x t queue ≡ true)
        (λ void. h)
        (λ heard. ap (λ b. cond (is_whole g || is_among t g.ended) (no_traps queue) (traps_end g.epoch b queue)) (same_among g.begun) ∙ h)
    other_heard (End n) orderly h =
        let h₁ : Gathered Treating ToManager = with_ended s g in
        let through : Gathered Treating ToManager = record h₁ { kept = []; known = after (all_treated treat h₁.known (in_turn waits h₁.kept)) } in
        cond_both (is_whole g || (not (n == g.epoch && is_among s g.begun) || is_among s g.ended)) g (gone_through treat waits after h₁) (λ x. IsOrderly ids x → traps_in_report x t queue ≡ true)
        (λ void so. h)
        (λ heard.
        let two = or_parts (is_whole g) (not (n == g.epoch && is_among s g.begun) || is_among s g.ended) heard in
        cond_both (is_whole h₁) through h₁ (λ x. IsOrderly ids x → traps_in_report x t queue ≡ true)
        (λ whole so.
        let ended : is_among t g.ended ≡ true = sym (same_among g.ended) ∙ whole_ended ids through so whole (or_parts (g.epoch == 0) (nat_le g.many (length g.ended)) two.0).0 t there in
        cond-true (is_whole h₁ || is_among t (s ∷ g.ended)) (no_traps queue) (traps_end g.epoch (is_among t g.begun) queue) (ap (λ b. b || is_among t (s ∷ g.ended)) whole)
        ∙ sym (cond-true (is_whole g || is_among t g.ended) (no_traps queue) (traps_end g.epoch (is_among t g.begun) queue) (ap (λ b. is_whole g || b) ended ∙ or_true (is_whole g))) ∙ h)
        (λ part so.
        ap (λ b. cond b (no_traps queue) (traps_end g.epoch (is_among t g.begun) queue)) (ap (λ b. b || is_among t (s ∷ g.ended)) (part ∙ sym two.0) ∙ ap (λ b. is_whole g || b) (same_among g.ended)) ∙ h)) orderly
    other_heard (Tells w) orderly h =
        cond_both (is_whole g) (record g { known = after (treat g.known (record { switch = s; word = w })) }) (keeps_word g s w) (λ x. traps_in_report x t queue ≡ true)
        (λ whole. h)
        (λ part. cond_both (is_among s g.begun) (record g { kept = g.kept ++ record { switch = s; word = w } ∷ [] }) g (λ x. traps_in_report x t queue ≡ true) (λ begun. h) (λ unheard. h))
