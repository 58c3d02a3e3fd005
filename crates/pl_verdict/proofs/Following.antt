-- A journal is a run with good trails exactly where each entry follows.
use Rattle.std.proofs.Common.{◌≡◌, ◌↔◌, ℕ, zero, suc, List, [], ◌∷◌, ◌++◌, reverse, refl, sym, ap, subst, ◌∙◌, append_assoc, append-nil}
use Rattle.std.proofs.lemmas.List.{reverse-append}
use Rattle.pl_wiring.specs.Plan.{Plan}
use Rattle.pl_journal.specs.declared.entry.Entry.{Entry}
use Rattle.pl_journal.specs.Lossy.{GoodTrail, GoodTrailTo, Run, RunTo}
use Rattle.pl_verdict.specs.Verdicts.{AllFollow, FirstFails}

abbrev pub back : List Entry → List Entry → List Entry
back past [] = past
back past (entry ∷ entries) = back (entry ∷ past) entries

parts_follow : (plan : Plan) (past entries : List Entry) → RunTo plan (back past entries) → GoodTrailTo plan (back past entries) →
    RunTo plan past × GoodTrailTo plan past × AllFollow plan past entries
parts_follow plan past [] run good = (run, good, record {})
parts_follow plan past (entry ∷ entries) run good =
    let rest = parts_follow plan (entry ∷ past) entries run good in
    (rest.0.0, rest.1.0, ((rest.0.1, rest.1.1), rest.2))

follow_whole : (plan : Plan) (past entries : List Entry) → RunTo plan past → GoodTrailTo plan past → AllFollow plan past entries →
    RunTo plan (back past entries) × GoodTrailTo plan (back past entries)
follow_whole plan past [] run good all = (run, good)
follow_whole plan past (entry ∷ entries) run good all = follow_whole plan (entry ∷ past) entries (run, all.0.0) (good, all.0.1) all.1

pub back_is : (past entries : List Entry) → back past entries ≡ reverse entries ++ past
back_is past [] = refl
back_is past (entry ∷ entries) =
    back_is (entry ∷ past) entries ∙ sym (append_assoc (reverse entries) (entry ∷ []) past)
    ∙ ap (λ l. l ++ past) (sym (reverse-append (entry ∷ []) entries))

pub whole : (journal : List Entry) → back [] journal ≡ reverse journal
whole journal = back_is [] journal ∙ append-nil (reverse journal)

pub legal_is_run : (plan : Plan) (journal : List Entry) → AllFollow plan [] journal ↔ (Run plan journal × GoodTrail plan journal)
legal_is_run plan journal = (
  λ all. let both = follow_whole plan [] journal (record {}) (record {}) all in
      (subst (RunTo plan) (whole journal) both.0, subst (GoodTrailTo plan) (whole journal) both.1),
  λ both. (parts_follow plan [] journal (subst (RunTo plan) (sym (whole journal)) both.0) (subst (GoodTrailTo plan) (sym (whole journal)) both.1)).2,
)

-- where one fails, not all follow
pub fails_not_all : (plan : Plan) (past entries : List Entry) (n : ℕ) → FirstFails plan past entries n → AllFollow plan past entries → ⊥
fails_not_all plan past [] n fails all = fails
fails_not_all plan past (entry ∷ entries) zero fails all = fails (all.0)
fails_not_all plan past (entry ∷ entries) (suc n) fails all = fails_not_all plan (entry ∷ past) entries n fails.1 all.1

-- the first that fails is one
pub fails_once : (plan : Plan) (past entries : List Entry) (m n : ℕ) → FirstFails plan past entries m → FirstFails plan past entries n → m ≡ n
fails_once plan past [] m n first second = absurd first
fails_once plan past (entry ∷ entries) zero zero first second = refl
fails_once plan past (entry ∷ entries) zero (suc n) first second = absurd (first (second.0))
fails_once plan past (entry ∷ entries) (suc m) zero first second = absurd (second (first.0))
fails_once plan past (entry ∷ entries) (suc m) (suc n) first second = ap suc (fails_once plan (entry ∷ past) entries m n first.1 second.1)
