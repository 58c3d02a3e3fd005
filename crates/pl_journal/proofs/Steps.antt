-- Journals that go on, and fronts of them.
use Rattle.std.proofs.Common.{◌≡◌, List, [], ◌∷◌, ◌++◌, reverse, sym, subst}
use Rattle.std.proofs.lemmas.List.{reverse-append}
use Rattle.pl_wiring.specs.Plan.{Plan}
use Rattle.pl_journal.specs.declared.entry.Entry.{Entry}
use Rattle.pl_journal.specs.Lossy.{CrossesWell, GoodTrail, GoodTrailTo, Needs, Run, RunTo}

abbrev IsRunTo : Plan → List Entry → Type 0
IsRunTo plan past = RunTo plan past

abbrev IsTrailTo : Plan → List Entry → Type 0
IsTrailTo plan past = GoodTrailTo plan past

pub past_more : (journal : List Entry) (entry : Entry) → reverse (journal ++ entry ∷ []) ≡ entry ∷ reverse journal
past_more journal entry = reverse-append journal (entry ∷ [])

pub run_goes_on : (plan : Plan) (journal : List Entry) (entry : Entry) → Run plan journal → Needs plan (reverse journal) entry → Run plan (journal ++ entry ∷ [])
run_goes_on plan journal entry run needs = subst (IsRunTo plan) (sym (past_more journal entry)) (run, needs)

pub run_went_on : (plan : Plan) (journal : List Entry) (entry : Entry) → Run plan (journal ++ entry ∷ []) → Run plan journal × Needs plan (reverse journal) entry
run_went_on plan journal entry run = subst (IsRunTo plan) (past_more journal entry) run

pub trail_goes_on : (plan : Plan) (journal : List Entry) (entry : Entry) → GoodTrail plan journal → CrossesWell plan (reverse journal) entry → GoodTrail plan (journal ++ entry ∷ [])
trail_goes_on plan journal entry trail crosses = subst (IsTrailTo plan) (sym (past_more journal entry)) (trail, crosses)

pub trail_went_on : (plan : Plan) (journal : List Entry) (entry : Entry) → GoodTrail plan (journal ++ entry ∷ []) → GoodTrail plan journal × CrossesWell plan (reverse journal) entry
trail_went_on plan journal entry trail = subst (IsTrailTo plan) (past_more journal entry) trail

-- without the newest entries
pub run_before : (plan : Plan) (newer past : List Entry) → RunTo plan (newer ++ past) → RunTo plan past
run_before plan [] past run = run
run_before plan (entry ∷ newer) past run = run_before plan newer past run.0

pub trail_before : (plan : Plan) (newer past : List Entry) → GoodTrailTo plan (newer ++ past) → GoodTrailTo plan past
trail_before plan [] past trail = trail
trail_before plan (entry ∷ newer) past trail = trail_before plan newer past trail.0

pub run_of_front : (plan : Plan) (front rest : List Entry) → Run plan (front ++ rest) → Run plan front
run_of_front plan front rest run = run_before plan (reverse rest) (reverse front) (subst (IsRunTo plan) (reverse-append front rest) run)

pub trail_of_front : (plan : Plan) (front rest : List Entry) → GoodTrail plan (front ++ rest) → GoodTrail plan front
trail_of_front plan front rest trail = trail_before plan (reverse rest) (reverse front) (subst (IsTrailTo plan) (reverse-append front rest) trail)
