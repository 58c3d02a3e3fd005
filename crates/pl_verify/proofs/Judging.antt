-- One entry more is heard.
use Rattle.std.proofs.Common.{◌≡◌, ℕ, zero, suc, ◌+◌, true, false, List, [], ◌∷◌, ◌++◌, length, reverse, Option, Some, None, is_some, refl, sym, subst, arith}
use Rattle.std.proofs.lemmas.Bool.{both_ways}
use Rattle.std.proofs.lemmas.List.{length-reverse, reverse-append}
use Rattle.pl_wiring.specs.Plan.{Plan}
use Rattle.pl_journal.specs.declared.entry.Entry.{Entry}
use Rattle.pl_journal.specs.Lossy.{GoodTrail, GoodTrailTo, Run}
use Rattle.pl_verdict.specs.declared.verdict.Verdict.TheVariants.{Illegal, Legal}
use Rattle.pl_verdict.specs.Verdicts.{AllFollow, FirstFails, Follows}
use Rattle.pl_verdict.proofs.Exports.{back, legal_is_run, whole}
use Rattle.pl_checker.specs.declared.past.Past.{Past}
use Rattle.pl_checker.specs.Past.{Keeps, MayFollow}
use Rattle.pl_verify.specs.declared.judge.Judge.{Judge}
use Rattle.pl_verify.specs.Judged.{IsJudged, IsVerdictOn, Stands}

-- what fails first still does with an entry behind it
fails_still : (plan : Plan) (past journal : List Entry) (e : Entry) (n : ℕ) → FirstFails plan past journal n → FirstFails plan past (journal ++ e ∷ []) n
fails_still plan past [] e n fails = absurd fails
fails_still plan past (x ∷ journal) e zero fails = fails
fails_still plan past (x ∷ journal) e (suc n) fails = (fails.0, fails_still plan (x ∷ past) journal e n fails.1)

fails_last : (plan : Plan) (past journal : List Entry) (e : Entry) → AllFollow plan past journal → ¬ (Follows plan (back past journal) e) →
    FirstFails plan past (journal ++ e ∷ []) (length journal)
fails_last plan past [] e all not_so = not_so
fails_last plan past (x ∷ journal) e all not_so = (all.0, fails_last plan (x ∷ past) journal e all.1 not_so)

pub one_longer : (journal : List Entry) (e : Entry) → length (journal ++ e ∷ []) ≡ length journal + 1
one_longer [] e = omega arith
one_longer (x ∷ journal) e = let same = one_longer journal e in omega arith

pub wrong_before : (plan : Plan) (text : List ℕ) (journal : List Entry) (e : Entry) (kept now : Past) (wrong : Option ℕ) → is_some wrong ≡ true →
    Stands plan text journal kept wrong → Stands plan text (journal ++ e ∷ []) now wrong
wrong_before plan text journal e kept now None some stands = absurd (both_ways false refl some)
wrong_before plan text journal e kept now (Some n) some stands = (stands.0, stands.1, fails_still plan [] journal e stands.0 stands.2)

-- all entries so far followed
pub right_before : (plan : Plan) (text : List ℕ) (journal : List Entry) (kept : Past) (wrong : Option ℕ) → is_some wrong ≡ false →
    Stands plan text journal kept wrong → Keeps plan text (reverse journal) kept × GoodTrailTo plan (reverse journal)
right_before plan text journal kept None none stands = stands
right_before plan text journal kept (Some n) none stands = absurd (both_ways true none refl)

pub wrong_now : (plan : Plan) (text : List ℕ) (journal : List Entry) (e : Entry) (kept now : Past) (n : ℕ) →
    Keeps plan text (reverse journal) kept × GoodTrailTo plan (reverse journal) → n ≡ length journal + 1 → ¬ (MayFollow plan (reverse journal) e) →
    Stands plan text (journal ++ e ∷ []) now (Some n)
wrong_now plan text journal e kept now n right next not_so = (
  length journal,
  next,
  fails_last plan [] journal e ((legal_is_run plan journal).1 (right.0.run, right.1))
      (λ follows. not_so (subst (λ p. Follows plan p e) (whole journal) follows)),
)

pub right_now : (plan : Plan) (text : List ℕ) (journal : List Entry) (e : Entry) (kept now : Past) →
    Keeps plan text (reverse journal) kept × GoodTrailTo plan (reverse journal) → MayFollow plan (reverse journal) e →
    Keeps plan text (e ∷ reverse journal) now →
    Stands plan text (journal ++ e ∷ []) now None
right_now plan text journal e kept now right follows keeps =
    let turned : reverse (journal ++ e ∷ []) ≡ e ∷ reverse journal = reverse-append journal (e ∷ []) in
    (subst (λ p. Keeps plan text p now) (sym turned) keeps, subst (GoodTrailTo plan) (sym turned) (right.1, follows.1))

pub all_right : (plan : Plan) (text : List ℕ) (journal : List Entry) (kept : Past) → Stands plan text journal kept None →
    Run plan journal × GoodTrail plan journal
all_right plan text journal kept stands = (stands.0.run, stands.1)

pub said_legal : (plan : Plan) (text : List ℕ) (journal : List Entry) (judge : Judge) → IsJudged plan text journal judge → judge.wrong ≡ None →
    IsVerdictOn plan journal (Legal judge.count)
said_legal plan text journal judge judged none =
    let both = all_right plan text journal judge.past (subst (Stands plan text journal judge.past) none judged.stands) in (sym judged.many, both.0, both.1)

pub said_illegal : (plan : Plan) (text : List ℕ) (journal : List Entry) (judge : Judge) → IsJudged plan text journal judge → (n : ℕ) → judge.wrong ≡ Some n →
    IsVerdictOn plan journal (Illegal n)
said_illegal plan text journal judge judged n some = subst (Stands plan text journal judge.past) some judged.stands

-- and none is wrong yet
pub none_yet : (plan : Plan) (text : List ℕ) (journal : List Entry) (now : Past) (wrong : Option ℕ) → is_some wrong ≡ false →
    Stands plan text journal now None → Stands plan text journal now wrong
none_yet plan text journal now None none stands = stands
none_yet plan text journal now (Some n) none stands = absurd (both_ways true none refl)

-- as many entries as the past has
pub as_many : (journal : List Entry) → length (reverse journal) ≡ length journal
as_many journal = length-reverse journal
