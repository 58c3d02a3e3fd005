-- Lines of a text, and what is known of the entries that were read of it.
use Rattle.std.specs.Prelude.{◌≡◌, ◌⊎◌, ℕ, ◌+◌, ◌<◌, ◌≤◌, All, List, [], ◌∷◌, ◌++◌, drop, length, reverse, Option, Some, None, Result, Ok, Err}
use Rattle.pl_wiring.specs.Plan.{Plan}
use Rattle.pl_journal.specs.declared.entry.Entry.{Entry}
use Rattle.pl_journal.specs.Lossy.{GoodTrail, GoodTrailTo, Run}
use Rattle.pl_journal.specs.Text.{journal_text}
use Rattle.pl_journal_text.specs.Reading.{IsFree}
use Rattle.pl_journal_text.specs.Writable.{IsWritable}
use Rattle.pl_verdict.specs.declared.verdict.Verdict.{Verdict}
use Rattle.pl_verdict.specs.declared.verdict.Verdict.TheVariants.{Illegal, Legal}
use Rattle.pl_verdict.specs.declared.verdict.VerifyError.{VerifyError}
use Rattle.pl_verdict.specs.Verdicts.{FirstFails, Says}
use Rattle.pl_checker.specs.declared.past.Past.{Past}
use Rattle.pl_checker.specs.Past.{Keeps}
use Rattle.pl_verify.specs.declared.judge.Judge.{Judge}

-- a line at the front of a text, with its newline; the whole text where it has none
abbrev pub IsLine : List ℕ → List ℕ → Type 0
IsLine text line = ((front : List ℕ) × IsFree 10 front × (line ≡ front ++ 10 ∷ [])) ⊎ (IsFree 10 text × (line ≡ text))

-- either all entries follow, and what is kept is kept of them, or this is the first that does not
abbrev pub Stands : Plan → List ℕ → List Entry → Past → Option ℕ → Type 0
Stands plan text journal kept None = Keeps plan text (reverse journal) kept × GoodTrailTo plan (reverse journal)
Stands plan text journal kept (Some n) = (before : ℕ) × (n ≡ before + 1) × FirstFails plan [] journal before

pub record IsJudged (plan : Plan) (text : List ℕ) (journal : List Entry) (judge : Judge) : Type 0 where
  pub many : judge.count ≡ length journal
  pub stands : Stands plan text journal judge.past judge.wrong

-- what a verdict says of the entries
abbrev pub IsVerdictOn : Plan → List Entry → Verdict → Type 0
IsVerdictOn plan journal (Legal n) = (length journal ≡ n) × Run plan journal × GoodTrail plan journal
IsVerdictOn plan journal (Illegal n) = (before : ℕ) × (n ≡ before + 1) × FirstFails plan [] journal before

-- the text up to a place is that of these entries
pub record IsReadTo (plan : Plan) (text : List ℕ) (at : ℕ) (judge : Judge) : Type 0 where
  pub journal : List Entry
  pub writable : All (IsWritable plan) journal
  pub read : text ≡ journal_text plan journal ++ drop at text
  pub judged : IsJudged plan text journal judge
  pub within : at ≤ length text
  pub few : judge.count ≤ at

-- what came of one line more
abbrev pub IsFurther : Plan → List ℕ → ℕ → Judge → Result ℕ VerifyError → Type 0
IsFurther plan text at judge (Ok end) = (at < end) × IsReadTo plan text end judge
IsFurther plan text at judge (Err e) = Says plan text (Err e)
