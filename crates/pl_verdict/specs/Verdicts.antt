-- Whether a journal is a run with good trails, from its first entry on, and what is said of its text.
use Rattle.std.specs.Prelude.{◌≡◌, ◌≢◌, ℕ, ◌+◌, zero, suc, All, List, [], ◌∷◌, ◌++◌, length, Result, Ok, Err}
use Rattle.pl_wiring.specs.Plan.{Plan}
use Rattle.pl_journal.specs.declared.entry.Entry.{Entry}
use Rattle.pl_journal.specs.Lossy.{CrossesWell, GoodTrail, Needs, Run}
use Rattle.pl_journal.specs.Text.{journal_text, line_of}
use Rattle.pl_journal_text.specs.Writable.{IsJournalText, IsWritable}
use Rattle.pl_verdict.specs.declared.verdict.Verdict.{Verdict}
use Rattle.pl_verdict.specs.declared.verdict.Verdict.TheVariants.{Legal, Illegal}
use Rattle.pl_verdict.specs.declared.verdict.VerifyError.{VerifyError}
use Rattle.pl_verdict.specs.declared.verdict.VerifyError.TheVariants.{BadLine, Memory}

-- the entry may follow those that are past, the newest first
abbrev pub Follows : Plan → List Entry → Entry → Type 0
Follows plan past entry = Needs plan past entry × CrossesWell plan past entry

-- each of these entries, with the oldest first
abbrev pub AllFollow : Plan → List Entry → List Entry → Type 0
AllFollow plan past [] = Unit {0}
AllFollow plan past (entry ∷ entries) = Follows plan past entry × AllFollow plan (entry ∷ past) entries

-- the first one that may not follow has n before it
abbrev pub FirstFails : Plan → List Entry → List Entry → ℕ → Type 0
FirstFails plan past [] n = ⊥
FirstFails plan past (entry ∷ entries) zero = ¬ (Follows plan past entry)
FirstFails plan past (entry ∷ entries) (suc n) = Follows plan past entry × FirstFails plan (entry ∷ past) entries n

-- the text is a journal's, of n entries, which is a run with good trails
pub record IsLegal (plan : Plan) (text : List ℕ) (n : ℕ) : Type 0 where
  pub journal : List Entry
  pub written : IsJournalText plan text journal
  pub many : length journal ≡ n
  pub run : Run plan journal
  pub good : GoodTrail plan journal

-- the text is a journal's, whose entry n, counted from 1, is the first that may not follow
pub record IsIllegal (plan : Plan) (text : List ℕ) (n : ℕ) : Type 0 where
  pub journal : List Entry
  pub written : IsJournalText plan text journal
  pub before : ℕ
  pub number : n ≡ before + 1
  pub fails : FirstFails plan [] journal before

-- the text begins with the lines of n - 1 entries; behind them something stands that begins with no entry's line
pub record IsBadLine (plan : Plan) (text : List ℕ) (n : ℕ) : Type 0 where
  pub journal : List Entry
  pub rest : List ℕ
  pub writable : All (IsWritable plan) journal
  pub whole : text ≡ journal_text plan journal ++ rest
  pub number : n ≡ length journal + 1
  pub some : rest ≢ []
  pub none : (entry : Entry) (more : List ℕ) → IsWritable plan entry → rest ≢ line_of plan entry ++ more

-- what is said of a text
abbrev pub Says : Plan → List ℕ → Result Verdict VerifyError → Type 0
Says plan text (Ok (Legal n)) = IsLegal plan text n
Says plan text (Ok (Illegal n)) = IsIllegal plan text n
Says plan text (Err (BadLine n)) = IsBadLine plan text n
Says plan text (Err Memory) = Unit {0}
