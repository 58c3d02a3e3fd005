-- The number in a verdict is no larger than the text is long.
use Rattle.std.proofs.Common.{◌≡◌, ℕ, zero, suc, ◌<◌, ◌≤◌, List, [], ◌∷◌, ◌++◌, length, refl, ap, ◌∙◌, arith}
use Rattle.std.proofs.lemmas.List.{length-append}
use Rattle.pl_wiring.specs.Plan.{Plan}
use Rattle.pl_journal.specs.declared.entry.Entry.{Entry}
use Rattle.pl_journal.specs.Text.{journal_text, line_of}
use Rattle.pl_journal_text.proofs.Exports.{front_of, line_is}
use Rattle.pl_verdict.specs.Verdicts.{FirstFails, IsBadLine, IsIllegal}

long_line : (plan : Plan) (e : Entry) → 1 ≤ length (line_of plan e)
long_line plan e =
    let long = ap length (line_is plan e) ∙ length-append (front_of plan e) (10 ∷ []) in
    omega arith

entries_fit : (plan : Plan) (journal : List Entry) → length journal ≤ length (journal_text plan journal)
entries_fit plan [] = omega arith
entries_fit plan (e ∷ journal) =
    let long = length-append (line_of plan e) (journal_text plan journal) in
    let line = long_line plan e in
    let rest = entries_fit plan journal in
    omega arith

fails_within : (plan : Plan) (past journal : List Entry) (n : ℕ) → FirstFails plan past journal n → n < length journal
fails_within plan past [] n fails = absurd fails
fails_within plan past (e ∷ journal) zero fails = omega arith
fails_within plan past (e ∷ journal) (suc n) fails = let less = fails_within plan (e ∷ past) journal n fails.1 in omega arith

pub illegal_fits : (plan : Plan) (text : List ℕ) (n : ℕ) → IsIllegal plan text n → n ≤ length text
illegal_fits plan text n is =
    let number = is.number in
    let less = fails_within plan [] is.journal is.before is.fails in
    let many = entries_fit plan is.journal in
    let long = ap length is.written.written in
    omega arith

some_length : (rest : List ℕ) → (rest ≡ [] → ⊥) → 1 ≤ length rest
some_length [] some = absurd (some refl)
some_length (x ∷ rest) some = omega arith

pub bad_line_fits : (plan : Plan) (text : List ℕ) (n : ℕ) → IsBadLine plan text n → n ≤ length text
bad_line_fits plan text n is =
    let number = is.number in
    let many = entries_fit plan is.journal in
    let long = ap length is.whole ∙ length-append (journal_text plan is.journal) is.rest in
    let some = some_length is.rest is.some in
    omega arith
