-- A text has one verdict.
use Rattle.std.proofs.Common.{◌≡◌, ◌≢◌, ℕ, suc, ◌+◌, List, [], ◌∷◌, ◌++◌, length, refl, sym, ap, subst, ◌∙◌, append_assoc, arith}
use Rattle.std.specs.Prelude.{All}
use Rattle.pl_wiring.specs.Plan.{IsPlan, Plan}
use Rattle.pl_journal.specs.declared.entry.Entry.{Entry}
use Rattle.pl_journal.specs.Text.{journal_text, line_of}
use Rattle.pl_journal_text.specs.Writable.{IsWritable}
use Rattle.pl_journal_text.proofs.Exports.{begun_once, one_journal, some_line}
use Rattle.pl_verdict.specs.Verdicts.{AllFollow, FirstFails, IsBadLine, IsIllegal, IsLegal}
use Rattle.pl_verdict.proofs.Following.{fails_not_all, fails_once, legal_is_run}

-- a rest of a text that begins with no entry's line
abbrev IsNoLine : Plan → List ℕ → Type 0
IsNoLine plan rest = (entry : Entry) (more : List ℕ) → IsWritable plan entry → rest ≢ line_of plan entry ++ more

behind : (plan : Plan) (j : List Entry) (e : Entry) → All (IsWritable plan) (e ∷ j) → All (IsWritable plan) j
behind plan j e all = λ i d h. all (suc i) d (omega arith)

first : (plan : Plan) (j : List Entry) (e : Entry) → All (IsWritable plan) (e ∷ j) → IsWritable plan e
first plan j e all = all 0 e (omega arith)

grouped : (plan : Plan) (e : Entry) (j : List Entry) (rest : List ℕ) → journal_text plan (e ∷ j) ++ rest ≡ line_of plan e ++ (journal_text plan j ++ rest)
grouped plan e j rest = append_assoc (line_of plan e) (journal_text plan j) rest

-- two ways to read as many lines as there are
same_lines : (plan : Plan) (j k : List Entry) (r s : List ℕ) → IsPlan plan → All (IsWritable plan) j → All (IsWritable plan) k → IsNoLine plan r → IsNoLine plan s →
    journal_text plan j ++ r ≡ journal_text plan k ++ s → length j ≡ length k
same_lines plan [] [] r s is all other no_r no_s same = refl
same_lines plan [] (f ∷ k) r s is all other no_r no_s same = absurd (no_r f (journal_text plan k ++ s) (first plan k f other) (same ∙ grouped plan f k s))
same_lines plan (e ∷ j) [] r s is all other no_r no_s same = absurd (no_s e (journal_text plan j ++ r) (first plan j e all) (sym same ∙ grouped plan e j r))
same_lines plan (e ∷ j) (f ∷ k) r s is all other no_r no_s same =
    let parts = begun_once plan e f (journal_text plan j ++ r) (journal_text plan k ++ s) is (first plan j e all) (first plan k f other)
    (sym (grouped plan e j r) ∙ same ∙ grouped plan f k s) in
    ap suc (same_lines plan j k r s is (behind plan j e all) (behind plan k f other) no_r no_s parts.1)

-- a journal's text has no bad line
no_bad_line : (plan : Plan) (j k : List Entry) (s : List ℕ) → IsPlan plan → All (IsWritable plan) j → All (IsWritable plan) k → s ≢ [] → IsNoLine plan s →
    journal_text plan j ≢ journal_text plan k ++ s
no_bad_line plan [] [] s is all other some none same = some (sym same)
no_bad_line plan [] (f ∷ k) s is all other some none same = some_line plan f (journal_text plan k ++ s) (sym (same ∙ grouped plan f k s))
no_bad_line plan (e ∷ j) [] s is all other some none same = none e (journal_text plan j) (first plan j e all) (sym same)
no_bad_line plan (e ∷ j) (f ∷ k) s is all other some none same =
    let parts = begun_once plan e f (journal_text plan j) (journal_text plan k ++ s) is (first plan j e all) (first plan k f other) (same ∙ grouped plan f k s) in
    no_bad_line plan j k s is (behind plan j e all) (behind plan k f other) some none parts.1

pub one_count : (plan : Plan) (text : List ℕ) (m n : ℕ) → IsPlan plan → IsLegal plan text m → IsLegal plan text n → m ≡ n
one_count plan text m n is a b =
    sym a.many ∙ ap length (one_journal plan a.journal b.journal is a.written.writable b.written.writable (sym a.written.written ∙ b.written.written)) ∙ b.many

pub one_entry : (plan : Plan) (text : List ℕ) (m n : ℕ) → IsPlan plan → IsIllegal plan text m → IsIllegal plan text n → m ≡ n
one_entry plan text m n is a b =
    let same = one_journal plan a.journal b.journal is a.written.writable b.written.writable (sym a.written.written ∙ b.written.written) in
    let fails = subst (λ j. FirstFails plan [] j a.before) same a.fails in
    a.number ∙ ap (λ k. k + 1) (fails_once plan [] b.journal a.before b.before fails b.fails) ∙ sym b.number

pub one_bad_line : (plan : Plan) (text : List ℕ) (m n : ℕ) → IsPlan plan → IsBadLine plan text m → IsBadLine plan text n → m ≡ n
one_bad_line plan text m n is a b =
    a.number ∙ ap (λ k. k + 1) (same_lines plan a.journal b.journal a.rest b.rest is a.writable b.writable a.none b.none (sym a.whole ∙ b.whole)) ∙ sym b.number

pub legal_not_illegal : (plan : Plan) (text : List ℕ) (m n : ℕ) → IsPlan plan → IsLegal plan text m → IsIllegal plan text n → ⊥
legal_not_illegal plan text m n is a b =
    let same = one_journal plan a.journal b.journal is a.written.writable b.written.writable (sym a.written.written ∙ b.written.written) in
    let all = subst (AllFollow plan []) same ((legal_is_run plan a.journal).1 (a.run, a.good)) in
    fails_not_all plan [] b.journal b.before b.fails all

pub legal_not_bad : (plan : Plan) (text : List ℕ) (m n : ℕ) → IsPlan plan → IsLegal plan text m → IsBadLine plan text n → ⊥
legal_not_bad plan text m n is a b =
    no_bad_line plan a.journal b.journal b.rest is a.written.writable b.writable b.some b.none (sym a.written.written ∙ b.whole)

pub illegal_not_bad : (plan : Plan) (text : List ℕ) (m n : ℕ) → IsPlan plan → IsIllegal plan text m → IsBadLine plan text n → ⊥
illegal_not_bad plan text m n is a b =
    no_bad_line plan a.journal b.journal b.rest is a.written.writable b.writable b.some b.none (sym a.written.written ∙ b.whole)
