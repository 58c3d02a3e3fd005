-- Lines of a text, one after the other.
use Rattle.std.proofs.Common.{◌≡◌, ◌≢◌, ℕ, zero, suc, ◌+◌, ◌-◌, ◌*◌, ◌<◌, ◌≤◌, List, [], ◌∷◌, ◌++◌, length, take, drop, get_or, codes, decimal, refl, sym, ap, subst, ◌∙◌, inl, inr, arith, append_assoc, append-nil}
use Rattle.std.specs.Prelude.{All, Ok}
use Rattle.std.proofs.lemmas.List.{drop-drop, drop_all, drop_at, length-append, length-drop, length-take-le, take-append-drop, take_at}
use Rattle.hex.specs.Hex.{encode_lower, lower_digits}
use Rattle.hex.proofs.HexLemmas.{length-encode_with}
use Rattle.pl_wiring.specs.declared.host.HostNo.{HostNo}
use Rattle.pl_wiring.specs.declared.label.SwitchNo.{SwitchNo}
use Rattle.pl_wiring.specs.Plan.{IsPlan, Plan}
use Rattle.pl_journal.specs.Text.{host_text, journal_text, line_of, switch_text}
use Rattle.pl_journal.specs.declared.entry.Entry.{Entry}
use Rattle.pl_journal.specs.declared.entry.Entry.TheVariants.{Arrived, Made, Sent}
use Rattle.pl_journal_text.specs.Writable.{IsJournalText, IsWritable}
use Rattle.pl_journal_text.proofs.Exports.{cut_once, front_of, front_printed, line_is, never_cut, no_newline}
use Rattle.pl_verdict.specs.declared.verdict.Verdict.{Verdict}
use Rattle.pl_verdict.specs.declared.verdict.Verdict.TheVariants.{Illegal, Legal}
use Rattle.pl_verdict.specs.Verdicts.{IsBadLine, Says}
use Rattle.pl_checker.specs.Past.{HasDigits, IsCheckable}
use Rattle.pl_verify.specs.declared.judge.Judge.{Judge}
use Rattle.pl_verify.specs.Judged.{IsJudged, IsLine, IsReadTo, IsVerdictOn}

-- the digits of a frame at the end of its line
digits_in : (text before digits : List ℕ) (at end n : ℕ) → at ≤ end → end ≤ length text → take (end - at) (drop at text) ≡ before ++ (digits ++ 10 ∷ []) →
    length digits ≡ n → take n (drop (end - (n + 1)) text) ≡ digits
digits_in text before digits at end n order within is many =
    let rest = drop (end - at) (drop at text) in
    let whole : drop at text ≡ before ++ (digits ++ 10 ∷ rest) =
    sym (take-append-drop (end - at) (drop at text)) ∙ ap (λ l. l ++ rest) is ∙ append_assoc before (digits ++ 10 ∷ []) rest
    ∙ ap (λ l. before ++ l) (append_assoc digits (10 ∷ []) rest) in
    let room : end - at ≤ length (drop at text) = omega (arith, length-drop at text) in
    let long : end - at ≡ length before + (length digits + 1) =
    sym (length-take-le (end - at) (drop at text) room) ∙ ap length is ∙ length-append before (digits ++ 10 ∷ [])
    ∙ ap (λ m. length before + m) (length-append digits (10 ∷ [])) in
    let place : end - (n + 1) ≡ at + length before = omega arith in
    ap (λ m. take n (drop m text)) place
    ∙ ap (take n) (sym (drop-drop (length before) at text) ∙ ap (drop (length before)) whole ∙ drop_at before (digits ++ 10 ∷ rest) (length before) refl)
    ∙ take_at digits (10 ∷ rest) n many

three_parts : (a b c digits : List ℕ) → (a ++ 32 ∷ (b ++ 32 ∷ (c ++ 32 ∷ digits))) ++ 10 ∷ [] ≡ (a ++ 32 ∷ (b ++ 32 ∷ (c ++ 32 ∷ []))) ++ (digits ++ 10 ∷ [])
three_parts a b c digits = simp append_assoc

digits_sent : (plan : Plan) (text : List ℕ) (at end id : ℕ) (h : HostNo) (f : List ℕ) → at ≤ end → end ≤ length text →
    take (end - at) (drop at text) ≡ line_of plan (Sent id h f) → take (2 * length f) (drop (end - (2 * length f + 1)) text) ≡ encode_lower f
digits_sent plan text at end id h f order within is =
    digits_in text (codes "sent" ++ 32 ∷ (decimal id ++ 32 ∷ (host_text plan h.0 ++ 32 ∷ []))) (encode_lower f) at end (2 * length f) order within
    (is ∙ line_is plan (Sent id h f) ∙ three_parts (codes "sent") (decimal id) (host_text plan h.0) (encode_lower f)) (length-encode_with lower_digits f)

digits_made : (plan : Plan) (text : List ℕ) (at end id : ℕ) (s : SwitchNo) (f : List ℕ) → at ≤ end → end ≤ length text →
    take (end - at) (drop at text) ≡ line_of plan (Made id s f) → take (2 * length f) (drop (end - (2 * length f + 1)) text) ≡ encode_lower f
digits_made plan text at end id s f order within is =
    digits_in text (codes "made" ++ 32 ∷ (decimal id ++ 32 ∷ (switch_text plan s.0 ++ 32 ∷ []))) (encode_lower f) at end (2 * length f) order within
    (is ∙ line_is plan (Made id s f) ∙ three_parts (codes "made") (decimal id) (switch_text plan s.0) (encode_lower f)) (length-encode_with lower_digits f)

-- the digits of the frame that an entry begins, by the end of its line
pub at_sent : (plan : Plan) (text : List ℕ) (at end from : ℕ) (entry : Entry) (id : ℕ) (h : HostNo) (f : List ℕ) → entry ≡ Sent id h f → at ≤ end →
    end ≤ length text → take (end - at) (drop at text) ≡ line_of plan entry → from ≡ end - (2 * length f + 1) → HasDigits text from entry
at_sent plan text at end from entry id h f is order within line place =
    subst (λ (e : Entry). HasDigits text from e) (sym is)
    (subst (λ (n : ℕ). take (2 * length f) (drop n text) ≡ encode_lower f) (sym place)
    (digits_sent plan text at end id h f order within (line ∙ ap (λ (e : Entry). line_of plan e) is)))

pub at_made : (plan : Plan) (text : List ℕ) (at end from : ℕ) (entry : Entry) (id : ℕ) (s : SwitchNo) (f : List ℕ) → entry ≡ Made id s f → at ≤ end →
    end ≤ length text → take (end - at) (drop at text) ≡ line_of plan entry → from ≡ end - (2 * length f + 1) → HasDigits text from entry
at_made plan text at end from entry id s f is order within line place =
    subst (λ (e : Entry). HasDigits text from e) (sym is)
    (subst (λ (n : ℕ). take (2 * length f) (drop n text) ≡ encode_lower f) (sym place)
    (digits_made plan text at end id s f order within (line ∙ ap (λ (e : Entry). line_of plan e) is)))

pub checkable : (plan : Plan) (e : Entry) → IsWritable plan e → IsCheckable plan e
checkable plan (Sent id h f) fits = fits.1.1
checkable plan (Made id s f) fits = fits.1.1
checkable plan (Arrived id h f) fits = (fits.1.0, fits.1.1)
checkable plan e fits = tt

-- where no entry has the line that a text begins with, the text begins with no entry's line
pub begins_with_none : (plan : Plan) (text line rest : List ℕ) → IsPlan plan → IsLine text line → text ≡ line ++ rest →
    ((e : Entry) → IsWritable plan e → line ≢ line_of plan e) → (e : Entry) (more : List ℕ) → IsWritable plan e → text ≢ line_of plan e ++ more
begins_with_none plan text line rest is one whole none e more fits same =
    let free = no_newline (front_of plan e) (front_printed plan e is fits) in
    let begins : text ≡ front_of plan e ++ 10 ∷ more = same ∙ ap (λ l. l ++ more) (line_is plan e) ∙ append_assoc (front_of plan e) (10 ∷ []) more in
    elim one [
      | inl ended ↦
          let split : text ≡ ended.0 ++ 10 ∷ rest = whole ∙ ap (λ l. l ++ rest) ended.2 ∙ append_assoc ended.0 (10 ∷ []) rest in
          let parts = cut_once 10 ended.0 rest (front_of plan e) more ended.1 free (sym split ∙ begins) in
          none e fits (ended.2 ∙ ap (λ l. l ++ 10 ∷ []) parts.0 ∙ sym (line_is plan e))
      | inr last ↦ never_cut 10 text (front_of plan e) more last.0 begins
    ]

-- the text of one entry more
journal_more : (plan : Plan) (journal : List Entry) (e : Entry) → journal_text plan (journal ++ e ∷ []) ≡ journal_text plan journal ++ line_of plan e
journal_more plan [] e = append-nil (line_of plan e)
journal_more plan (x ∷ journal) e =
    ap (λ l. line_of plan x ++ l) (journal_more plan journal e) ∙ sym (append_assoc (line_of plan x) (journal_text plan journal) (line_of plan e))

pub all_more : (plan : Plan) (journal : List Entry) (e : Entry) → All (IsWritable plan) journal → IsWritable plan e → All (IsWritable plan) (journal ++ e ∷ [])
all_more plan [] e all fits = λ k d h. first k d h
  where
    first : (k : ℕ) (d : Entry) → k < length (e ∷ []) → IsWritable plan (get_or (e ∷ []) k d)
    first zero d h = fits
    first (suc k) d h = absurd (omega arith)
all_more plan (x ∷ journal) e all fits = λ k d h. at k d h (all_more plan journal e (λ i d h. all (suc i) d (omega arith)) fits)
  where
    at : (k : ℕ) (d : Entry) → k < length (x ∷ (journal ++ e ∷ [])) → All (IsWritable plan) (journal ++ e ∷ []) →
        IsWritable plan (get_or (x ∷ (journal ++ e ∷ [])) k d)
    at zero d h rest = all 0 d (omega arith)
    at (suc k) d h rest = rest k d (omega arith)

-- one line further
pub read_on : (plan : Plan) (text : List ℕ) (at end : ℕ) (before now : Judge) (e : Entry) → IsReadTo plan text at before → IsWritable plan e → at < end →
    end ≤ length text →
    take (end - at) (drop at text) ≡ line_of plan e → now.count ≡ before.count + 1 →
    ((journal : List Entry) → IsJudged plan text journal before → IsJudged plan text (journal ++ e ∷ []) now) → IsReadTo plan text end now
read_on plan text at end before now e so_far fits further within line more heard = record {
  journal = so_far.journal ++ e ∷ [];
  writable = all_more plan so_far.journal e so_far.writable fits;
  read =
      so_far.read ∙ ap (λ l. journal_text plan so_far.journal ++ l)
      (sym (take-append-drop (end - at) (drop at text)) ∙ ap (λ l. l ++ drop (end - at) (drop at text)) line)
      ∙ sym (append_assoc (journal_text plan so_far.journal) (line_of plan e) (drop (end - at) (drop at text)))
      ∙ ap (λ l. l ++ drop (end - at) (drop at text)) (sym (journal_more plan so_far.journal e))
      ∙ ap (λ l. journal_text plan (so_far.journal ++ e ∷ []) ++ l) (drop-drop (end - at) at text ∙ ap (λ m. drop m text) place);
  judged = heard so_far.journal so_far.judged;
  within = within;
  few = let small = so_far.few in omega arith;
}
  where
    place : at + (end - at) ≡ end
    place = omega arith

-- before the first line
pub read_none : (plan : Plan) (text : List ℕ) (judge : Judge) → IsJudged plan text [] judge → IsReadTo plan text 0 judge
read_none plan text judge judged = record {
  journal = [];
  writable = λ k d h. absurd (omega arith);
  read = refl;
  judged = judged;
  within = omega arith;
  few = let none = judged.many in omega arith;
}

pub bad_line : (plan : Plan) (text : List ℕ) (at end n : ℕ) (judge : Judge) → IsPlan plan → IsReadTo plan text at judge → at < length text →
    IsLine (drop at text) (take (end - at) (drop at text)) → ((e : Entry) → IsWritable plan e → take (end - at) (drop at text) ≢ line_of plan e) →
    n ≡ judge.count + 1 → IsBadLine plan text n
bad_line plan text at end n judge is so_far less line none number = record {
  journal = so_far.journal;
  rest = drop at text;
  writable = so_far.writable;
  whole = so_far.read;
  number = number ∙ ap (λ m. m + 1) (so_far.judged.many);
  some = λ empty. let long = length-drop at text in let nothing = ap length empty in absurd (omega arith);
  none = begins_with_none plan (drop at text) (take (end - at) (drop at text)) (drop (end - at) (drop at text)) is line
      (sym (take-append-drop (end - at) (drop at text))) none;
}

pub all_read : (plan : Plan) (text : List ℕ) (at : ℕ) (judge : Judge) (verdict : Verdict) → (so_far : IsReadTo plan text at judge) → length text ≤ at →
    IsVerdictOn plan so_far.journal verdict → Says plan text (Ok verdict)
all_read plan text at judge verdict so_far over on = by verdict on
  where
    written : IsJournalText plan text so_far.journal
    written = record {
      writable = so_far.writable;
      written = so_far.read ∙ ap (λ l. journal_text plan so_far.journal ++ l) (drop_all at text over) ∙ append-nil (journal_text plan so_far.journal);
    }

    by : (v : Verdict) → IsVerdictOn plan so_far.journal v → Says plan text (Ok v)
    by (Legal n) is = record { journal = so_far.journal; written = written; many = is.0; run = is.1; good = is.2 }
    by (Illegal n) is = record { journal = so_far.journal; written = written; before = is.0; number = is.1; fails = is.2 }
