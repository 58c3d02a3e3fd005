-- The first line of a file.
use Rattle.std.proofs.Common.{◌≡◌, ℕ, ◌+◌, ◌<◌, ◌≤◌, Bool, true, false, cond, List, [], ◌∷◌, length, take, drop, Option, Some, None, Err, refl, sym, ap, ◌∙◌, inl, inr, arith}
use Rattle.std.specs.List.{onto_first, position, position_or_len, slice_split}
use Rattle.std.proofs.lemmas.Bool.{cases_lt, le-ltb, lt-ltb, false_from_ne_true}
use Rattle.std.proofs.lemmas.List.Splits.{slice_split_first, slice_split_none}
use Rattle.std.proofs.lemmas.List.Sums.{fails_before_first, position_or_len_is}
use Rattle.std.specs.Str.{IsUtf8, is_utf8}
use Rattle.std.specs.Str.Lines.{strip_carriage_return}
use Rattle.std.proofs.lemmas.Str.{IsUtf8-from_is_utf8, is_utf8-from_IsUtf8}
use Rattle.memchr.specs.Find.{is_byte, IsFirstByte}
use Rattle.pl_wiring.specs.Plan.{Plan}
use Rattle.pl_script.specs.Meaning.{command_in, command_in_text}
use Rattle.pl_script.specs.Texts.{is_newline, lines_of, without_empty_last}
use Rattle.pl_script.specs.declared.error.ScriptReason.TheVariants as reason

-- a line that stands before other parts is a line, whatever is in it
onto : (line : List ℕ) (byte : ℕ) (parts : List (List ℕ)) →
    without_empty_last (line ∷ onto_first byte parts) ≡ line ∷ without_empty_last (onto_first byte parts)
onto line byte [] = refl
onto line byte (part ∷ parts) = refl

ended_at : (line : List ℕ) (byte : ℕ) (bytes : List ℕ) (r : Bool) →
    without_empty_last (line ∷ cond r ([] ∷ slice_split is_newline bytes) (onto_first byte (slice_split is_newline bytes)))
    ≡ line ∷ without_empty_last (cond r ([] ∷ slice_split is_newline bytes) (onto_first byte (slice_split is_newline bytes)))
ended_at line byte bytes true = refl
ended_at line byte bytes false = onto line byte (slice_split is_newline bytes)

ended : (line bytes : List ℕ) → without_empty_last (line ∷ slice_split is_newline bytes) ≡ line ∷ lines_of bytes
ended line [] = refl
ended line (byte ∷ bytes) = ended_at line byte bytes (is_newline byte)

-- the first index that passes, by what `position` gives
first_at : (file : List ℕ) (n : ℕ) → position is_newline file ≡ Some n → (position_or_len is_newline file < length file) × (position_or_len is_newline file ≡ n)
first_at file n found = elim (cases_lt (position_or_len is_newline file) (length file)) [
  | inl less ↦ (
      let at : position is_newline file ≡ Some (position_or_len is_newline file) =
      ap (λ t. cond t (Some (position_or_len is_newline file)) None) (lt-ltb (position_or_len is_newline file) (length file) less) in
      let same : Some (position_or_len is_newline file) ≡ Some n = sym at ∙ found in
      (less, cc))
  | inr past ↦ (
      let at : position is_newline file ≡ None =
      ap (λ t. cond t (Some (position_or_len is_newline file)) None) (le-ltb (position_or_len is_newline file) (length file) past) in
      let none : None ≡ Some n = sym at ∙ found in
      cc)
]

nowhere : (file : List ℕ) → position is_newline file ≡ None → length file ≤ position_or_len is_newline file
nowhere file none = elim (cases_lt (position_or_len is_newline file) (length file)) [
  | inl less ↦ (
      let at : position is_newline file ≡ Some (position_or_len is_newline file) =
      ap (λ t. cond t (Some (position_or_len is_newline file)) None) (lt-ltb (position_or_len is_newline file) (length file) less) in
      let other : None ≡ Some (position_or_len is_newline file) = sym none ∙ at in
      cc)
  | inr past ↦ past
]

-- the first newline that a search finds is the first index that passes
pub newline_found : (file : List ℕ) (r : Option ℕ) → IsFirstByte (is_byte 10) file r → r ≡ position is_newline file
newline_found file None none =
    let at : position_or_len is_newline file ≡ length file =
    position_or_len_is is_newline file (length file) 0 (omega arith) (λ k less. false_from_ne_true _ (none k (omega arith) less)) (λ less. absurd (omega arith)) in
    sym (ap (λ t. cond t (Some (position_or_len is_newline file)) None) (le-ltb (position_or_len is_newline file) (length file) (omega (arith, at))))
newline_found file (Some n) first =
    let at : position_or_len is_newline file ≡ n =
    position_or_len_is is_newline file n 0 (omega (arith, first.0.high)) (λ k less. false_from_ne_true _ (first.0.before k (omega arith) less)) (λ less. first.1) in
    let less : position_or_len is_newline file < length file = omega (arith, at, first.0.high) in
    ap Some (sym at)
    ∙ sym (ap (λ t. cond t (Some (position_or_len is_newline file)) None) (lt-ltb (position_or_len is_newline file) (length file) less))

pub lines_of-first : (file : List ℕ) (n : ℕ) → position is_newline file ≡ Some n → lines_of file ≡ take n file ∷ lines_of (drop (n + 1) file)
lines_of-first file n found =
    let parts = first_at file n found in
    ap without_empty_last (slice_split_first is_newline file 0 parts.0)
    ∙ ended (take (position_or_len is_newline file) file) (drop (position_or_len is_newline file + 1) file)
    ∙ ap (λ n. take n file ∷ lines_of (drop (n + 1) file)) parts.1

pub lines_of-last : (file : List ℕ) → 0 < length file → position is_newline file ≡ None → lines_of file ≡ file ∷ []
lines_of-last [] some none = absurd (omega arith)
lines_of-last (byte ∷ bytes) some none =
    let past : length (byte ∷ bytes) ≤ position_or_len is_newline (byte ∷ bytes) = nowhere (byte ∷ bytes) none in
    ap without_empty_last (slice_split_none is_newline (byte ∷ bytes)
    (λ k d less. fails_before_first is_newline (byte ∷ bytes) k d (omega arith)))

pub command_in-utf8 : (plan : Plan) (line text : List ℕ) → text ≡ strip_carriage_return line → IsUtf8 (strip_carriage_return line) →
    command_in_text plan text ≡ command_in plan line
unfolding command_in
command_in-utf8 plan line text same utf8 =
    ap (command_in_text plan) same
    ∙ sym (ap (λ t. cond t (command_in_text plan (strip_carriage_return line)) (Err reason.NotUtf8)) (is_utf8-from_IsUtf8 (strip_carriage_return line) utf8))

pub command_in-other : (plan : Plan) (line : List ℕ) → (IsUtf8 (strip_carriage_return line) → ⊥) → Err reason.NotUtf8 ≡ command_in plan line
unfolding command_in
command_in-other plan line other =
    sym (ap (λ t. cond t (command_in_text plan (strip_carriage_return line)) (Err reason.NotUtf8))
    (false_from_ne_true (is_utf8 (strip_carriage_return line)) (λ yes. other (IsUtf8-from_is_utf8 (strip_carriage_return line) yes))))
