-- The first word of a text.
use Rattle.std.proofs.Common.{◌≡◌, ◌≢◌, ℕ, suc, ◌+◌, ◌-◌, ◌<◌, ◌≤◌, Bool, true, false, not, cond, eqb, List, [], ◌∷◌, length, take, drop, get_or, Some, None, refl, sym, ap, ◌∙◌, subst, inl, inr, arith, drop-cons}
use Rattle.std.specs.List.{filter, position, position_or_len, slice_split}
use Rattle.std.specs.Option.{unwrap_or}
use Rattle.std.specs.Str.{IsUtf8, IsCharBoundary}
use Rattle.std.proofs.lemmas.Bool.{cases_lt, eqb-true, le-ltb, lt-ltb, not-false, not-true, or_cases}
use Rattle.std.proofs.lemmas.List.{drop_all, get_or-drop, length-take-le, take_all}
use Rattle.std.proofs.lemmas.List.Splits.{slice_split-cons_yes, slice_split_first, slice_split_none}
use Rattle.std.proofs.lemmas.List.Sums.{fails_before_first, passes_at_first, prefix_len-le-length}
use Rattle.std.proofs.lemmas.Str.{IsCharBoundary-after_ascii, IsCharBoundary-before_ascii, IsCharBoundary-end}
use Rattle.pl_script.specs.Texts.{is_blank, is_some_text, words_of}

-- the first index that passes, or the length where there is none
pub unwrap_or_position : {X : Type 0} (p : X → Bool) (xs : List X) → unwrap_or (position p xs) (length xs) ≡ position_or_len p xs
unwrap_or_position p xs =
    elim (cases_lt (position_or_len p xs) (length xs)) [
      | inl less ↦ ap (λ t. unwrap_or (cond t (Some (position_or_len p xs)) None) (length xs)) (lt-ltb (position_or_len p xs) (length xs) less)
      | inr past ↦ ap (λ t. unwrap_or (cond t (Some (position_or_len p xs)) None) (length xs)) (le-ltb (position_or_len p xs) (length xs) past)
          ∙ omega (arith, prefix_len-le-length (λ x. not (p x)) xs)
    ]

blank_is_ascii : (byte : ℕ) → is_blank byte ≡ true → byte < 128
blank_is_ascii byte blank = elim (or_cases (eqb byte 32) (eqb byte 9) blank) [
  | inl space ↦ (let is : byte ≡ 32 = eqb-true byte 32 space in omega arith)
  | inr tab ↦ (let is : byte ≡ 9 = eqb-true byte 9 tab in omega arith)
]

-- where the first word of a text begins
abbrev pub start : List ℕ → ℕ
start text = position_or_len (λ byte. not (is_blank byte)) text

words_of-blank : (byte : ℕ) (bytes : List ℕ) → is_blank byte ≡ true → words_of (byte ∷ bytes) ≡ words_of bytes
words_of-blank byte bytes blank = ap (filter is_some_text) (slice_split-cons_yes is_blank byte bytes blank)

step : (byte : ℕ) (bytes : List ℕ) (r : Bool) → is_blank byte ≡ r → words_of (drop (start bytes) bytes) ≡ words_of bytes →
    words_of (drop (start (byte ∷ bytes)) (byte ∷ bytes)) ≡ words_of (byte ∷ bytes)
step byte bytes true blank before =
    let one : 1 + start bytes ≡ suc (start bytes) = omega arith in
    ap (λ t. words_of (drop (cond (not (not t)) (1 + start bytes) 0) (byte ∷ bytes))) blank
    ∙ ap (λ n. words_of (drop n (byte ∷ bytes))) one ∙ before ∙ sym (words_of-blank byte bytes blank)
step byte bytes false other before = ap (λ t. words_of (drop (cond (not (not t)) (1 + start bytes) 0) (byte ∷ bytes))) other

pub words_of-start : (text : List ℕ) → words_of (drop (start text) text) ≡ words_of text
words_of-start [] = refl
words_of-start (byte ∷ bytes) = step byte bytes (is_blank byte) refl (words_of-start bytes)

pub begins_with_word : (text : List ℕ) → drop (start text) text ≢ [] → is_blank (get_or (drop (start text) text) 0 0) ≡ false
begins_with_word text some = elim (cases_lt (start text) (length text)) [
  | inl less ↦ (
      let here : not (is_blank (get_or text (start text) 0)) ≡ true = passes_at_first (λ byte. not (is_blank byte)) text 0 less in
      let at : start text + 0 ≡ start text = omega arith in
      ap is_blank (get_or-drop (start text) text 0 0 ∙ ap (λ n. get_or text n 0) at) ∙ not-true _ here)
  | inr past ↦ absurd (some (drop_all (start text) text past))
]

pub cut_at_start : (text : List ℕ) → IsUtf8 text → 0 < start text → IsCharBoundary text (start text)
cut_at_start text utf8 positive =
    let within : start text ≤ length text = prefix_len-le-length (λ byte. not (not (is_blank byte))) text in
    let below : start text - 1 < start text = omega arith in
    let blank : is_blank (get_or text (start text - 1) 0) ≡ true =
    not-false _ (fails_before_first (λ byte. not (is_blank byte)) text (start text - 1) 0 below) in
    let at : start text - 1 + 1 ≡ start text = omega arith in
    subst (λ n. IsCharBoundary text n) at
    (IsCharBoundary-after_ascii text (start text - 1) utf8 (omega arith) (blank_is_ascii _ blank))

pub cut_at_end : (text : List ℕ) → IsCharBoundary text (position_or_len is_blank text)
cut_at_end text = elim (cases_lt (position_or_len is_blank text) (length text)) [
  | inl less ↦ IsCharBoundary-before_ascii text (position_or_len is_blank text) less (blank_is_ascii _ (passes_at_first is_blank text 0 less))
  | inr past ↦ (
      let at : length text ≡ position_or_len is_blank text = omega (arith, prefix_len-le-length (λ byte. not (is_blank byte)) text) in
      subst (λ n. IsCharBoundary text n) at (IsCharBoundary-end text))
]

kept : (word : List ℕ) (words : List (List ℕ)) → 0 < length word → filter is_some_text (word ∷ words) ≡ word ∷ filter is_some_text words
kept [] words some = absurd (omega arith)
kept (byte ∷ bytes) words some = refl

-- a text that begins with a word has a first blank behind it, or none
longer : (text : List ℕ) → 0 < length text → is_blank (get_or text 0 0) ≡ false → 0 < position_or_len is_blank text
longer [] some other = absurd (omega arith)
longer (byte ∷ bytes) some other =
    let at : position_or_len is_blank (byte ∷ bytes) ≡ 1 + position_or_len is_blank bytes =
    ap (λ t. cond (not t) (1 + position_or_len is_blank bytes) 0) other in
    omega arith

pub words_of-word : (text : List ℕ) → 0 < length text → is_blank (get_or text 0 0) ≡ false →
    words_of text ≡ take (position_or_len is_blank text) text ∷ words_of (drop (position_or_len is_blank text) text)
words_of-word text some other =
    let positive : 0 < position_or_len is_blank text = longer text some other in
    let within : position_or_len is_blank text ≤ length text = prefix_len-le-length (λ byte. not (is_blank byte)) text in
    elim (cases_lt (position_or_len is_blank text) (length text)) [
      | inl less ↦ (
          let long : 0 < length (take (position_or_len is_blank text) text) =
          omega (arith, length-take-le (position_or_len is_blank text) text within) in
          let behind : words_of (drop (position_or_len is_blank text) text) ≡ words_of (drop (position_or_len is_blank text + 1) text) =
          ap words_of (drop-cons text (position_or_len is_blank text) 0 less)
          ∙ words_of-blank (get_or text (position_or_len is_blank text) 0) (drop (suc (position_or_len is_blank text)) text)
          (passes_at_first is_blank text 0 less)
          ∙ (let next : suc (position_or_len is_blank text) ≡ position_or_len is_blank text + 1 = omega arith in
          ap (λ n. words_of (drop n text)) next) in
          ap (filter is_some_text) (slice_split_first is_blank text 0 less)
          ∙ kept (take (position_or_len is_blank text) text) (slice_split is_blank (drop (position_or_len is_blank text + 1) text)) long
          ∙ ap (λ words. take (position_or_len is_blank text) text ∷ words) (sym behind))
      | inr past ↦
          ap (filter is_some_text) (slice_split_none is_blank text (λ k d less. fails_before_first is_blank text k d (omega arith)))
          ∙ kept text [] some
          ∙ ap (λ word. word ∷ []) (sym (take_all (position_or_len is_blank text) text past))
          ∙ ap (λ rest. take (position_or_len is_blank text) text ∷ words_of rest) (sym (drop_all (position_or_len is_blank text) text past))
    ]
