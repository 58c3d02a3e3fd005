-- What words ask for, by the value of each item.
use Rattle.std.proofs.Common.{◌≡◌, ◌<◌, ◌≤◌, ◌+◌, ℕ, suc, ◌||◌, Bool, true, false, cond, not, List, [], ◌∷◌, ◌++◌, codes, filter, get_or, length, take, Option, Some, None, refl, sym, ap, ◌∙◌, arith}
use Rattle.std.proofs.lemmas.List.{map-append, take_all, take_more}
use Rattle.std.proofs.lemmas.List.Elements.{filter-append}
use Rattle.std.specs.Borrow.{Bor}
use Rattle.std.specs.List.{list_any, position_or_len}
use Rattle.std.specs.Option.{option_and_then}
use Rattle.std.specs.Str.{bytes_eq}
use Rattle.pl_inputs.specs.Met.{texts}
use Rattle.pl_inputs.specs.Words.{Asked, Given, value_if_given, value_in}
use Rattle.pl_watch_run.specs.Words.{asked_by, asked_with, files_by, files_with, is_json}

abbrev pub value : Option (List Given) → List ℕ → Option (List ℕ)
value items name = option_and_then (value_in name) items

abbrev pub may : Option (List Given) → List ℕ → Option (Option (List ℕ))
may items name = option_and_then (value_if_given name) items

pub files_are : (items : Option (List Given)) (t s c : Option (List ℕ)) → t ≡ value items (codes "--topology") → s ≡ value items (codes "--script") →
    c ≡ value items (codes "--captures") → files_with t s c ≡ option_and_then files_by items
files_are None t s c is_t is_s is_c = ap (λ x. files_with x s c) is_t
files_are (Some items) t s c is_t is_s is_c =
    ap (λ x. files_with x s c) is_t
    ∙ ap (λ x. files_with (value_in (codes "--topology") items) x c) is_s
    ∙ ap (λ x. files_with (value_in (codes "--topology") items) (value_in (codes "--script") items) x) is_c

pub asked_are : (json : Bool) (items : Option (List Given)) (out of kind lines : Option (Option (List ℕ))) (files : Option Asked) →
    out ≡ may items (codes "--out") → files ≡ option_and_then files_by items → of ≡ may items (codes "--of") → kind ≡ may items (codes "--kind") →
    lines ≡ may items (codes "--lines") → asked_with json out files of kind lines ≡ option_and_then (asked_by json) items
asked_are json None out of kind lines files is_out is_files is_of is_kind is_lines = ap (λ x. asked_with json x files of kind lines) is_out
asked_are json (Some items) out of kind lines files is_out is_files is_of is_kind is_lines =
    ap (λ x. asked_with json x files of kind lines) is_out
    ∙ ap (λ x. asked_with json (value_if_given (codes "--out") items) x of kind lines) is_files
    ∙ ap (λ x. asked_with json (value_if_given (codes "--out") items) (files_by items) x kind lines) is_of
    ∙ ap (λ x. asked_with json (value_if_given (codes "--out") items) (files_by items) (value_if_given (codes "--of") items) x lines) is_kind
    ∙ ap (λ x. asked_with json (value_if_given (codes "--out") items) (files_by items) (value_if_given (codes "--of") items) (value_if_given (codes "--kind") items) x) is_lines

-- whether --json is among the words
pub any_json : (words : List (Bor (List ℕ))) → list_any (λ w. bytes_eq w.now (codes "--json")) words ≡ list_any is_json (texts words)
any_json [] = refl
any_json (w ∷ words) = ap (λ t. bytes_eq w.now (codes "--json") || t) (any_json words)

-- whether something in a list passes a test, by where the first such thing stands
pub any_before_end : {X : Type 0} (p : X → Bool) (xs : List X) → position_or_len p xs < length xs → list_any p xs ≡ true
any_before_end p [] less = absurd (omega arith)
any_before_end p (x ∷ xs) less = elim (p x) as (λ t. cond (not t) (1 + position_or_len p xs) 0 < suc (length xs) → (t || list_any p xs) ≡ true) [
  | true ↦ λ h. refl
  | false ↦ λ h. any_before_end p xs (omega arith)
] less

pub none_at_end : {X : Type 0} (p : X → Bool) (xs : List X) → position_or_len p xs ≡ length xs → list_any p xs ≡ false
none_at_end p [] end = refl
none_at_end p (x ∷ xs) end = elim (p x) as (λ t. cond (not t) (1 + position_or_len p xs) 0 ≡ suc (length xs) → (t || list_any p xs) ≡ false) [
  | true ↦ λ h. absurd (omega arith)
  | false ↦ λ h. none_at_end p xs (omega arith)
] end

-- ---- the words but for --json

abbrev pub plain : List ℕ → Bool
plain word = not (is_json word)

pub plain_more : (words : List (Bor (List ℕ))) (n : ℕ) (d : Bor (List ℕ)) (before after : List (List ℕ)) → n < length words →
    before ≡ filter plain (texts (take n words)) → after ≡ before ++ filter plain ((get_or words n d).now ∷ []) →
    after ≡ filter plain (texts (take (n + 1) words))
plain_more words n d before after within was is =
    is ∙ ap (λ xs. xs ++ filter plain ((get_or words n d).now ∷ [])) was
    ∙ sym (filter-append plain (texts (take n words)) ((get_or words n d).now ∷ []))
    ∙ ap (filter plain) (sym (map-append (λ w. w.now) (take n words) (get_or words n d ∷ [])))
    ∙ ap (λ (ws : List (Bor (List ℕ))). filter plain (texts ws)) (sym (take_more words n d within))

pub plain_all : (words : List (Bor (List ℕ))) (n : ℕ) (whole : List (List ℕ)) → length words ≤ n → whole ≡ filter plain (texts (take n words)) →
    whole ≡ filter plain (texts words)
plain_all words n whole past was = was ∙ ap (λ (ws : List (Bor (List ℕ))). filter plain (texts ws)) (take_all n words past)
