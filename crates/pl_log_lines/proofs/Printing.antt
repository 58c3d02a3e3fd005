-- What is printed one thing behind the other.
use Rattle.std.specs.List.{filter_map}
use Rattle.std.proofs.Common.{◌≡◌, ◌<◌, ◌≤◌, ◌+◌, ℕ, get_or, length, take, Option, None, Some, option_map, option_to_list, Bool, true, false, List, [], ◌∷◌, ◌++◌, codes, Result, Ok, Err, OnOk, is_err, is_ok, zero, suc, arith, refl, sym, ap, ◌∙◌, subst}
use Rattle.std.proofs.lemmas.List.{append_assoc, append-nil, take_all, take_more}
use Rattle.std.proofs.lemmas.List.Elements.{filter_map-append}
use Rattle.std.proofs.lemmas.List.Concat.{flat_map-append}
use Rattle.pl_shelf.specs.Faults.{CountsWrites, Rose}
use Rattle.pl_shelf.specs.Held.{Changes, Held, ShelfMoment, absent, holds, standard_output, unknown, with_end}
use Rattle.pl_shelf.proofs.Exports.{with_end-none}
use Rattle.pl_output.specs.Printed.{IsPrinted}
use Rattle.pl_log_lines.specs.Pages.{PageView, Prints, behind, line_begin, line_end, more_words}
use Rattle.pl_log_lines.specs.Rows.{behind_comma, line_text, quoted}

-- what was put at the end one behind the other
pub ends_joined : (held : Held) (first rest : List ℕ) → with_end (with_end held first) rest ≡ with_end held (first ++ rest)
ends_joined unknown first rest = refl
ends_joined absent [] rest = refl
ends_joined absent (b ∷ first) rest = refl
ends_joined (holds bytes) first rest = ap holds (append_assoc bytes first rest)

pub prints_nothing : (v : PageView) → Prints v v []
prints_nothing v = record { form = refl; before = λ fine. fine; printed = λ fine. sym (with_end-none v.text) }

pub prints_then : (old mid new : PageView) (first rest : List ℕ) → Prints old mid first → Prints mid new rest → Prints old new (first ++ rest)
prints_then old mid new first rest a b = record {
  form = b.form ∙ a.form;
  before = λ fine. a.before (b.before fine);
  printed = λ fine. b.printed fine ∙ ap (λ text. with_end text rest) (a.printed (b.before fine)) ∙ ends_joined old.text first rest;
}

-- after a write that failed nothing more is said
pub failed_prints : (v new : PageView) (text : List ℕ) → new ≡ v → v.failed ≡ true → Prints v new text
failed_prints v new text same failed = subst (λ (w : PageView). Prints v w text) (sym same)
    (record { form = refl; before = λ fine. fine; printed = λ fine. absurd (cc) })

-- what a piece printed stands behind what the shelf and the piece held
printed_behind : (old new : List ℕ → Held) (before after text : List ℕ) → IsPrinted old new standard_output before after text →
    with_end (new standard_output) after ≡ with_end (with_end (old standard_output) before) text
printed_behind old new before after text is =
    ap (λ held. with_end held after) is.changes.named
    ∙ ends_joined (old standard_output) is.sent after
    ∙ ap (with_end (old standard_output)) (sym is.whole)
    ∙ sym (ends_joined (old standard_output) before text)

pub piece_prints : {T E : Type 0} (v new : PageView) (r : Result T E) (old now : List ℕ → Held) (before after text : List ℕ) →
    v.text ≡ with_end (old standard_output) before → v.failed ≡ false → new.json ≡ v.json → new.text ≡ with_end (now standard_output) after →
    new.failed ≡ is_err r → OnOk r (IsPrinted old now standard_output before after text) → Prints v new text
piece_prints v new (Ok done) old now before after text is fine form has whether sent = record {
  form = form;
  before = λ still. fine;
  printed = λ still. has ∙ printed_behind old now before after text sent ∙ ap (λ held. with_end held text) (sym is);
}
piece_prints v new (Err e) old now before after text is fine form has whether sent = record { form = form; before = λ still. fine; printed = λ still. absurd (cc) }

-- once the piece was sent, all that was printed is on the shelf
pub all_sent : {T E : Type 0} (v : PageView) (r : Result T E) (old now : List ℕ → Held) (piece : List ℕ) → v.text ≡ with_end (old standard_output) piece →
    OnOk r (Changes old now standard_output (with_end (old standard_output) piece)) → is_ok r ≡ true → now standard_output ≡ v.text
all_sent v (Ok done) old now piece is sent ok = sent.named ∙ sym is
all_sent v (Err e) old now piece is sent ok = absurd (cc)

-- a write that failed is one that the shelf has counted
risen : (old new : ℕ) → Rose old new → 0 < new
risen old zero rose = let less : old < 0 = rose (omega arith) in absurd (omega (arith, less))
risen old (suc n) rose = omega arith

pub write_failed : {T E : Type 0} (r : Result T E) (old new : ShelfMoment) → CountsWrites r old new → is_err r ≡ true → 0 < new.write_faults
write_failed (Ok done) old new counts failed = absurd (cc)
write_failed (Err e) old new counts failed = risen old.write_faults new.write_faults counts.err

pub not_written : {T E : Type 0} (r : Result T E) (old new : ShelfMoment) → CountsWrites r old new → is_ok r ≡ false → 0 < new.write_faults
not_written (Ok done) old new counts failed = absurd (cc)
not_written (Err e) old new counts failed = risen old.write_faults new.write_faults counts.err

-- a piece in which nothing stands
pub nothing_printed : (held : Held) (piece : List ℕ) → piece ≡ [] → with_end held piece ≡ held
nothing_printed held piece none = ap (with_end held) none ∙ with_end-none held

-- ---- words

pub quote_prints : (old a b new : PageView) (word : List ℕ) → Prints old a (34 ∷ []) → Prints a b word → Prints b new (34 ∷ []) → Prints old new (quoted word)
quote_prints old a b new word opens says closes =
    prints_then old a new (34 ∷ []) (word ++ 34 ∷ []) opens (prints_then a b new word (34 ∷ []) says closes)

next_as : (json is : Bool) (word text : List ℕ) → json ≡ is → behind is word ≡ text → text ≡ behind json word
next_as json is word text same spells = sym (ap (λ j. behind j word) same ∙ spells)

pub next_plain : (old a new : PageView) (word : List ℕ) → old.json ≡ false → Prints old a (codes " ") → Prints a new word → Prints old new (behind old.json word)
next_plain old a new word plain blank says =
    subst (Prints old new) (next_as old.json false word (codes " " ++ word) plain refl) (prints_then old a new (codes " ") word blank says)

pub next_quoted : (old a new : PageView) (word : List ℕ) → old.json ≡ true → Prints old a (codes ",") → Prints a new (quoted word) → Prints old new (behind old.json word)
next_quoted old a new word json comma says =
    subst (Prints old new) (next_as old.json true word (codes "," ++ quoted word) json refl) (prints_then old a new (codes ",") (quoted word) comma says)

-- a word that is there, or none
pub one_more : (old new : PageView) (word : List ℕ) → Prints old new (behind old.json word) → Prints old new (more_words old.json (word ∷ []))
one_more old new word next = subst (Prints old new) (sym (append-nil (behind old.json word))) next

-- what is printed of the rest from here on gives the whole from the start
pub words_then : (old mid new : PageView) (json : Bool) (first rest : List (List ℕ)) → old.json ≡ json → Prints old mid (more_words old.json first) →
    Prints mid new (more_words json rest) → Prints old new (more_words json (first ++ rest))
words_then old mid new json first rest form a b =
    subst (Prints old new) (sym (flat_map-append (behind json) first rest))
    (prints_then old mid new (more_words json first) (more_words json rest) (subst (λ j. Prints old mid (more_words j first)) form a) b)

pub more_then : (old mid new : PageView) (word : List ℕ) (rest : List (List ℕ)) → Prints old mid (behind old.json word) → Prints mid new (more_words mid.json rest) →
    Prints old new (more_words old.json (word ∷ rest))
more_then old mid new word rest a b =
    prints_then old mid new (behind old.json word) (more_words old.json rest) a (subst (λ json. Prints mid new (more_words json rest)) a.form b)

-- words, or fields, that are printed one by one
abbrev pub those_there : {T : Type 0} → (T → List ℕ) → List (Option T) → List (List ℕ)
those_there text items = filter_map (option_map text) items

one_there : {T : Type 0} (text : T → List ℕ) (item : Option T) → those_there text (item ∷ []) ≡ option_to_list (option_map text item)
one_there text None = refl
one_there text (Some item) = refl

pub words_on : {T : Type 0} (text : T → List ℕ) (start now next : PageView) (items : List (Option T)) (i : ℕ) (d : Option T) → i < length items →
    Prints start now (more_words start.json (those_there text (take i items))) →
    Prints now next (more_words now.json (option_to_list (option_map text (get_or items i d)))) →
    Prints start next (more_words start.json (those_there text (take (i + 1) items)))
words_on {T = T} text start now next items i d within before prints =
    let item = get_or items i d in
    subst (λ (xs : List (Option T)). Prints start next (more_words start.json (those_there text xs))) (sym (take_more items i d within))
    (subst (λ words. Prints start next (more_words start.json words))
    (ap (λ words. those_there text (take i items) ++ words) (sym (one_there text item)) ∙ sym (filter_map-append (option_map text) (take i items) (item ∷ [])))
    (words_then start now next start.json (those_there text (take i items)) (option_to_list (option_map text item)) refl before
    (subst (λ json. Prints now next (more_words json (option_to_list (option_map text item)))) before.form prints)))

pub words_end : {T : Type 0} (text : T → List ℕ) (start now : PageView) (items : List (Option T)) (i : ℕ) → length items ≤ i →
    Prints start now (more_words start.json (those_there text (take i items))) → Prints start now (more_words start.json (those_there text items))
words_end {T = T} text start now items i past prints =
    subst (λ (xs : List (Option T)). Prints start now (more_words start.json (those_there text xs))) (take_all i items past) prints

-- ---- lines

regroup : (a b c d : List ℕ) → (a ++ b) ++ (c ++ d) ≡ a ++ ((b ++ c) ++ d)
regroup a b c d = append_assoc a b (c ++ d) ∙ ap (λ rest. a ++ rest) (sym (append_assoc b c d))

line_of_parts : (json : Bool) (mark sort first : List ℕ) (rest : List (List ℕ)) →
    line_begin json mark sort first ++ (more_words json rest ++ line_end json) ≡ line_text json mark sort (first ∷ rest)
line_of_parts true mark sort first rest = ap (λ text. codes "[" ++ text) (regroup (quoted sort) (behind_comma first) (more_words true rest) (codes "]\n"))
line_of_parts false mark sort first rest = regroup mark first (more_words false rest) (codes "\n")

pub line_prints : (old a b new : PageView) (mark sort first : List ℕ) (rest : List (List ℕ)) → Prints old a (line_begin old.json mark sort first) →
    Prints a b (more_words a.json rest) → Prints b new (line_end b.json) → Prints old new (line_text old.json mark sort (first ∷ rest))
line_prints old a b new mark sort first rest begins goes ends =
    let going : Prints a b (more_words old.json rest) = subst (λ json. Prints a b (more_words json rest)) begins.form goes in
    let ending : Prints b new (line_end old.json) = subst (λ json. Prints b new (line_end json)) (goes.form ∙ begins.form) ends in
    subst (Prints old new) (line_of_parts old.json mark sort first rest)
    (prints_then old a new (line_begin old.json mark sort first) (more_words old.json rest ++ line_end old.json) begins
    (prints_then a b new (more_words old.json rest) (line_end old.json) going ending))

pub begins_plain : (old a new : PageView) (mark sort first : List ℕ) → old.json ≡ false → Prints old a mark → Prints a new first →
    Prints old new (line_begin old.json mark sort first)
begins_plain old a new mark sort first plain marks says =
    subst (λ json. Prints old new (line_begin json mark sort first)) (sym plain) (prints_then old a new mark first marks says)

pub begins_json : (old a b new : PageView) (mark sort first : List ℕ) → old.json ≡ true → Prints old a (codes "[") → Prints a b (quoted sort) →
    Prints b new (behind b.json first) → Prints old new (line_begin old.json mark sort first)
begins_json old a b new mark sort first json opens sorts says =
    let is : b.json ≡ true = sorts.form ∙ opens.form ∙ json in
    let next : Prints b new (behind_comma first) = subst (λ j. Prints b new (behind j first)) is says in
    subst (λ j. Prints old new (line_begin j mark sort first)) (sym json)
    (prints_then old a new (codes "[") (quoted sort ++ behind_comma first) opens (prints_then a b new (quoted sort) (behind_comma first) sorts next))

-- ---- an address, with points between its numbers

points : (a b c d p : List ℕ) → a ++ p ++ b ++ p ++ c ++ p ++ d ≡ a ++ ((p ++ b) ++ ((p ++ c) ++ (p ++ d)))
points a b c d p =
    append_assoc (a ++ p ++ b ++ p ++ c) p d
    ∙ ap (λ text. text ++ (p ++ d)) (append_assoc (a ++ p ++ b) p c ∙ ap (λ text. text ++ (p ++ c)) (append_assoc a p b))
    ∙ append_assoc (a ++ (p ++ b)) (p ++ c) (p ++ d)
    ∙ append_assoc a (p ++ b) ((p ++ c) ++ (p ++ d))

pub pointed : (old x y z new : PageView) (a b c d p : List ℕ) → Prints old x a → Prints x y (p ++ b) → Prints y z (p ++ c) → Prints z new (p ++ d) →
    Prints old new (a ++ p ++ b ++ p ++ c ++ p ++ d)
pointed old x y z new a b c d p first second third fourth =
    subst (Prints old new) (sym (points a b c d p))
    (prints_then old x new a ((p ++ b) ++ ((p ++ c) ++ (p ++ d))) first
    (prints_then x y new (p ++ b) ((p ++ c) ++ (p ++ d)) second (prints_then y z new (p ++ c) (p ++ d) third fourth)))
