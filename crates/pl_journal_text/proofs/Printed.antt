-- A line is printed characters and blanks, and its newline.
use Rattle.std.proofs.Common.{◌≡◌, ℕ, zero, suc, ◌^◌, ◌<◌, ◌&&◌, nat_lt, Bool, true, List, [], ◌∷◌, ◌++◌, length, slice_index, codes, decimal, refl, ap, ◌∙◌, arith, append-nil}
use Rattle.std.specs.List.{list_all}
use Rattle.std.specs.Str.{IsAscii, IsUtf8}
use Rattle.std.proofs.lemmas.Bool.{and_from, and_parts, lt-ltb, ltb-true}
use Rattle.std.proofs.lemmas.List.Folds.{list_all-append}
use Rattle.std.proofs.lemmas.Str.{IsAscii-append, IsUtf8-from_ascii}
use Rattle.pl_wiring.specs.Plan.{IsPlan, Plan}
use Rattle.hex.specs.Hex.{encode_lower}
use Rattle.pl_journal.specs.Text.{address_text, cause_text, host_text, line_of, part_text, skip_text, switch_text}
use Rattle.pl_journal.specs.declared.entry.Entry.{Entry}
use Rattle.pl_journal.specs.declared.entry.Entry.TheVariants.{Line, Sent, Skipped, Made, Crossed, Redirected, Copied, Arrived, Taken, Dropped, Granted, Registered, Freed, Placed, LinkDown, LinkUp, Moved, Restarted, Settled, Unsettled}
use Rattle.pl_journal_text.specs.declared.verb.Verb.{Verb}
use Rattle.pl_journal_text.specs.declared.verb.Verb.TheVariants as verbs
use Rattle.pl_journal_text.specs.Fields.{fields_text}
use Rattle.pl_journal_text.specs.Ink.{AreInk, address_ink, byte_within, short_within, cause_ink, decimal_ink, frame_ink, host_ink, is_ink, part_ink, skip_ink, switch_ink}
use Rattle.pl_journal_text.specs.Reading.{IsFree}
use Rattle.pl_journal_text.specs.Verbs.{verb_of, verb_text}
use Rattle.pl_journal_text.specs.Writable.{IsWritable}

abbrev is_printed : ℕ → Bool
is_printed byte = nat_lt 31 byte && nat_lt byte 127

abbrev pub ArePrinted : List ℕ → Type 0
ArePrinted text = list_all is_printed text ≡ true

ink_printed : (c : ℕ) → is_ink c ≡ true → is_printed c ≡ true
ink_printed c is =
    let parts = and_parts (nat_lt 32 c) (nat_lt c 127) is in
    let above : 32 < c = ltb-true 32 c parts.0 in
    and_from (nat_lt 31 c) (nat_lt c 127) (lt-ltb 31 c (omega arith)) parts.1

pub printed : (text : List ℕ) → AreInk text → ArePrinted text
printed [] are = refl
printed (c ∷ text) are =
    let parts = and_parts (is_ink c) (list_all is_ink text) are in
    and_from (is_printed c) (list_all is_printed text) (ink_printed c parts.0) (printed text parts.1)

pub two_printed : (a b : List ℕ) → AreInk a → ArePrinted b → ArePrinted (a ++ 32 ∷ b)
two_printed a b first second =
    list_all-append is_printed a (32 ∷ b) ∙ and_from (list_all is_printed a) (list_all is_printed (32 ∷ b)) (printed a first) second

printed_at : (text : List ℕ) (i : ℕ) → ArePrinted text → i < length text → is_printed (slice_index text i) ≡ true
printed_at [] i are within = absurd (omega arith)
printed_at (c ∷ text) zero are within = (and_parts (is_printed c) (list_all is_printed text) are).0
printed_at (c ∷ text) (suc i) are within = printed_at text i (and_parts (is_printed c) (list_all is_printed text) are).1 (omega arith)

pub no_newline : (text : List ℕ) → ArePrinted text → IsFree 10 text
no_newline text are i within same =
    let parts = and_parts (nat_lt 31 (slice_index text i)) (nat_lt (slice_index text i) 127) (printed_at text i are within) in
    let above : 31 < slice_index text i = ltb-true 31 (slice_index text i) parts.0 in
    absurd (omega arith)

ascii_of : (text : List ℕ) → ArePrinted text → IsAscii text
ascii_of [] are i = omega arith
ascii_of (c ∷ text) are zero =
    let parts = and_parts (nat_lt 31 c) (nat_lt c 127) (and_parts (is_printed c) (list_all is_printed text) are).0 in
    let low : c < 127 = ltb-true c 127 parts.1 in
    omega arith
ascii_of (c ∷ text) are (suc i) = ascii_of text (and_parts (is_printed c) (list_all is_printed text) are).1 i

newline_ascii : IsAscii (10 ∷ [])
newline_ascii zero = omega arith
newline_ascii (suc i) = omega arith

pub line_utf8 : (text : List ℕ) → ArePrinted text → IsUtf8 (text ++ 10 ∷ [])
line_utf8 text are = IsUtf8-from_ascii (text ++ 10 ∷ []) (IsAscii-append text (10 ∷ []) (ascii_of text are) newline_ascii)

pub verb_ink : (verb : Verb) → AreInk (verb_text verb)
verb_ink verbs.Line = refl
verb_ink verbs.Sent = refl
verb_ink verbs.Skipped = refl
verb_ink verbs.Made = refl
verb_ink verbs.Crossed = refl
verb_ink verbs.Redirected = refl
verb_ink verbs.Copied = refl
verb_ink verbs.Arrived = refl
verb_ink verbs.Taken = refl
verb_ink verbs.Dropped = refl
verb_ink verbs.Granted = refl
verb_ink verbs.Registered = refl
verb_ink verbs.Freed = refl
verb_ink verbs.Placed = refl
verb_ink verbs.LinkDown = refl
verb_ink verbs.LinkUp = refl
verb_ink verbs.Moved = refl
verb_ink verbs.Restarted = refl
verb_ink verbs.Settled = refl
verb_ink verbs.Unsettled = refl

pub fields_printed : (plan : Plan) (e : Entry) → IsPlan plan → IsWritable plan e → ArePrinted (fields_text plan e)
fields_printed plan (Line number) is fits =
    printed (decimal number) (decimal_ink number (omega (arith, fits)))
fields_printed plan (Sent id host frame) is fits =
    two_printed (decimal id) (host_text plan host.0 ++ 32 ∷ (encode_lower frame))
    (decimal_ink id (omega (arith, fits.0)))
    (two_printed (host_text plan host.0) (encode_lower frame)
    (host_ink plan host.0 is)
    (printed (encode_lower frame) (frame_ink frame fits.1.1.2)))
fields_printed plan (Skipped host skip) is fits =
    two_printed (host_text plan host.0) (skip_text skip)
    (host_ink plan host.0 is)
    (printed (skip_text skip) (skip_ink skip))
fields_printed plan (Made id switch frame) is fits =
    two_printed (decimal id) (switch_text plan switch.0 ++ 32 ∷ (encode_lower frame))
    (decimal_ink id (omega (arith, fits.0)))
    (two_printed (switch_text plan switch.0) (encode_lower frame)
    (switch_ink plan switch.0 is fits.1.0)
    (printed (encode_lower frame) (frame_ink frame fits.1.1.2)))
fields_printed plan (Crossed id switch) is fits =
    two_printed (decimal id) (switch_text plan switch.0)
    (decimal_ink id (omega (arith, fits.0)))
    (printed (switch_text plan switch.0) (switch_ink plan switch.0 is fits.1))
fields_printed plan (Redirected id old new) is fits =
    two_printed (decimal id) (address_text old ++ 32 ∷ (address_text new))
    (decimal_ink id (omega (arith, fits.0)))
    (two_printed (address_text old) (address_text new)
    (address_ink old)
    (printed (address_text new) (address_ink new)))
fields_printed plan (Copied id new) is fits =
    two_printed (decimal id) (decimal new)
    (decimal_ink id (omega (arith, fits.0)))
    (printed (decimal new) (decimal_ink new (omega (arith, fits.1))))
fields_printed plan (Arrived id host frame) is fits =
    two_printed (decimal id) (host_text plan host.0 ++ 32 ∷ (encode_lower frame))
    (decimal_ink id (omega (arith, fits.0)))
    (two_printed (host_text plan host.0) (encode_lower frame)
    (host_ink plan host.0 is)
    (printed (encode_lower frame) (frame_ink frame fits.1.1.2)))
fields_printed plan (Taken id switch) is fits =
    two_printed (decimal id) (switch_text plan switch.0)
    (decimal_ink id (omega (arith, fits.0)))
    (printed (switch_text plan switch.0) (switch_ink plan switch.0 is fits.1))
fields_printed plan (Dropped id cause) is fits =
    two_printed (decimal id) (cause_text cause)
    (decimal_ink id (omega (arith, fits)))
    (printed (cause_text cause) (cause_ink cause))
fields_printed plan (Granted pmac host edge port) is fits =
    two_printed (address_text pmac) (host_text plan host.0 ++ 32 ∷ (switch_text plan edge.0 ++ 32 ∷ (decimal port)))
    (address_ink pmac)
    (two_printed (host_text plan host.0) (switch_text plan edge.0 ++ 32 ∷ (decimal port))
    (host_ink plan host.0 is)
    (two_printed (switch_text plan edge.0) (decimal port)
    (switch_ink plan edge.0 is fits.1.1.0)
    (printed (decimal port) (decimal_ink port (omega (arith, fits.1.1.1))))))
fields_printed plan (Registered pmac number) is fits =
    two_printed (address_text pmac) (decimal number)
    (address_ink pmac)
    (printed (decimal number) (decimal_ink number (omega (arith, fits.1))))
fields_printed plan (Freed pmac) is fits = printed (address_text pmac) (address_ink pmac)
fields_printed plan (Placed switch place) is fits =
    two_printed (switch_text plan switch.0) (part_text place.level ++ 32 ∷ (part_text place.position ++ 32 ∷ (part_text place.pod)))
    (switch_ink plan switch.0 is fits.0)
    (two_printed (part_text place.level) (part_text place.position ++ 32 ∷ (part_text place.pod))
    (part_ink (2 ^ 8) place.level byte_within fits.1.0)
    (two_printed (part_text place.position) (part_text place.pod)
    (part_ink (2 ^ 8) place.position byte_within fits.1.1.0)
    (printed (part_text place.pod) (part_ink (2 ^ 16) place.pod short_within fits.1.1.1))))
fields_printed plan (LinkDown a b) is fits =
    two_printed (switch_text plan a.0) (switch_text plan b.0)
    (switch_ink plan a.0 is fits.0)
    (printed (switch_text plan b.0) (switch_ink plan b.0 is fits.1))
fields_printed plan (LinkUp a b) is fits =
    two_printed (switch_text plan a.0) (switch_text plan b.0)
    (switch_ink plan a.0 is fits.0)
    (printed (switch_text plan b.0) (switch_ink plan b.0 is fits.1))
fields_printed plan (Moved host edge port) is fits =
    two_printed (host_text plan host.0) (switch_text plan edge.0 ++ 32 ∷ (decimal port))
    (host_ink plan host.0 is)
    (two_printed (switch_text plan edge.0) (decimal port)
    (switch_ink plan edge.0 is fits.1.0)
    (printed (decimal port) (decimal_ink port (omega (arith, fits.1.1)))))
fields_printed plan (Restarted number) is fits =
    printed (decimal number) (decimal_ink number (omega (arith, fits)))
fields_printed plan (Settled rounds) is fits =
    printed (decimal rounds) (decimal_ink rounds (omega (arith, fits)))
fields_printed plan (Unsettled pending) is fits =
    printed (decimal pending) (decimal_ink pending (omega (arith, fits)))

-- the line without its newline
abbrev pub front_of : Plan → Entry → List ℕ
front_of plan e = verb_text (verb_of e) ++ 32 ∷ fields_text plan e

pub front_printed : (plan : Plan) (e : Entry) → IsPlan plan → IsWritable plan e → ArePrinted (front_of plan e)
front_printed plan e is fits = two_printed (verb_text (verb_of e)) (fields_text plan e) (verb_ink (verb_of e)) (fields_printed plan e is fits)

one : (w a : List ℕ) → (w ++ ((32 ∷ a) ++ [])) ++ 10 ∷ [] ≡ (w ++ 32 ∷ a) ++ 10 ∷ []
one w a = ap (λ t. (w ++ t) ++ 10 ∷ []) (append-nil (32 ∷ a))

two : (w a b : List ℕ) → (w ++ ((32 ∷ a) ++ ((32 ∷ b) ++ []))) ++ 10 ∷ [] ≡ (w ++ 32 ∷ (a ++ 32 ∷ b)) ++ 10 ∷ []
two w a b = ap (λ t. (w ++ ((32 ∷ a) ++ t)) ++ 10 ∷ []) (append-nil (32 ∷ b))

three : (w a b c : List ℕ) → (w ++ ((32 ∷ a) ++ ((32 ∷ b) ++ ((32 ∷ c) ++ [])))) ++ 10 ∷ [] ≡ (w ++ 32 ∷ (a ++ 32 ∷ (b ++ 32 ∷ c))) ++ 10 ∷ []
three w a b c = ap (λ t. (w ++ ((32 ∷ a) ++ ((32 ∷ b) ++ t))) ++ 10 ∷ []) (append-nil (32 ∷ c))

four : (w a b c d : List ℕ) → (w ++ ((32 ∷ a) ++ ((32 ∷ b) ++ ((32 ∷ c) ++ ((32 ∷ d) ++ []))))) ++ 10 ∷ [] ≡ (w ++ 32 ∷ (a ++ 32 ∷ (b ++ 32 ∷ (c ++ 32 ∷ d)))) ++ 10 ∷ []
four w a b c d = ap (λ t. (w ++ ((32 ∷ a) ++ ((32 ∷ b) ++ ((32 ∷ c) ++ t)))) ++ 10 ∷ []) (append-nil (32 ∷ d))

-- a line is a word, a blank, the fields and a newline
pub line_is : (plan : Plan) (e : Entry) → line_of plan e ≡ front_of plan e ++ 10 ∷ []
line_is plan (Line number) = one (codes "line") (decimal number)
line_is plan (Sent id host frame) = three (codes "sent") (decimal id) (host_text plan host.0) (encode_lower frame)
line_is plan (Skipped host skip) = two (codes "skipped") (host_text plan host.0) (skip_text skip)
line_is plan (Made id switch frame) = three (codes "made") (decimal id) (switch_text plan switch.0) (encode_lower frame)
line_is plan (Crossed id switch) = two (codes "crossed") (decimal id) (switch_text plan switch.0)
line_is plan (Redirected id old new) = three (codes "redirected") (decimal id) (address_text old) (address_text new)
line_is plan (Copied id new) = two (codes "copied") (decimal id) (decimal new)
line_is plan (Arrived id host frame) = three (codes "arrived") (decimal id) (host_text plan host.0) (encode_lower frame)
line_is plan (Taken id switch) = two (codes "taken") (decimal id) (switch_text plan switch.0)
line_is plan (Dropped id cause) = two (codes "dropped") (decimal id) (cause_text cause)
line_is plan (Granted pmac host edge port) = four (codes "granted") (address_text pmac) (host_text plan host.0) (switch_text plan edge.0) (decimal port)
line_is plan (Registered pmac number) = two (codes "registered") (address_text pmac) (decimal number)
line_is plan (Freed pmac) = one (codes "freed") (address_text pmac)
line_is plan (Placed switch place) = four (codes "placed") (switch_text plan switch.0) (part_text place.level) (part_text place.position) (part_text place.pod)
line_is plan (LinkDown a b) = two (codes "linkdown") (switch_text plan a.0) (switch_text plan b.0)
line_is plan (LinkUp a b) = two (codes "linkup") (switch_text plan a.0) (switch_text plan b.0)
line_is plan (Moved host edge port) = three (codes "moved") (host_text plan host.0) (switch_text plan edge.0) (decimal port)
line_is plan (Restarted number) = one (codes "restarted") (decimal number)
line_is plan (Settled rounds) = one (codes "settled") (decimal rounds)
line_is plan (Unsettled pending) = one (codes "unsettled") (decimal pending)
