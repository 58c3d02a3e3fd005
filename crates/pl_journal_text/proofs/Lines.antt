-- A line is of one entry, and a text of one journal.
use Rattle.std.proofs.Common.{◌≡◌, ◌≢◌, ℕ, suc, ◌^◌, List, [], ◌∷◌, ◌++◌, length, decimal, Option, Some, None, Result, Ok, Err, refl, sym, ap, ap₂, subst, ◌∙◌, arith, append_assoc}
use Rattle.std.specs.Prelude.{All}
use Rattle.std.specs.Result.{IfOk}
use Rattle.std.specs.Str.{IsUtf8}
use Rattle.std.proofs.lemmas.Fmt.{decimal_injective}
use Rattle.std.proofs.lemmas.List.{append_cancel_right}
use Rattle.hex.specs.Hex.{encode_lower}
use Rattle.pl_wiring.specs.declared.host.HostNo.{HostNo}
use Rattle.pl_wiring.specs.declared.label.SwitchNo.{SwitchNo}
use Rattle.pl_wiring.specs.Plan.{IsPlan, Plan}
use Rattle.pl_journal.specs.Text.{address_text, cause_text, host_text, journal_text, line_of, part_text, skip_text, switch_text}
use Rattle.pl_journal.specs.declared.entry.Entry.{Entry}
use Rattle.pl_journal.specs.declared.entry.Entry.TheVariants.{Line, Sent, Skipped, Made, Crossed, Redirected, Copied, Arrived, Taken, Dropped, Granted, Registered, Freed, Placed, LinkDown, LinkUp, Moved, Restarted, Settled, Unsettled}
use Rattle.pl_journal_text.specs.declared.verb.Verb.{Verb}
use Rattle.pl_journal_text.specs.Fields.{IsOfVerb, fields_text}
use Rattle.pl_journal_text.specs.Ink.{address_ink, at_most_blank, byte_within, decimal_ink, free_of, host_ink, part_ink, short_within, switch_ink}
use Rattle.pl_journal_text.specs.Reading.{IsCut, IsFree, Reads}
use Rattle.pl_journal_text.specs.Verbs.{verb_of, verb_text}
use Rattle.pl_journal_text.specs.Writable.{IsWritable}
use Rattle.pl_journal_text.proofs.Cuts.{cut_once, never_cut}
use Rattle.pl_journal_text.proofs.OneSpelling.{same_address, same_bytes, same_cause, same_host, same_part, same_skip, same_switch, same_verb}
use Rattle.pl_journal_text.proofs.Printed.{front_of, front_printed, line_is, line_utf8, no_newline, verb_ink}

abbrev host_no : ℕ → HostNo
host_no n = record { 0 = n }

abbrev switch_no : ℕ → SwitchNo
switch_no n = record { 0 = n }

abbrev placed_as : SwitchNo → Option ℕ → Option ℕ → Option ℕ → Entry
placed_as switch level position pod = Placed switch (record { level = level; position = position; pod = pod })

fields_once : (plan : Plan) (e f : Entry) → IsPlan plan → IsWritable plan e → IsWritable plan f → verb_of e ≡ verb_of f → fields_text plan e ≡ fields_text plan f → e ≡ f
fields_once plan (Line n) (Line n') is fit fit' verb same =
    ap (λ z. Line z) (decimal_injective n n' (omega (arith, fit)) (omega (arith, fit')) same)
fields_once plan (Sent id host frame) (Sent id' host' frame') is fit fit' verb same =
    let c0 = cut_once 32 (decimal id) (host_text plan host.0 ++ 32 ∷ (encode_lower frame)) (decimal id') (host_text plan host'.0 ++ 32 ∷ (encode_lower frame'))
    (free_of 32 (decimal id) at_most_blank (decimal_ink id fit.0)) (free_of 32 (decimal id') at_most_blank (decimal_ink id' fit'.0)) same in
    let c1 = cut_once 32 (host_text plan host.0) (encode_lower frame) (host_text plan host'.0) (encode_lower frame')
    (free_of 32 (host_text plan host.0) at_most_blank (host_ink plan host.0 is)) (free_of 32 (host_text plan host'.0) at_most_blank (host_ink plan host'.0 is)) c0.1 in
    ap (λ z. Sent z host frame) (decimal_injective id id' fit.0 fit'.0 c0.0)
    ∙ ap (λ z. Sent id' z frame) (ap host_no (same_host plan host.0 host'.0 is fit.1.0 fit'.1.0 c1.0))
    ∙ ap (λ z. Sent id' host' z) (same_bytes frame frame' fit.1.1.2 fit'.1.1.2 c1.1)
fields_once plan (Skipped host skip) (Skipped host' skip') is fit fit' verb same =
    let c0 = cut_once 32 (host_text plan host.0) (skip_text skip) (host_text plan host'.0) (skip_text skip')
    (free_of 32 (host_text plan host.0) at_most_blank (host_ink plan host.0 is)) (free_of 32 (host_text plan host'.0) at_most_blank (host_ink plan host'.0 is)) same in
    ap (λ z. Skipped z skip) (ap host_no (same_host plan host.0 host'.0 is fit fit' c0.0))
    ∙ ap (λ z. Skipped host' z) (same_skip skip skip' c0.1)
fields_once plan (Made id switch frame) (Made id' switch' frame') is fit fit' verb same =
    let c0 = cut_once 32 (decimal id) (switch_text plan switch.0 ++ 32 ∷ (encode_lower frame)) (decimal id') (switch_text plan switch'.0 ++ 32 ∷ (encode_lower frame'))
    (free_of 32 (decimal id) at_most_blank (decimal_ink id fit.0)) (free_of 32 (decimal id') at_most_blank (decimal_ink id' fit'.0)) same in
    let c1 = cut_once 32 (switch_text plan switch.0) (encode_lower frame) (switch_text plan switch'.0) (encode_lower frame')
    (free_of 32 (switch_text plan switch.0) at_most_blank (switch_ink plan switch.0 is fit.1.0)) (free_of 32 (switch_text plan switch'.0) at_most_blank (switch_ink plan switch'.0 is fit'.1.0)) c0.1 in
    ap (λ z. Made z switch frame) (decimal_injective id id' fit.0 fit'.0 c0.0)
    ∙ ap (λ z. Made id' z frame) (ap switch_no (same_switch plan switch.0 switch'.0 is fit.1.0 fit'.1.0 c1.0))
    ∙ ap (λ z. Made id' switch' z) (same_bytes frame frame' fit.1.1.2 fit'.1.1.2 c1.1)
fields_once plan (Crossed id switch) (Crossed id' switch') is fit fit' verb same =
    let c0 = cut_once 32 (decimal id) (switch_text plan switch.0) (decimal id') (switch_text plan switch'.0)
    (free_of 32 (decimal id) at_most_blank (decimal_ink id fit.0)) (free_of 32 (decimal id') at_most_blank (decimal_ink id' fit'.0)) same in
    ap (λ z. Crossed z switch) (decimal_injective id id' fit.0 fit'.0 c0.0)
    ∙ ap (λ z. Crossed id' z) (ap switch_no (same_switch plan switch.0 switch'.0 is fit.1 fit'.1 c0.1))
fields_once plan (Redirected id old new) (Redirected id' old' new') is fit fit' verb same =
    let c0 = cut_once 32 (decimal id) (address_text old ++ 32 ∷ (address_text new)) (decimal id') (address_text old' ++ 32 ∷ (address_text new'))
    (free_of 32 (decimal id) at_most_blank (decimal_ink id fit.0)) (free_of 32 (decimal id') at_most_blank (decimal_ink id' fit'.0)) same in
    let c1 = cut_once 32 (address_text old) (address_text new) (address_text old') (address_text new')
    (free_of 32 (address_text old) at_most_blank (address_ink old)) (free_of 32 (address_text old') at_most_blank (address_ink old')) c0.1 in
    ap (λ z. Redirected z old new) (decimal_injective id id' fit.0 fit'.0 c0.0)
    ∙ ap (λ z. Redirected id' z new) (same_address old old' fit.1.0 fit'.1.0 c1.0)
    ∙ ap (λ z. Redirected id' old' z) (same_address new new' fit.1.1 fit'.1.1 c1.1)
fields_once plan (Copied id new) (Copied id' new') is fit fit' verb same =
    let c0 = cut_once 32 (decimal id) (decimal new) (decimal id') (decimal new')
    (free_of 32 (decimal id) at_most_blank (decimal_ink id fit.0)) (free_of 32 (decimal id') at_most_blank (decimal_ink id' fit'.0)) same in
    ap (λ z. Copied z new) (decimal_injective id id' fit.0 fit'.0 c0.0)
    ∙ ap (λ z. Copied id' z) (decimal_injective new new' fit.1 fit'.1 c0.1)
fields_once plan (Arrived id host frame) (Arrived id' host' frame') is fit fit' verb same =
    let c0 = cut_once 32 (decimal id) (host_text plan host.0 ++ 32 ∷ (encode_lower frame)) (decimal id') (host_text plan host'.0 ++ 32 ∷ (encode_lower frame'))
    (free_of 32 (decimal id) at_most_blank (decimal_ink id fit.0)) (free_of 32 (decimal id') at_most_blank (decimal_ink id' fit'.0)) same in
    let c1 = cut_once 32 (host_text plan host.0) (encode_lower frame) (host_text plan host'.0) (encode_lower frame')
    (free_of 32 (host_text plan host.0) at_most_blank (host_ink plan host.0 is)) (free_of 32 (host_text plan host'.0) at_most_blank (host_ink plan host'.0 is)) c0.1 in
    ap (λ z. Arrived z host frame) (decimal_injective id id' fit.0 fit'.0 c0.0)
    ∙ ap (λ z. Arrived id' z frame) (ap host_no (same_host plan host.0 host'.0 is fit.1.0 fit'.1.0 c1.0))
    ∙ ap (λ z. Arrived id' host' z) (same_bytes frame frame' fit.1.1.2 fit'.1.1.2 c1.1)
fields_once plan (Taken id switch) (Taken id' switch') is fit fit' verb same =
    let c0 = cut_once 32 (decimal id) (switch_text plan switch.0) (decimal id') (switch_text plan switch'.0)
    (free_of 32 (decimal id) at_most_blank (decimal_ink id fit.0)) (free_of 32 (decimal id') at_most_blank (decimal_ink id' fit'.0)) same in
    ap (λ z. Taken z switch) (decimal_injective id id' fit.0 fit'.0 c0.0)
    ∙ ap (λ z. Taken id' z) (ap switch_no (same_switch plan switch.0 switch'.0 is fit.1 fit'.1 c0.1))
fields_once plan (Dropped id cause) (Dropped id' cause') is fit fit' verb same =
    let c0 = cut_once 32 (decimal id) (cause_text cause) (decimal id') (cause_text cause')
    (free_of 32 (decimal id) at_most_blank (decimal_ink id fit)) (free_of 32 (decimal id') at_most_blank (decimal_ink id' fit')) same in
    ap (λ z. Dropped z cause) (decimal_injective id id' fit fit' c0.0)
    ∙ ap (λ z. Dropped id' z) (same_cause cause cause' c0.1)
fields_once plan (Granted pmac host edge port) (Granted pmac' host' edge' port') is fit fit' verb same =
    let c0 = cut_once 32 (address_text pmac) (host_text plan host.0 ++ 32 ∷ (switch_text plan edge.0 ++ 32 ∷ (decimal port))) (address_text pmac') (host_text plan host'.0 ++ 32 ∷ (switch_text plan edge'.0 ++ 32 ∷ (decimal port')))
    (free_of 32 (address_text pmac) at_most_blank (address_ink pmac)) (free_of 32 (address_text pmac') at_most_blank (address_ink pmac')) same in
    let c1 = cut_once 32 (host_text plan host.0) (switch_text plan edge.0 ++ 32 ∷ (decimal port)) (host_text plan host'.0) (switch_text plan edge'.0 ++ 32 ∷ (decimal port'))
    (free_of 32 (host_text plan host.0) at_most_blank (host_ink plan host.0 is)) (free_of 32 (host_text plan host'.0) at_most_blank (host_ink plan host'.0 is)) c0.1 in
    let c2 = cut_once 32 (switch_text plan edge.0) (decimal port) (switch_text plan edge'.0) (decimal port')
    (free_of 32 (switch_text plan edge.0) at_most_blank (switch_ink plan edge.0 is fit.1.1.0)) (free_of 32 (switch_text plan edge'.0) at_most_blank (switch_ink plan edge'.0 is fit'.1.1.0)) c1.1 in
    ap (λ z. Granted z host edge port) (same_address pmac pmac' fit.0 fit'.0 c0.0)
    ∙ ap (λ z. Granted pmac' z edge port) (ap host_no (same_host plan host.0 host'.0 is fit.1.0 fit'.1.0 c1.0))
    ∙ ap (λ z. Granted pmac' host' z port) (ap switch_no (same_switch plan edge.0 edge'.0 is fit.1.1.0 fit'.1.1.0 c2.0))
    ∙ ap (λ z. Granted pmac' host' edge' z) (decimal_injective port port' (omega (arith, fit.1.1.1)) (omega (arith, fit'.1.1.1)) c2.1)
fields_once plan (Registered pmac n) (Registered pmac' n') is fit fit' verb same =
    let c0 = cut_once 32 (address_text pmac) (decimal n) (address_text pmac') (decimal n')
    (free_of 32 (address_text pmac) at_most_blank (address_ink pmac)) (free_of 32 (address_text pmac') at_most_blank (address_ink pmac')) same in
    ap (λ z. Registered z n) (same_address pmac pmac' fit.0 fit'.0 c0.0)
    ∙ ap (λ z. Registered pmac' z) (decimal_injective n n' fit.1 fit'.1 c0.1)
fields_once plan (Freed pmac) (Freed pmac') is fit fit' verb same = ap (λ z. Freed z) (same_address pmac pmac' fit fit' same)
fields_once plan (Placed switch place) (Placed switch' place') is fit fit' verb same =
    let c0 = cut_once 32 (switch_text plan switch.0) (part_text place.level ++ 32 ∷ (part_text place.position ++ 32 ∷ (part_text place.pod))) (switch_text plan switch'.0) (part_text place'.level ++ 32 ∷ (part_text place'.position ++ 32 ∷ (part_text place'.pod)))
    (free_of 32 (switch_text plan switch.0) at_most_blank (switch_ink plan switch.0 is fit.0)) (free_of 32 (switch_text plan switch'.0) at_most_blank (switch_ink plan switch'.0 is fit'.0)) same in
    let c1 = cut_once 32 (part_text place.level) (part_text place.position ++ 32 ∷ (part_text place.pod)) (part_text place'.level) (part_text place'.position ++ 32 ∷ (part_text place'.pod))
    (free_of 32 (part_text place.level) at_most_blank (part_ink (2 ^ 8) place.level byte_within fit.1.0)) (free_of 32 (part_text place'.level) at_most_blank (part_ink (2 ^ 8) place'.level byte_within fit'.1.0)) c0.1 in
    let c2 = cut_once 32 (part_text place.position) (part_text place.pod) (part_text place'.position) (part_text place'.pod)
    (free_of 32 (part_text place.position) at_most_blank (part_ink (2 ^ 8) place.position byte_within fit.1.1.0)) (free_of 32 (part_text place'.position) at_most_blank (part_ink (2 ^ 8) place'.position byte_within fit'.1.1.0)) c1.1 in
    ap (λ z. placed_as z place.level place.position place.pod) (ap switch_no (same_switch plan switch.0 switch'.0 is fit.0 fit'.0 c0.0))
    ∙ ap (λ z. placed_as switch' z place.position place.pod) (same_part (2 ^ 8) place.level place'.level byte_within fit.1.0 fit'.1.0 c1.0)
    ∙ ap (λ z. placed_as switch' place'.level z place.pod) (same_part (2 ^ 8) place.position place'.position byte_within fit.1.1.0 fit'.1.1.0 c2.0)
    ∙ ap (λ z. placed_as switch' place'.level place'.position z) (same_part (2 ^ 16) place.pod place'.pod short_within fit.1.1.1 fit'.1.1.1 c2.1)
fields_once plan (LinkDown a b) (LinkDown a' b') is fit fit' verb same =
    let c0 = cut_once 32 (switch_text plan a.0) (switch_text plan b.0) (switch_text plan a'.0) (switch_text plan b'.0)
    (free_of 32 (switch_text plan a.0) at_most_blank (switch_ink plan a.0 is fit.0)) (free_of 32 (switch_text plan a'.0) at_most_blank (switch_ink plan a'.0 is fit'.0)) same in
    ap (λ z. LinkDown z b) (ap switch_no (same_switch plan a.0 a'.0 is fit.0 fit'.0 c0.0))
    ∙ ap (λ z. LinkDown a' z) (ap switch_no (same_switch plan b.0 b'.0 is fit.1 fit'.1 c0.1))
fields_once plan (LinkUp a b) (LinkUp a' b') is fit fit' verb same =
    let c0 = cut_once 32 (switch_text plan a.0) (switch_text plan b.0) (switch_text plan a'.0) (switch_text plan b'.0)
    (free_of 32 (switch_text plan a.0) at_most_blank (switch_ink plan a.0 is fit.0)) (free_of 32 (switch_text plan a'.0) at_most_blank (switch_ink plan a'.0 is fit'.0)) same in
    ap (λ z. LinkUp z b) (ap switch_no (same_switch plan a.0 a'.0 is fit.0 fit'.0 c0.0))
    ∙ ap (λ z. LinkUp a' z) (ap switch_no (same_switch plan b.0 b'.0 is fit.1 fit'.1 c0.1))
fields_once plan (Moved host edge port) (Moved host' edge' port') is fit fit' verb same =
    let c0 = cut_once 32 (host_text plan host.0) (switch_text plan edge.0 ++ 32 ∷ (decimal port)) (host_text plan host'.0) (switch_text plan edge'.0 ++ 32 ∷ (decimal port'))
    (free_of 32 (host_text plan host.0) at_most_blank (host_ink plan host.0 is)) (free_of 32 (host_text plan host'.0) at_most_blank (host_ink plan host'.0 is)) same in
    let c1 = cut_once 32 (switch_text plan edge.0) (decimal port) (switch_text plan edge'.0) (decimal port')
    (free_of 32 (switch_text plan edge.0) at_most_blank (switch_ink plan edge.0 is fit.1.0)) (free_of 32 (switch_text plan edge'.0) at_most_blank (switch_ink plan edge'.0 is fit'.1.0)) c0.1 in
    ap (λ z. Moved z edge port) (ap host_no (same_host plan host.0 host'.0 is fit.0 fit'.0 c0.0))
    ∙ ap (λ z. Moved host' z port) (ap switch_no (same_switch plan edge.0 edge'.0 is fit.1.0 fit'.1.0 c1.0))
    ∙ ap (λ z. Moved host' edge' z) (decimal_injective port port' (omega (arith, fit.1.1)) (omega (arith, fit'.1.1)) c1.1)
fields_once plan (Restarted n) (Restarted n') is fit fit' verb same =
    ap (λ z. Restarted z) (decimal_injective n n' (omega (arith, fit)) (omega (arith, fit')) same)
fields_once plan (Settled n) (Settled n') is fit fit' verb same =
    ap (λ z. Settled z) (decimal_injective n n' (omega (arith, fit)) (omega (arith, fit')) same)
fields_once plan (Unsettled n) (Unsettled n') is fit fit' verb same =
    ap (λ z. Unsettled z) (decimal_injective n n' fit fit' same)
fields_once plan e f is fit fit' verb same = absurd (cc)

fronts_once : (plan : Plan) (e f : Entry) → IsPlan plan → IsWritable plan e → IsWritable plan f → front_of plan e ≡ front_of plan f → e ≡ f
fronts_once plan e f is fit fit' same =
    let parts = cut_once 32 (verb_text (verb_of e)) (fields_text plan e) (verb_text (verb_of f)) (fields_text plan f)
    (free_of 32 (verb_text (verb_of e)) at_most_blank (verb_ink (verb_of e))) (free_of 32 (verb_text (verb_of f)) at_most_blank (verb_ink (verb_of f))) same in
    fields_once plan e f is fit fit' (same_verb (verb_of e) (verb_of f) parts.0) parts.1

-- lines with something behind them
pub begun_once : (plan : Plan) (e f : Entry) (more other : List ℕ) → IsPlan plan → IsWritable plan e → IsWritable plan f →
    line_of plan e ++ more ≡ line_of plan f ++ other → (e ≡ f) × (more ≡ other)
begun_once plan e f more other is fit fit' same =
    let long = λ (g : Entry) (rest : List ℕ). ap (λ l. l ++ rest) (line_is plan g) ∙ append_assoc (front_of plan g) (10 ∷ []) rest in
    let parts = cut_once 10 (front_of plan e) more (front_of plan f) other
    (no_newline (front_of plan e) (front_printed plan e is fit)) (no_newline (front_of plan f) (front_printed plan f is fit')) (sym (long e more) ∙ same ∙ long f other) in
    (fronts_once plan e f is fit fit' parts.0, parts.1)

pub one_line : (plan : Plan) (e f : Entry) → IsPlan plan → IsWritable plan e → IsWritable plan f → line_of plan e ≡ line_of plan f → e ≡ f
one_line plan e f is fit fit' same = (begun_once plan e f [] [] is fit fit' (ap (λ l. l ++ []) same)).0

pub some_line : (plan : Plan) (e : Entry) (more : List ℕ) → line_of plan e ++ more ≢ []
some_line plan e more same =
    let whole = ap length (sym (ap (λ l. l ++ more) (line_is plan e) ∙ append_assoc (front_of plan e) (10 ∷ []) more) ∙ same) in
    none (front_of plan e) whole
  where
    none : (front : List ℕ) → length (front ++ 10 ∷ more) ≡ 0 → ⊥
    none [] h = absurd (omega arith)
    none (c ∷ front) h = absurd (omega arith)

pub one_journal : (plan : Plan) (j k : List Entry) → IsPlan plan → All (IsWritable plan) j → All (IsWritable plan) k →
    journal_text plan j ≡ journal_text plan k → j ≡ k
one_journal plan [] [] is all other same = refl
one_journal plan [] (f ∷ k) is all other same = absurd (some_line plan f (journal_text plan k) (sym same))
one_journal plan (e ∷ j) [] is all other same = absurd (some_line plan e (journal_text plan j) same)
one_journal plan (e ∷ j) (f ∷ k) is all other same =
    let parts = begun_once plan e f (journal_text plan j) (journal_text plan k) is (all 0 e (omega arith)) (other 0 f (omega arith)) same in
    let rest = one_journal plan j k is (λ i d h. all (suc i) d (omega arith)) (λ i d h. other (suc i) d (omega arith)) parts.1 in
    let first = parts.0 in
    (cc)

-- why a line is of no entry
pub not_utf8 : (plan : Plan) (line : List ℕ) → IsPlan plan → ¬ (IsUtf8 line) → (e : Entry) → IsWritable plan e → line ≢ line_of plan e
not_utf8 plan line is other e fits same =
    other (subst IsUtf8 (sym (same ∙ line_is plan e)) (line_utf8 (front_of plan e) (front_printed plan e is fits)))

pub no_end : (plan : Plan) (line : List ℕ) → ((front : List ℕ) → line ≢ front ++ 10 ∷ []) → (e : Entry) → IsWritable plan e → line ≢ line_of plan e
no_end plan line none e fits same = none (front_of plan e) (same ∙ line_is plan e)

fronts : (plan : Plan) (line text : List ℕ) (e : Entry) → line ≡ text ++ 10 ∷ [] → line ≡ line_of plan e → text ≡ front_of plan e
fronts plan line text e is same = append_cancel_right text (front_of plan e) (10 ∷ []) (sym is ∙ same ∙ line_is plan e)

pub no_blank_in : (plan : Plan) (line text : List ℕ) → line ≡ text ++ 10 ∷ [] → IsFree 32 text → (e : Entry) → IsWritable plan e → line ≢ line_of plan e
no_blank_in plan line text is free e fits same =
    never_cut 32 text (verb_text (verb_of e)) (fields_text plan e) free (fronts plan line text e is same)

cut_of : (plan : Plan) (line text word fields : List ℕ) (e : Entry) → line ≡ text ++ 10 ∷ [] → IsCut text word fields → line ≡ line_of plan e →
    (word ≡ verb_text (verb_of e)) × (fields ≡ fields_text plan e)
cut_of plan line text word fields e is cut same =
    cut_once 32 word fields (verb_text (verb_of e)) (fields_text plan e) cut.first (free_of 32 (verb_text (verb_of e)) at_most_blank (verb_ink (verb_of e)))
    (sym cut.whole ∙ fronts plan line text e is same)

pub no_verb : (plan : Plan) (line text word fields : List ℕ) (read : Option Verb) → line ≡ text ++ 10 ∷ [] → IsCut text word fields →
    Reads verb_text (λ _. Unit {0}) word read → read ≡ None → (e : Entry) → IsWritable plan e → line ≢ line_of plan e
no_verb plan line text word fields None is cut reads none e fits same = reads (verb_of e) tt (cut_of plan line text word fields e is cut same).0
no_verb plan line text word fields (Some verb) is cut reads none e fits same = absurd (cc)

pub fields_read : {E : Type 0} (plan : Plan) (line text word fields : List ℕ) (read : Option Verb) (verb : Verb) (r : Result (Option Entry) E) →
    line ≡ text ++ 10 ∷ [] → IsCut text word fields → Reads verb_text (λ _. Unit {0}) word read → read ≡ Some verb →
    IfOk r (Reads (fields_text plan) (IsOfVerb plan verb) fields) → IfOk r (Reads (line_of plan) (IsWritable plan) line)
fields_read plan line text word fields None verb r is cut reads some result = absurd (cc)
fields_read plan line text word fields (Some found) verb (Err e) is cut reads some result = tt
fields_read plan line text word fields (Some found) verb (Ok (Some e)) is cut reads some result =
    let of_verb : verb_of e ≡ verb = result.0.1 in
    let verbs : found ≡ verb = (cc) in
    let word_is : word ≡ verb_text (verb_of e) = reads.1 ∙ ap verb_text (verbs ∙ sym of_verb) in
    let front : text ≡ front_of plan e = cut.whole ∙ ap₂ (λ w f. w ++ 32 ∷ f) word_is result.1 in
    (result.0.0, is ∙ ap (λ t. t ++ 10 ∷ []) front ∙ sym (line_is plan e))
fields_read plan line text word fields (Some found) verb (Ok None) is cut reads some result = λ e fits same.
    let parts = cut_of plan line text word fields e is cut same in
    let verbs : found ≡ verb = (cc) in
    let of_verb : verb_of e ≡ verb = same_verb (verb_of e) found (sym (parts.0) ∙ reads.1) ∙ verbs in
    result e (fits, of_verb) parts.1

-- a written line reads back
pub reads_back : {E : Type 0} (plan : Plan) (line : List ℕ) (r : Result (Option Entry) E) → IsPlan plan → IfOk r (Reads (line_of plan) (IsWritable plan) line) →
    IfOk r (λ read. (e : Entry) → IsWritable plan e → line ≡ line_of plan e → read ≡ Some e)
reads_back plan line (Err e) is reads = tt
reads_back plan line (Ok None) is reads = λ e fits same. absurd (reads e fits same)
reads_back plan line (Ok (Some f)) is reads = λ e fits same. ap (λ g. Some g) (one_line plan f e is reads.0 fits (sym (reads.1) ∙ same))
