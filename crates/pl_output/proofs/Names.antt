-- The names under which a run is saved all differ.
use Rattle.std.proofs.Common.{◌≡◌, ◌≢◌, ◌∙◌, ℕ, suc, ◌+◌, ◌<◌, List, [], ◌∷◌, ◌++◌, length, drop, codes, Option, slice_index_or, All, AllPairs, sym, ap, subst, append_assoc, arith, length-append, string_bytes}
use Rattle.std.proofs.lemmas.List.{append_cancel_left, append_cancel_right, drop_at}
use Rattle.std.proofs.lemmas.List.Elements.{All-cons, All-nil, All-append}
use Rattle.std.proofs.lemmas.List.Kept.{AllPairs-cons}
use Rattle.std.proofs.lemmas.List.Quantifiers.{all_pairs_push}
use Rattle.pl_shelf.specs.Held.{Held, standard_output}
use Rattle.pl_wiring.specs.declared.host.Host.{Host}
use Rattle.pl_wiring.specs.Plan.{Plan, IsPlan}
use Rattle.pl_journal.specs.declared.entry.Entry.{Entry}
use Rattle.pl_journal.specs.Text.{journal_text}
use Rattle.pl_output.specs.declared.saving.texts.Texts.{Texts}
use Rattle.pl_inputs.specs.Folders.{in_folder}
use Rattle.pl_output.specs.Mail.{capture_name}
use Rattle.pl_output.specs.Receipts.{captures_from, journal_name, saved_texts}
use Rattle.pl_output.specs.InTurn.{BreaksInTurn, SavedInTurn}
use Rattle.pl_output.specs.Room.{HaveRoom, HaveRoomInTurn}
use Rattle.pl_output.specs.Saved.{AreSaved, BreaksOff, Saving}
use Rattle.pl_output.specs.Texts.{AreTexts, savings_of}
use Rattle.pl_output.proofs.Fitting.{room_in_turn}
use Rattle.pl_output.proofs.Turns.{AreApart, breaks_off, saved_all}

files_same : (out a b : List ℕ) → in_folder out a ≡ in_folder out b → a ≡ b
files_same out a b same = append_cancel_left (out ++ codes "/") a b same

hosts_same : (out : List ℕ) (g h : Host) → capture_name out g ≡ capture_name out h → g.name ≡ h.name
hosts_same out g h same = append_cancel_right g.name h.name (codes ".pcap") (files_same out (g.name ++ codes ".pcap") (h.name ++ codes ".pcap") same)

no_journal : (out : List ℕ) (h : Host) → capture_name out h ≢ journal_name out
no_journal out h same =
    let file : h.name ++ codes ".pcap" ≡ codes "journal.txt" = files_same out (h.name ++ codes ".pcap") (codes "journal.txt") same in
    let long : length h.name ≡ 6 = omega (arith, ap length file, length-append h.name (codes ".pcap")) in
    let rest : codes ".pcap" ≡ codes "l.txt" = sym (drop_at h.name (codes ".pcap") 6 long) ∙ ap (drop 6) file in
    let letter : 46 ≡ 108 = ap (λ l. slice_index_or l 0 0) rest in
    absurd (omega (arith, letter))

pub no_output : (out file : List ℕ) → 0 < length file → in_folder out file ≢ standard_output
no_output out file some same =
    let long : length (in_folder out file) ≡ length (out ++ codes "/") + length file = length-append (out ++ codes "/") file in
    let longer : length (out ++ codes "/") ≡ length out + 1 = length-append out (codes "/") in
    let short : length (in_folder out file) ≡ 1 = ap length same in
    absurd (omega (arith, some, long, longer, short))

-- what holds of the hosts' names holds of the captures'
names_from : (P : List ℕ → Type 0) (n : ℕ) (out : List ℕ) (journal : List Entry) (hosts : List Host) →
    All (λ h. P (capture_name out h)) hosts → All (λ s. P s.name) (captures_from n out journal hosts)
names_from P n out journal [] all = All-nil (λ s. P s.name)
names_from P n out journal (h ∷ hs) all =
    All-cons (λ s. P s.name) _ _ (all 0 h (omega arith)) (names_from P (n + 1) out journal hs (λ k d within. all (suc k) d (omega (arith, within))))

captures_apart : (n : ℕ) (out : List ℕ) (journal : List Entry) (hosts : List Host) → AllPairs (λ g h. g.name ≢ h.name) hosts →
    AllPairs AreApart (captures_from n out journal hosts)
captures_apart n out journal [] apart = λ i j d less within. absurd (omega (arith, within))
captures_apart n out journal (h ∷ hs) apart =
    AllPairs-cons AreApart _ _
    (names_from (λ name. capture_name out h ≢ name) (n + 1) out journal hs
    (λ k d within same. apart 0 (suc k) d (omega arith) (omega (arith, within)) (hosts_same out h (slice_index_or hs k d) same)))
    (captures_apart (n + 1) out journal hs (λ i j d less within. apart (suc i) (suc j) d (omega (arith, less)) (omega (arith, within))))

some_letters : (h : Host) → 0 < length (h.name ++ codes ".pcap")
some_letters h = omega (arith, length-append h.name (codes ".pcap"))

pub texts_apart : (out : List ℕ) (plan : Plan) (journal : List Entry) (summary : List ℕ) → IsPlan plan →
    AllPairs AreApart (saved_texts out plan journal summary)
unfolding saved_texts
texts_apart out plan journal summary is =
    let captures = captures_from 0 out journal plan.hosts in
    let entries : Saving = record { name = journal_name out; text = journal_text plan journal } in
    let told : Saving = record { name = standard_output; text = summary } in
    let from_journal : All (λ s. s.name ≢ journal_name out) captures =
    names_from (λ name. name ≢ journal_name out) 0 out journal plan.hosts (λ k d within. no_journal out (slice_index_or plan.hosts k d)) in
    let from_output : All (λ s. s.name ≢ standard_output) captures =
    names_from (λ name. name ≢ standard_output) 0 out journal plan.hosts
    (λ k d within. no_output out _ (some_letters (slice_index_or plan.hosts k d))) in
    let files : AllPairs AreApart (captures ++ entries ∷ []) =
    all_pairs_push AreApart captures entries (captures_apart 0 out journal plan.hosts is.names_apart) from_journal in
    let one : All (λ s. s.name ≢ standard_output) (entries ∷ []) =
    All-cons (λ s. s.name ≢ standard_output) entries [] (no_output out (codes "journal.txt") (omega arith)) (All-nil (λ s. s.name ≢ standard_output)) in
    let all = all_pairs_push AreApart (captures ++ entries ∷ []) told files
    (All-append (λ s. s.name ≢ standard_output) captures (entries ∷ []) from_output one) in
    subst (λ l. AllPairs AreApart l) (append_assoc captures (entries ∷ []) (told ∷ [])) all

abbrev saving : List ℕ → List ℕ → Saving
saving name text = record { name = name; text = text }

pub texts_saved : (out : List ℕ) (plan : Plan) (journal : List Entry) (texts : Texts) → AreTexts out plan journal texts →
    savings_of plan journal texts ≡ saved_texts out plan journal (string_bytes texts.summary)
unfolding saved_texts
texts_saved out plan journal texts are =
    let summary = string_bytes texts.summary in
    ap (λ cs. cs ++ saving texts.journal (journal_text plan journal) ∷ saving texts.output summary ∷ []) are.captures
    ∙ ap (λ name. captures_from 0 out journal plan.hosts ++ saving name (journal_text plan journal) ∷ saving texts.output summary ∷ []) are.journal
    ∙ ap (λ name. captures_from 0 out journal plan.hosts ++ saving (journal_name out) (journal_text plan journal) ∷ saving name summary ∷ []) are.output

pub all_saved : (old new : List ℕ → Held) (out : List ℕ) (plan : Plan) (journal : List Entry) (texts : Texts) → IsPlan plan →
    AreTexts out plan journal texts → SavedInTurn old (savings_of plan journal texts) new →
    AreSaved old new (saved_texts out plan journal (string_bytes texts.summary))
all_saved old new out plan journal texts is are turn =
    let savings = saved_texts out plan journal (string_bytes texts.summary) in
    saved_all old new savings (texts_apart out plan journal (string_bytes texts.summary) is)
    (subst (λ s. SavedInTurn old s new) (texts_saved out plan journal texts are) turn)

pub one_broken : (old new : List ℕ → Held) (out name : List ℕ) (plan : Plan) (journal : List Entry) (texts : Texts) → IsPlan plan →
    AreTexts out plan journal texts → BreaksInTurn old (savings_of plan journal texts) name new →
    BreaksOff old new (saved_texts out plan journal (string_bytes texts.summary)) name
one_broken old new out name plan journal texts is are turn =
    let savings = saved_texts out plan journal (string_bytes texts.summary) in
    breaks_off old new savings name (texts_apart out plan journal (string_bytes texts.summary) is)
    (subst (λ s. BreaksInTurn old s name new) (texts_saved out plan journal texts are) turn)

pub texts_room : (capacity : List ℕ → Option ℕ) (old : List ℕ → Held) (out : List ℕ) (plan : Plan) (journal : List Entry) (texts : Texts) → IsPlan plan →
    AreTexts out plan journal texts → HaveRoom capacity old (saved_texts out plan journal (string_bytes texts.summary)) →
    HaveRoomInTurn capacity old (savings_of plan journal texts)
texts_room capacity old out plan journal texts is are room =
    let savings = saved_texts out plan journal (string_bytes texts.summary) in
    subst (λ s. HaveRoomInTurn capacity old s) (sym (texts_saved out plan journal texts are))
    (room_in_turn capacity old savings (texts_apart out plan journal (string_bytes texts.summary) is) room)
