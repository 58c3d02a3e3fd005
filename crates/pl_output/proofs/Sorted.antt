-- A journal that is read into the inboxes of hosts.
use Rattle.std.proofs.Common.{◌≡◌, ◌≢◌, ◌∙◌, ℕ, zero, suc, add-one, drop-cons, None, ◌+◌, ◌<◌, ◌≤◌, ◌==◌, true, false, if◌then◌else◌, List, [], ◌∷◌, ◌++◌, length, drop, map, min, All, Option, Some, slice_get, slice_index_or, slice_set, refl, sym, ap, subst, append_assoc, arith}
use Rattle.std.proofs.lemmas.Bool.{eq-eqb, eqb-true, eqb-false, false_from_ne_true}
use Rattle.std.proofs.lemmas.List.{append-nil, drop_all, get_or-set_same, get_or-set_other, length-set, map-append}
use Rattle.std.proofs.Math.Seq.{map-set_same}
use Rattle.std.proofs.lemmas.Option.{slice_get_read}
use Rattle.pl_capture.specs.Spelling.{saved_packet, saved_bytes}
use Rattle.pl_wiring.specs.declared.host.Host.{Host}
use Rattle.pl_journal.specs.declared.entry.Entry.{Entry}
use Rattle.pl_journal.specs.declared.entry.Entry.TheVariants.{Line, Arrived}
use Rattle.pl_output.specs.declared.saving.receipt.LastLine.{LastLine}
use Rattle.pl_output.specs.Mail.{Mail, IsEmpty, arrives_at, capture_name, delivered, empty_mail, earlier_in, frame_in, line_after, name_of, no_mail, packet_at, packets_at, with_receipt}
use Rattle.pl_output.specs.Received.{received_by, received_from}
use Rattle.pl_output.specs.Receipts.{AreReceived, capture_in, captures_from}
use Rattle.pl_output.specs.Saved.{Saving}

-- the receipts of a host, and what it receives in the rest of the journal, are what it receives
abbrev pub IsComing : List Entry → ℕ → LastLine → List Entry → Mail → Type 0
IsComing journal n line rest mail =
    packets_at journal mail.receipts ++ received_from n line.number (earlier_in mail line) rest ≡ received_by n journal

-- the entries before this index are read
pub record Sorted (journal : List Entry) (index : ℕ) (line : LastLine) (boxes : List Mail) : Type 0 where
  pub coming : (n : ℕ) (d : Mail) → n < length boxes → IsComing journal n line (drop index journal) (slice_index_or boxes n d)
  pub begun : All (λ m. m.behind ≤ line.behind) boxes
  pub within : line.behind ≤ index

-- only the last microsecond counts
same_micros : (n line a b : ℕ) (es : List Entry) → min a 999999 ≡ min b 999999 → received_from n line a es ≡ received_from n line b es
same_micros n line a b [] is = refl
same_micros n line a b (Line m ∷ es) is = refl
same_micros n line a b (Arrived id h f ∷ es) is =
    let next : min (a + 1) 999999 ≡ min (b + 1) 999999 = omega (arith, is) in
    elim (h.0 == n) as (λ t.
    (if t then saved_packet line (min a 999999) f ∷ received_from n line (a + 1) es else received_from n line a es)
    ≡ (if t then saved_packet line (min b 999999) f ∷ received_from n line (b + 1) es else received_from n line b es)) [
      | true ↦ ap (λ m. saved_packet line m f ∷ received_from n line (a + 1) es) is
          ∙ ap (λ r. saved_packet line (min b 999999) f ∷ r) (same_micros n line (a + 1) (b + 1) es next)
      | false ↦ same_micros n line a b es is
    ]
same_micros n line a b (e ∷ es) is = same_micros n line a b es is

coming_line : (journal rest : List Entry) (n number index : ℕ) (line : LastLine) (mail : Mail) →
    IsComing journal n line (Line number ∷ rest) mail → mail.behind ≤ line.behind → line.behind ≤ index →
    IsComing journal n (record { number = number; behind = index + 1 }) rest mail
coming_line journal rest n number index line mail is begun within =
    let other : (mail.behind == index + 1) ≡ false = false_from_ne_true _ (λ same.
    let e : mail.behind ≡ index + 1 = eqb-true mail.behind (index + 1) same in
    absurd (omega (arith, e, begun, within))) in
    ap (λ b. packets_at journal mail.receipts ++ received_from n number (if b then mail.earlier else 0) rest) other ∙ is

coming_here : (journal rest : List Entry) (n id index : ℕ) (h : _) (f : List ℕ) (line : LastLine) (mail : Mail) →
    IsComing journal n line (Arrived id h f ∷ rest) mail → (h.0 == n) ≡ true → slice_get journal index ≡ Some (Arrived id h f) →
    IsComing journal n line rest (with_receipt mail line index)
coming_here journal rest n id index h f line mail coming is at =
    let e = earlier_in mail line in
    let before = packets_at journal mail.receipts in
    let packet = saved_packet line.number (min e 999999) f in
    let next = with_receipt mail line index in
    let one : packet_at journal (record { seconds = line.number; micros = min e 999999; entry = index }) ≡ packet =
    ap (λ o. saved_packet line.number (min e 999999) (frame_in o)) at in
    let all : packets_at journal next.receipts ≡ before ++ packet ∷ [] =
    map-append (packet_at journal) mail.receipts _ ∙ ap (λ p. before ++ p ∷ []) one in
    let more : earlier_in next line ≡ min e 999999 + 1 =
    ap (λ b. if b then min e 999999 + 1 else 0) (eq-eqb line.behind line.behind refl) in
    let left : received_from n line.number (earlier_in next line) rest ≡ received_from n line.number (e + 1) rest =
    ap (λ k. received_from n line.number k rest) more ∙ same_micros n line.number (min e 999999 + 1) (e + 1) rest (omega arith) in
    let was : before ++ packet ∷ received_from n line.number (e + 1) rest ≡ received_by n journal =
    subst (λ b. before ++ (if b then packet ∷ received_from n line.number (e + 1) rest else received_from n line.number e rest) ≡ received_by n journal) is coming in
    ap (λ l. l ++ received_from n line.number (earlier_in next line) rest) all ∙ append_assoc before (packet ∷ []) _
    ∙ ap (λ r. before ++ packet ∷ r) left ∙ was

coming_elsewhere : (journal rest : List Entry) (n id : ℕ) (h : _) (f : List ℕ) (line : LastLine) (mail : Mail) →
    IsComing journal n line (Arrived id h f ∷ rest) mail → (h.0 == n) ≡ false → IsComing journal n line rest mail
coming_elsewhere journal rest n id h f line mail coming is =
    let e = earlier_in mail line in
    subst (λ b. packets_at journal mail.receipts
    ++ (if b then saved_packet line.number (min e 999999) f ∷ received_from n line.number (e + 1) rest else received_from n line.number e rest)
    ≡ received_by n journal) is coming

-- the boxes with one more receipt
coming_set : (journal rest : List Entry) (index id : ℕ) (h : _) (f : List ℕ) (line : LastLine) (boxes : List Mail) →
    ((n : ℕ) (d : Mail) → n < length boxes → IsComing journal n line (Arrived id h f ∷ rest) (slice_index_or boxes n d)) →
    slice_get journal index ≡ Some (Arrived id h f) → (n : ℕ) (d : Mail) → n < length boxes →
    IsComing journal n line rest (slice_index_or (delivered boxes (Some h.0) line index) n d)
coming_set journal rest index id h f line boxes coming at n d within =
    let box = with_receipt (slice_index_or boxes h.0 (no_mail [])) line index in
    elim (h.0 == n) as (λ b. (h.0 == n) ≡ b → IsComing journal n line rest (slice_index_or (slice_set boxes h.0 box) n d)) [
      | true ↦ λ is.
          let same : h.0 ≡ n = eqb-true h.0 n is in
          let here : slice_index_or (slice_set boxes h.0 box) n d ≡ box =
          ap (λ k. slice_index_or (slice_set boxes h.0 box) k d) (sym same) ∙ get_or-set_same boxes h.0 box d (omega (arith, same, within)) in
          let old : IsComing journal n line (Arrived id h f ∷ rest) (slice_index_or boxes h.0 (no_mail [])) =
          subst (λ k. IsComing journal n line (Arrived id h f ∷ rest) (slice_index_or boxes k (no_mail []))) (sym same) (coming n (no_mail []) within) in
          subst (λ m. IsComing journal n line rest m) (sym here) (coming_here journal rest n id index h f line (slice_index_or boxes h.0 (no_mail [])) old is at)
      | false ↦ λ is.
          let other : n ≢ h.0 = λ e. eqb-false h.0 n is (sym e) in
          subst (λ m. IsComing journal n line rest m) (sym (get_or-set_other boxes h.0 n box d other))
          (coming_elsewhere journal rest n id h f line (slice_index_or boxes n d) (coming n d within) is)
    ] refl

begun_set : (boxes : List Mail) (h behind : ℕ) (box : Mail) → All (λ m. m.behind ≤ behind) boxes → box.behind ≡ behind →
    All (λ m. m.behind ≤ behind) (slice_set boxes h box)
begun_set boxes h behind box begun is k d within =
    let long : k < length boxes = omega (arith, within, length-set boxes h box) in
    elim (k == h) as (λ b. (k == h) ≡ b → (slice_index_or (slice_set boxes h box) k d).behind ≤ behind) [
      | true ↦ λ e.
          let same : k ≡ h = eqb-true k h e in
          let here : slice_index_or (slice_set boxes h box) k d ≡ box =
          ap (λ i. slice_index_or (slice_set boxes h box) i d) same ∙ get_or-set_same boxes h box d (omega (arith, same, long)) in
          let it : (slice_index_or (slice_set boxes h box) k d).behind ≡ behind = ap (λ m. m.behind) here ∙ is in
          omega (arith, it)
      | false ↦ λ e.
          let it = ap (λ m. m.behind) (get_or-set_other boxes h k box d (eqb-false k h e)) in
          let was = begun k d long in
          omega (arith, it, was)
    ] refl

sorted_entry : (journal rest : List Entry) (index : ℕ) (line : LastLine) (boxes : List Mail) (entry : Entry) →
    ((n : ℕ) (d : Mail) → n < length boxes → IsComing journal n line (entry ∷ rest) (slice_index_or boxes n d)) →
    All (λ m. m.behind ≤ line.behind) boxes → line.behind ≤ index → rest ≡ drop (index + 1) journal → slice_get journal index ≡ Some entry →
    Sorted journal (index + 1) (line_after entry index line) (delivered boxes (arrives_at entry) line index)
sorted_entry journal rest index line boxes (Line number) coming begun within is at = record {
  coming = λ n d lt. subst (λ r. IsComing journal n (record { number = number; behind = index + 1 }) r (slice_index_or boxes n d)) is
      (coming_line journal rest n number index line (slice_index_or boxes n d) (coming n d lt) (begun n d lt) within);
  begun = λ k d lt. let was = begun k d lt in omega (arith, was, within);
  within = omega arith;
}
sorted_entry journal rest index line boxes (Arrived id h f) coming begun within is at =
    let box = with_receipt (slice_index_or boxes h.0 (no_mail [])) line index in
    record {
      coming = λ n d lt. subst (λ r. IsComing journal n line r (slice_index_or (slice_set boxes h.0 box) n d)) is
          (coming_set journal rest index id h f line boxes coming at n d (omega (arith, lt, length-set boxes h.0 box)));
      begun = begun_set boxes h.0 line.behind box begun refl;
      within = omega (arith, within);
    }
sorted_entry journal rest index line boxes entry coming begun within is at = record {
  coming = λ n d lt. subst (λ r. IsComing journal n line r (slice_index_or boxes n d)) is (coming n d lt);
  begun = begun;
  within = omega (arith, within);
}

pub sorted_more : (journal : List Entry) (index : ℕ) (line : LastLine) (boxes : List Mail) (entry : Entry) →
    drop index journal ≡ entry ∷ drop (index + 1) journal → slice_get journal index ≡ Some entry → Sorted journal index line boxes →
    Sorted journal (index + 1) (line_after entry index line) (delivered boxes (arrives_at entry) line index)
sorted_more journal index line boxes entry here at sorted =
    sorted_entry journal (drop (index + 1) journal) index line boxes entry
    (λ n d lt. subst (λ r. IsComing journal n line r (slice_index_or boxes n d)) here (sorted.coming n d lt))
    sorted.begun sorted.within refl at

pub sorted_none : (journal : List Entry) (line : LastLine) (boxes : List Mail) → line.number ≡ 0 → line.behind ≡ 0 → All IsEmpty boxes →
    Sorted journal 0 line boxes
unfolding received_by
sorted_none journal line boxes first start empty = record {
  coming = λ n d lt.
      let mail = slice_index_or boxes n d in
      let is = empty n d lt in
      let none : earlier_in mail line ≡ 0 = elim (mail.behind == line.behind) as (λ b. (if b then mail.earlier else 0) ≡ 0) [ true ↦ is.earlier | false ↦ refl ] in
      ap (λ r. packets_at journal r ++ received_from n line.number (earlier_in mail line) journal) is.receipts
      ∙ ap (λ k. received_from n k (earlier_in mail line) journal) first ∙ ap (λ k. received_from n 0 k journal) none;
  begun = λ k d lt. let is = (empty k d lt).behind in omega (arith, is);
  within = omega (arith, start);
}

pub sorted_all : (journal : List Entry) (index : ℕ) (line : LastLine) (boxes : List Mail) → length journal ≤ index → Sorted journal index line boxes →
    AreReceived journal boxes
sorted_all journal index line boxes long sorted n d within =
    let mail = slice_index_or boxes n d in
    sym (append-nil (packets_at journal mail.receipts))
    ∙ sym (ap (λ r. packets_at journal mail.receipts ++ received_from n line.number (earlier_in mail line) r) (drop_all index journal long))
    ∙ sorted.coming n d within

abbrev saving : List ℕ → List ℕ → Saving
saving name text = record { name = name; text = text }

pub captures_received : (n : ℕ) (out : List ℕ) (journal : List Entry) (boxes : List Mail) (hosts : List Host) →
    map name_of boxes ≡ map (capture_name out) hosts →
    ((k : ℕ) (d : Mail) → k < length boxes → packets_at journal (slice_index_or boxes k d).receipts ≡ received_by (n + k) journal) →
    map (capture_in journal) boxes ≡ captures_from n out journal hosts
captures_received n out journal [] [] names all = refl
captures_received n out journal [] (h ∷ hs) names all = absurd (omega (arith, ap length names))
captures_received n out journal (b ∷ bs) [] names all = absurd (omega (arith, ap length names))
captures_received n out journal (b ∷ bs) (h ∷ hs) names all =
    let name : name_of b ≡ capture_name out h = cc in
    let others : map name_of bs ≡ map (capture_name out) hs = cc in
    let plain : n + 0 ≡ n = omega arith in
    let here : packets_at journal b.receipts ≡ received_by n journal = all 0 b (omega arith) ∙ ap (λ k. received_by k journal) plain in
    let rest : (k : ℕ) (d : Mail) → k < length bs → packets_at journal (slice_index_or bs k d).receipts ≡ received_by (n + 1 + k) journal =
    λ k d lt. let e : n + suc k ≡ n + 1 + k = omega arith in all (suc k) d (omega (arith, lt)) ∙ ap (λ i. received_by i journal) e in
    ap (λ m. saving m (saved_bytes (packets_at journal b.receipts)) ∷ map (capture_in journal) bs) name
    ∙ ap (λ p. saving (capture_name out h) (saved_bytes p) ∷ map (capture_in journal) bs) here
    ∙ ap (λ r. saving (capture_name out h) (saved_bytes (received_by n journal)) ∷ r)
    (captures_received (n + 1) out journal bs hs others rest)

pub entry_at : (entries : List Entry) (index : ℕ) (entry : Entry) → index < length entries → entry ≡ slice_index_or entries index entry →
    (drop index entries ≡ entry ∷ drop (index + 1) entries) × (slice_get entries index ≡ Some entry)
entry_at entries index entry within is = (
  rw add-one (drop-cons entries index entry within ∙ ap (λ e. e ∷ drop (suc index) entries) (sym is)),
  slice_get_read entries (length entries) index entry refl within is,
)

-- the names of the boxes stay
pub delivered-names : (boxes : List Mail) (host : Option ℕ) (line : LastLine) (index : ℕ) →
    map name_of (delivered boxes host line index) ≡ map name_of boxes
delivered-names boxes None line index = refl
delivered-names boxes (Some host) line index = map-set_same name_of boxes host _ (no_mail []) refl

pub empty_all : (out : List ℕ) (hosts : List Host) → All IsEmpty (map (empty_mail out) hosts)
empty_all out [] k d within = absurd (omega arith)
empty_all out (h ∷ hs) zero d within = record { receipts = refl; behind = refl; earlier = refl }
empty_all out (h ∷ hs) (suc k) d within = empty_all out hs k d (omega (arith, within))
