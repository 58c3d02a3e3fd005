-- Entries that are written: one of a frame in hand, and a list of drops.
use Rattle.std.proofs.Common.{◌≡◌, ℕ, ◌+◌, ◌==◌, true, false, List, [], ◌∷◌, ◌++◌, reverse, refl, sym, ◌∙◌, ap, subst, arith, append-nil, inl, inr}
use Rattle.std.specs.List.{AllByRecursion}
use Rattle.std.proofs.lemmas.Bool.{cases_Bool, cond-false, cond-true, eq-eqb, eqb-false, ne_eqb}
use Rattle.std.proofs.lemmas.List.{append_assoc, reverse-append}
use Rattle.pl_wiring.specs.LiveLinks.{LivePorts}
use Rattle.pl_wiring.specs.Plan.{Plan}
use Rattle.pl_layouts.specs.declared.place.Place.{Place}
use Rattle.pl_journal.specs.declared.cause.Cause.{Cause}
use Rattle.pl_journal.specs.declared.entry.Entry.{Entry}
use Rattle.pl_journal.specs.declared.entry.Entry.TheVariants.{Dropped}
use Rattle.pl_journal.specs.Causes.{CauseShows, touches_failed_link}
use Rattle.pl_journal.specs.Flights.{ends, first_of, is_flying, trail}
use Rattle.pl_journal.specs.Lossy.{CrossesWell, Needs}
use Rattle.pl_journal.specs.Places.{has_failed_link}
use Rattle.pl_world.specs.declared.item.Item.{Item}
use Rattle.pl_world.specs.declared.attachment.AttachmentPoint.{AttachmentPoint}
use Rattle.pl_world.proofs.Exports.{ends-cons}
use Rattle.pl_law_flights.specs.OnTheWay.{LinksAgree, AttachmentsAgree, JournalSays, history_of}
use Rattle.pl_law_flights.proofs.Counting.{Counts, IsNowhere, owed}
use Rattle.pl_law_flights.proofs.Hands.{IsPutOff, IsShown}
use Rattle.pl_law_flights.proofs.KeepingFlights.{Keeps, KeepsHistory, goes_on, kept, same_history}

pub reverse_noted : (journal past : List Entry) (e : Entry) → reverse journal ≡ past → reverse (journal ++ e ∷ []) ≡ e ∷ past
reverse_noted journal past e is = reverse-append journal (e ∷ []) ∙ ap (λ r. e ∷ r) is

-- the entries of a list, each in its turn
abbrev pub grown : List Entry → List Entry → List Entry
grown [] past = past
grown (e ∷ entries) past = grown entries (e ∷ past)

pub reverse_grown : (entries journal past : List Entry) → reverse journal ≡ past → reverse (journal ++ entries) ≡ grown entries past
reverse_grown [] journal past is = ap reverse (append-nil journal) ∙ is
reverse_grown (e ∷ entries) journal past is =
    ap reverse (sym (append_assoc journal (e ∷ []) entries)) ∙ reverse_grown entries (journal ++ e ∷ []) (e ∷ past) (reverse_noted journal past e is)

pub ends_here : (g : ℕ) (why : Cause) (late : List Entry) → ends (Dropped g why ∷ late) g ≡ 1 + ends late g
ends_here g why late =
    let more : ends (Dropped g why ∷ late) g ≡ ends late g + 1 = cond-true (g == g) (ends late g + 1) (ends late g) (eq-eqb g g refl) in omega arith

module _ (plan : Plan) (place : ℕ → Place) where
  -- an entry is written that speaks of no frame in a queue
  pub note : (past : List Entry) (links : LivePorts) (attachments : List AttachmentPoint) (from_hosts out : List (List Item)) (e : Entry) (id : ℕ) →
      IsNowhere from_hosts out id → ((g : ℕ) → (id == g) ≡ false → Keeps plan past (e ∷ past) g) → KeepsHistory (history_of past) (history_of (e ∷ past)) →
      Needs plan past e → CrossesWell plan past e → LinksAgree plan (e ∷ past) links → AttachmentsAgree plan (e ∷ past) attachments →
      JournalSays plan place past links attachments from_hosts out → JournalSays plan place (e ∷ past) links attachments from_hosts out
  note past links attachments from_hosts out e id away keeps history needs crosses links_agree attachments_agree t = record {
    run = (t.run, needs);
    trail = (t.trail, crosses);
    links_agree = links_agree;
    attachments_agree = attachments_agree;
    flying = goes_on plan place past (e ∷ past) from_hosts out id away keeps history t.flying;
  }

  -- an end is written
  pub note_drop : (past : List Entry) (links : LivePorts) (attachments : List AttachmentPoint) (from_hosts out : List (List Item)) (id : ℕ) (why : Cause) →
      IsNowhere from_hosts out id → is_flying past id ≡ true → CauseShows plan past id why →
      JournalSays plan place past links attachments from_hosts out → JournalSays plan place (Dropped id why ∷ past) links attachments from_hosts out
  note_drop past links attachments from_hosts out id why away flies shows t =
      note past links attachments from_hosts out (Dropped id why) id away (λ g other. kept plan past (Dropped id why) g tt) (same_history (history_of past))
      (flies, shows) tt t.links_agree t.attachments_agree t

  -- what is put off stays so
  pub late_kept : (past later : List Entry) (s id : ℕ) → ((g : ℕ) → (id == g) ≡ false → Keeps plan past later g) →
      has_failed_link plan later s ≡ has_failed_link plan past s → (late : List Entry) → ends late id ≡ 0 →
      AllByRecursion (IsPutOff plan past s) late → AllByRecursion (IsPutOff plan later s) late
  late_kept past later s id keeps links [] none all = tt
  late_kept past later s id keeps links (Dropped g why ∷ late) none all = elim (cases_Bool (g == id)) [
    | inl same ↦ let more : ends (Dropped g why ∷ late) id ≡ ends late id + 1 = cond-true (g == id) (ends late id + 1) (ends late id) same in
        absurd (omega arith)
    | inr other ↦
        let rest : ends (Dropped g why ∷ late) id ≡ ends late id = cond-false (g == id) (ends late id + 1) (ends late id) other in
        let apart : (id == g) ≡ false = ne_eqb id g (λ e. eqb-false g id other (sym e)) in
        let same : trail later g ≡ trail past g = ap (λ w. w.trail) ((keeps g apart).flight) in
        let shown : IsShown plan past s g why = all.0 in
        let there : IsShown plan later s g why = record { down = shown.down; last = ap first_of same ∙ shown.last; failed = links ∙ shown.failed } in
        (there, late_kept past later s id keeps links late (sym rest ∙ none) all.1)
  ]
  late_kept past later s id keeps links (entry ∷ late) none all = absurd all.0

  -- the ends that were put off are written
  pub late_written : (s : ℕ) (late past : List Entry) (links : LivePorts) (attachments : List AttachmentPoint) (from_hosts out : List (List Item)) →
      AllByRecursion (IsPutOff plan past s) late → Counts past from_hosts out (λ id. ends late id) →
      JournalSays plan place past links attachments from_hosts out → JournalSays plan place (grown late past) links attachments from_hosts out
  late_written s [] past links attachments from_hosts out all c t = t
  late_written s (Dropped g why ∷ late) past links attachments from_hosts out all c t =
      let shown : IsShown plan past s g why = all.0 in
      let here : ends (Dropped g why ∷ late) g ≡ 1 + ends late g = ends_here g why late in
      let o = owed plan past from_hosts out (λ id. ends (Dropped g why ∷ late) id) g (ends late g) t.run c here in
      let shows : CauseShows plan past g why = subst (CauseShows plan past g) (sym shown.down) (ap (touches_failed_link plan past) shown.last ∙ shown.failed) in
      late_written s late (Dropped g why ∷ past) links attachments from_hosts out
      (late_kept past (Dropped g why ∷ past) s g (λ n other. kept plan past (Dropped g why) n tt) refl late o.no_more all.1)
      (record { flights = λ id. omega (arith, c.flights id, ends-cons (Dropped g why) late id, ends-cons (Dropped g why) past id) })
      (note_drop past links attachments from_hosts out g why (record { not_at_hosts = o.not_at_hosts; not_out = o.not_out }) o.flies shows t)
  late_written s (entry ∷ late) past links attachments from_hosts out all c t = absurd all.0
