-- What follows for one step, and for runs.
use Rattle.std.proofs.Common.{◌≡◌, ℕ, zero, suc, ◌+◌, ◌==◌, Bool, true, false, if◌then◌else◌, cond, List, [], ◌∷◌, ◌++◌, length, map, reverse, drop, get_or, set, slice_get, Option, Some, None, refl, sym, ap, ◌∙◌, subst, arith, append-nil, append_assoc, eq-eqb, ne_eqb, inl, inr, ◌⊎◌}
use Rattle.std.specs.Option.{option_or}
use Rattle.std.specs.List.{cons_option, filter_map, find, range_with_len}
use Rattle.std.proofs.Math.Seq.{drop-append_seam}
use Rattle.std.specs.Prelude.{Contains}
use Rattle.std.proofs.lemmas.Bool.{false≢true}
use Rattle.std.proofs.lemmas.Option.{none-some, same_Some}
use Rattle.std.proofs.lemmas.List.{length-append, map-append, reverse-append, reverse-reverse}
use Rattle.std.proofs.lemmas.List.Elements.{filter_map-append}
use Rattle.pl_lemmas.proofs.Exports.{range_more}
use Rattle.pl_frame.specs.declared.address.SwitchId.{SwitchId}
use Rattle.pl_pmac.specs.declared.pmac.Pmac.{Pmac}
use Rattle.pl_layouts.specs.declared.place.Place.{Place}
use Rattle.pl_layouts.specs.Equality.{same_pmac}
use Rattle.pl_layouts.specs.Placement.{nowhere, same_place}
use Rattle.pl_layouts.proofs.Exports.{place_is, place_itself, pmac_is}
use Rattle.pl_wiring.specs.Plan.{Plan}
use Rattle.pl_journal.specs.declared.entry.Entry.{Entry}
use Rattle.pl_journal.specs.declared.entry.Entry.TheVariants.{Arrived, Copied, Crossed, Dropped, Freed, Granted, Line, LinkDown, LinkUp, Made, Moved, Placed, Redirected, Registered, Restarted, Sent, Settled, Skipped, Taken, Unsettled}
use Rattle.pl_journal.specs.Places.{restarts}
use Rattle.pl_node.specs.HostInputs.{HostRule}
use Rattle.pl_node.proofs.Exports.{IsAmong, among_append, among_left, among_of_Contains, among_right, Contains-of_among, nothing_numbered}
use Rattle.pl_node.specs.ManagerDuties.{AnswersDuly, AreNumbered, ManagerRule, numbered_by, with_number}
use Rattle.pl_node.specs.ManagerViews.{Learnt, ManagerView, Registration, registration, registry, restarted_manager}
use Rattle.pl_node.specs.SwitchFacts.{switch_at_boot}
use Rattle.pl_node.specs.SwitchInputs.{SwitchRule}
use Rattle.pl_node.specs.SwitchViews.{SwitchView}
use Rattle.pl_world.specs.declared.event.Event.{Event}
use Rattle.pl_world.specs.declared.event.Event.TheVariants as event
use Rattle.pl_world.specs.declared.limits.Limits.{Limits}
use Rattle.pl_world.specs.Booting.{booted}
use Rattle.pl_world.specs.Changes.{noted}
use Rattle.pl_world.specs.Drops.{written}
use Rattle.pl_world.specs.Runs.{IsMark, Moment, WorldRun}
use Rattle.pl_world.specs.Runs.Moment.{Mark, Step}
use Rattle.pl_world.specs.WorldRule.{WorldStep}
use Rattle.pl_world.specs.Worlds.{WorldView}
use Rattle.pl_law_records.specs.Entries.{AreInTurn, last_number, last_registration, new_places, place_written, placing_in, placings, registration_in, registrations}
use Rattle.pl_law_records.proofs.StepsWriteEntries.{BeginsAnew, Outcome, outcome, placed_then}
use Rattle.pl_law_records.proofs.StepsWriteEntries.Outcome.{Managed, Neither, Restarts, Turned}
use Rattle.pl_law_records.proofs.EntriesWritten.{Adds, IsOther, restarts_in}

-- Places.

none_new : (n : ℕ) (views : List SwitchView) → new_places n views views ≡ []
none_new n [] = refl
none_new n (v ∷ views) = ap (λ b. if b then new_places (n + 1) views views else (n, v.place) ∷ new_places (n + 1) views views) (place_itself v.place) ∙ none_new (n + 1) views

one_new : (n s : ℕ) (views : List SwitchView) (before after : SwitchView) → slice_get views s ≡ Some before →
    new_places n views (set views s after) ≡ placed_then (n + s) before.place after.place
one_new n s [] before after found = absurd (cc)
one_new n zero (v ∷ views) before after found =
    let same : v ≡ before = cc in
    ap (λ rest. if same_place v.place after.place then rest else (n, after.place) ∷ rest) (none_new (n + 1) views)
    ∙ ap (λ (u : SwitchView). placed_then n u.place after.place) same ∙ ap (λ m. placed_then m before.place after.place) (omega arith)
one_new n (suc s) (v ∷ views) before after found =
    ap (λ b. if b then new_places (n + 1) views (set views s after) else (n, v.place) ∷ new_places (n + 1) views (set views s after)) (place_itself v.place)
    ∙ one_new (n + 1) s views before after found ∙ ap (λ m. placed_then m before.place after.place) (omega arith)

entries_written : (old new : WorldView) (places : List (ℕ × Place)) (registered : List (Pmac × ℕ)) → (adds : Adds old.journal new.journal places registered) → written old new ≡ adds.entries
entries_written old new places registered adds = ap (drop (length old.journal)) adds.added ∙ drop-append_seam old.journal adds.entries

anew_written : (old : WorldView) (happens : Event) (new : WorldView) → BeginsAnew old happens new → written old new ≡ Restarted (old.manager.epoch + 1) ∷ []
anew_written old happens new anew = ap (drop (length old.journal)) anew.journal ∙ drop-append_seam old.journal (Restarted (old.manager.epoch + 1) ∷ [])

-- what a step writes of registrations where the manager goes on
pub record Registers (old new : WorldView) : Type 0 where
  pub entries : List Entry
  pub added : new.journal ≡ old.journal ++ entries
  pub goes_on : restarts_in entries ≡ []
  pub given : AreNumbered old.manager new.manager (registrations entries)

module _ (switch : SwitchRule) (manager : ManagerRule) (host : HostRule) (old : WorldView) (happens : Event) (new : WorldView) (step : WorldStep switch manager host old happens new) where
  pub places_written : placings (written old new) ≡ new_places 0 old.switches new.switches
  places_written = by (outcome manager switch host old happens new step)
    where
      by : Outcome manager old happens new → placings (written old new) ≡ new_places 0 old.switches new.switches
      by (Neither q) =
          ap placings (entries_written old new [] [] q.adds) ∙ q.adds.of_places ∙ sym (ap (new_places 0 old.switches) q.switches ∙ none_new 0 old.switches)
      by (Turned s before after found switches adds stays) =
          ap placings (entries_written old new _ [] adds) ∙ adds.of_places
          ∙ sym (ap (new_places 0 old.switches) switches ∙ one_new 0 s old.switches before after found ∙ ap (λ n. placed_then n before.place after.place) (omega arith))
      by (Managed id told after acts ruled is adds switches) =
          ap placings (entries_written old new [] _ adds) ∙ adds.of_places ∙ sym (ap (new_places 0 old.switches) switches ∙ none_new 0 old.switches)
      by (Restarts anew) =
          ap placings (anew_written old happens new anew) ∙ sym (ap (new_places 0 old.switches) anew.switches ∙ none_new 0 old.switches)

  -- a manager that goes on numbers addresses, or it begins anew
  pub registers : AnswersDuly manager → Registers old new ⊎ BeginsAnew old happens new
  registers duly = by (outcome manager switch host old happens new step)
    where
      none : (places : List (ℕ × Place)) → Adds old.journal new.journal places [] → new.manager ≡ old.manager → Registers old new
      none places adds same = record {
        entries = adds.entries;
        added = adds.added;
        goes_on = adds.of_restarts;
        given =
            subst (AreNumbered old.manager new.manager) (sym adds.of_registrations)
            (subst (λ m. AreNumbered old.manager m []) (sym same) (nothing_numbered old.manager));
      }

      by : Outcome manager old happens new → Registers old new ⊎ BeginsAnew old happens new
      by (Neither q) = inl (none [] q.adds q.manager)
      by (Turned s before after found switches adds stays) = inl (none _ adds stays)
      by (Managed id told after acts ruled is adds switches) = inl (record {
        entries = adds.entries;
        added = adds.added;
        goes_on = adds.of_restarts;
        given =
            subst (AreNumbered old.manager new.manager) (sym adds.of_registrations)
            (subst (λ m. AreNumbered old.manager m (filter_map numbered_by acts)) (sym is) (duly.numbered old.manager id told after acts ruled));
      })
      by (Restarts anew) = inr anew

  pub registrations_written : AnswersDuly manager → (happens ≡ event.Restart → ⊥) → AreNumbered old.manager new.manager (registrations (written old new))
  registrations_written duly goes_on = elim (registers duly) [
    | inl r ↦ subst (λ es. AreNumbered old.manager new.manager (registrations es))
        (sym (ap (drop (length old.journal)) r.added ∙ drop-append_seam old.journal r.entries)) r.given
    | inr anew ↦ absurd (goes_on anew.is)
  ]

pub restart_written : (switch : SwitchRule) (manager : ManagerRule) (host : HostRule) (old new : WorldView) →
    WorldStep switch manager host old event.Restart new → (registrations (written old new) ≡ []) × (new.manager ≡ restarted_manager old.manager.k (old.manager.epoch + 1))
restart_written switch manager host old new step = (
  ap (λ (w : WorldView). registrations (drop (length old.journal) w.journal)) step
      ∙ ap registrations (drop-append_seam old.journal (Restarted (old.manager.epoch + 1) ∷ [])),
  ap (λ (w : WorldView). w.manager) step,
)

-- What is written of places, one after the other.
abbrev after_placings : List (ℕ × Place) → ℕ → Place → Place
after_placings [] s place = place
after_placings (p ∷ ps) s place = after_placings ps s (if p.0 == s then p.1 else place)

one_written : (e : Entry) (past : List Entry) (s : ℕ) → place_written (e ∷ past) s ≡ after_placings (cons_option (placing_in e) []) s (place_written past s)
one_written (Placed t place) past s = refl
one_written (Freed pmac) past s = refl
one_written (Line n) past s = refl
one_written (Sent id h frame) past s = refl
one_written (Skipped h skip) past s = refl
one_written (Made id t frame) past s = refl
one_written (Crossed id t) past s = refl
one_written (Redirected id x y) past s = refl
one_written (Copied id copy) past s = refl
one_written (Arrived id h frame) past s = refl
one_written (Taken id t) past s = refl
one_written (Dropped id c) past s = refl
one_written (Granted x h t port) past s = refl
one_written (Registered x n) past s = refl
one_written (LinkDown a b) past s = refl
one_written (LinkUp a b) past s = refl
one_written (Moved h t port) past s = refl
one_written (Restarted n) past s = refl
one_written (Settled n) past s = refl
one_written (Unsettled n) past s = refl

first_then : (o : Option (ℕ × Place)) (ps : List (ℕ × Place)) (s : ℕ) (place : Place) →
    after_placings ps s (after_placings (cons_option o []) s place) ≡ after_placings (cons_option o ps) s place
first_then None ps s place = refl
first_then (Some p) ps s place = refl

all_written : (journal es : List Entry) (s : ℕ) → place_written (reverse (journal ++ es)) s ≡ after_placings (placings es) s (place_written (reverse journal) s)
all_written journal [] s = ap (λ j. place_written (reverse j) s) (append-nil journal)
all_written journal (e ∷ es) s =
    ap (λ j. place_written (reverse j) s) (sym (append_assoc journal (e ∷ []) es)) ∙ all_written (journal ++ e ∷ []) es s
    ∙ ap (λ past. after_placings (placings es) s (place_written past s)) (reverse-append journal (e ∷ []))
    ∙ ap (after_placings (placings es) s) (one_written e (reverse journal) s) ∙ first_then (placing_in e) (placings es) s (place_written (reverse journal) s)

-- a mark says nothing of either, nor of a restart
pub mark_is_other : (e : Entry) → IsMark e → IsOther e
mark_is_other (Line n) is = (refl, refl, refl)
mark_is_other (Settled n) is = (refl, refl, refl)
mark_is_other (Unsettled n) is = (refl, refl, refl)
mark_is_other (Placed t place) is = absurd is
mark_is_other (Freed pmac) is = absurd is
mark_is_other (Sent id h frame) is = absurd is
mark_is_other (Skipped h skip) is = absurd is
mark_is_other (Made id t frame) is = absurd is
mark_is_other (Crossed id t) is = absurd is
mark_is_other (Redirected id x y) is = absurd is
mark_is_other (Copied id copy) is = absurd is
mark_is_other (Arrived id h frame) is = absurd is
mark_is_other (Taken id t) is = absurd is
mark_is_other (Dropped id c) is = absurd is
mark_is_other (Granted x h t port) is = absurd is
mark_is_other (Registered x n) is = absurd is
mark_is_other (LinkDown a b) is = absurd is
mark_is_other (LinkUp a b) is = absurd is
mark_is_other (Moved h t port) is = absurd is
mark_is_other (Restarted number) is = absurd is

-- each switch knows the place that was written last of it
abbrev AreWritten : WorldView → Type 0
AreWritten w = (s : ℕ) (v : SwitchView) → slice_get w.switches s ≡ Some v → place_written (reverse w.journal) s ≡ v.place

found_after : (views : List SwitchView) (s t : ℕ) (after v : SwitchView) → slice_get (set views s after) t ≡ Some v →
    ((s ≡ t) × (v ≡ after)) ⊎ ((s ≡ t → ⊥) × (slice_get views t ≡ Some v))
found_after [] s t after v is = absurd (cc is)
found_after (x ∷ views) zero zero after v is = inl (refl, cc is)
found_after (x ∷ views) zero (suc t) after v is = inr (λ same. absurd (omega (arith, same)), is)
found_after (x ∷ views) (suc s) zero after v is = inr (λ same. absurd (omega (arith, same)), is)
found_after (x ∷ views) (suc s) (suc t) after v is = elim (found_after views s t after v is) [
  | inl here ↦ inl (ap suc here.0, here.1)
  | inr other ↦ inr (λ same. other.0 (omega (arith, same)), other.1)
]

-- a switch that came to know another place, and any other switch
own_written : (s : ℕ) (old new : Place) → after_placings (placed_then s old new) s old ≡ new
own_written s old new = by (same_place old new) refl
  where
    by : (b : Bool) → same_place old new ≡ b → after_placings (if b then [] else (s, new) ∷ []) s old ≡ new
    by true same = place_is old new same
    by false other = ap (λ b. if b then new else old) (eq-eqb s s refl)

others_written : (s t : ℕ) (old new place : Place) → (s ≡ t → ⊥) → after_placings (placed_then s old new) t place ≡ place
others_written s t old new place other = by (same_place old new)
  where
    by : (b : Bool) → after_placings (if b then [] else (s, new) ∷ []) t place ≡ place
    by true = refl
    by false = ap (λ b. if b then new else place) (ne_eqb s t other)

module _ (switch : SwitchRule) (manager : ManagerRule) (host : HostRule) where
  step_written : (old : WorldView) (happens : Event) (new : WorldView) → WorldStep switch manager host old happens new → AreWritten old → AreWritten new
  step_written old happens new step are = by (outcome manager switch host old happens new step)
    where
      none : (es : List Entry) → new.journal ≡ old.journal ++ es → placings es ≡ [] → new.switches ≡ old.switches → AreWritten new
      none es added places same s v found =
          ap (λ j. place_written (reverse j) s) added ∙ all_written old.journal es s
          ∙ ap (λ ps. after_placings ps s (place_written (reverse old.journal) s)) places
          ∙ are s v (ap (λ views. slice_get views s) (sym same) ∙ found)

      by : Outcome manager old happens new → AreWritten new
      by (Neither q) = none q.adds.entries q.adds.added q.adds.of_places q.switches
      by (Managed id told after acts ruled is adds switches) = none adds.entries adds.added adds.of_places switches
      by (Restarts anew) = none (Restarted (old.manager.epoch + 1) ∷ []) anew.journal refl anew.switches
      by (Turned s before after found switches adds stays) = λ t v is.
          ap (λ j. place_written (reverse j) t) adds.added ∙ all_written old.journal adds.entries t
          ∙ ap (λ ps. after_placings ps t (place_written (reverse old.journal) t)) adds.of_places
          ∙ elim (found_after old.switches s t after v (ap (λ views. slice_get views t) (sym switches) ∙ is)) [
            | inl here ↦
                subst (λ x. after_placings (placed_then s before.place after.place) x (place_written (reverse old.journal) x) ≡ v.place) here.0
                (ap (after_placings (placed_then s before.place after.place) s) (are s before found) ∙ own_written s before.place after.place
                ∙ ap (λ (u : SwitchView). u.place) (sym here.1))
            | inr other ↦ others_written s t before.place after.place (place_written (reverse old.journal) t) other.0 ∙ are t v other.1
          ]

  marked_written : (old : WorldView) (entry : Entry) → IsMark entry → AreWritten old → AreWritten (noted old entry)
  marked_written old entry mark are = λ s v found.
      all_written old.journal (entry ∷ []) s
      ∙ ap (λ o. after_placings (cons_option o []) s (place_written (reverse old.journal) s)) (mark_is_other entry mark).0 ∙ are s v found

  pub run_written : (old : WorldView) (moments : List Moment) (new : WorldView) → AreWritten old → WorldRun switch manager host old moments new → AreWritten new
  run_written old [] new are same = subst AreWritten (sym same) are
  run_written old (Step event ∷ moments) new are run = run_written run.0 moments new (step_written old event run.0 run.1.1 are) run.2
  run_written old (Mark entry ∷ moments) new are run =
      run_written run.0 moments new (subst AreWritten (sym run.1.1) (marked_written old entry run.1.0 are)) run.2

pub written_at_first : (plan : Plan) (limits : Limits) → AreWritten (booted plan limits)
written_at_first plan limits s v found = nowhere_yet plan.ids s found
  where
    nowhere_yet : (ids : List SwitchId) (n : ℕ) → slice_get (map (λ id. switch_at_boot id plan.k) ids) n ≡ Some v → nowhere ≡ v.place
    nowhere_yet [] n is = absurd (cc is)
    nowhere_yet (id ∷ ids) zero is = let same : switch_at_boot id plan.k ≡ v = same_Some (switch_at_boot id plan.k) v is in ap (λ (u : SwitchView). u.place) same
    nowhere_yet (id ∷ ids) (suc n) is = nowhere_yet ids n is

-- Registrations.

-- a registered address has the number that the journal gave it last; numbers are counted, and given in turn
pub record AreRegistered (journal : List Entry) (learnt : Learnt) : Type 0 where
  pub last : (x : Pmac) (r : Registration) → registration learnt x ≡ Some r → last_registration journal x ≡ Some (with_number r)
  pub count : learnt.count ≡ last_number (reverse journal)
  pub numbers : AreInTurn (reverse journal)

abbrev pub HasRegistered : WorldView → Type 0
HasRegistered w = AreRegistered w.journal w.manager.learnt

abbrev numbers_of : List (Pmac × ℕ) → List ℕ
numbers_of rs = map (λ r. r.1) rs

-- one more entry, before these
record OneInTurn (e : Entry) (es past : List Entry) (n : ℕ) : Type 0 where
  number : ℕ
  is : number ≡ last_number (e ∷ past)
  turn : AreInTurn (e ∷ past)
  goes_on : restarts_in es ≡ []
  numbers : numbers_of (registrations es) ≡ range_with_len (number + 1) (length (registrations es))
  many : length (registrations (e ∷ es)) + n ≡ length (registrations es) + number

one_in_turn : (e : Entry) (es past : List Entry) (n : ℕ) → restarts_in (e ∷ es) ≡ [] → n ≡ last_number past → AreInTurn past →
    numbers_of (registrations (e ∷ es)) ≡ range_with_len (n + 1) (length (registrations (e ∷ es))) → OneInTurn e es past n
one_in_turn (Registered pmac m) es past n goes_on is turn numbers =
    let first : m ≡ n + 1 = ap (λ ns. get_or ns 0 0) numbers in
    record {
      number = m;
      is = refl;
      turn = (first ∙ ap (λ x. x + 1) is, turn);
      goes_on = goes_on;
      numbers = ap (drop 1) numbers ∙ ap (λ x. range_with_len (x + 1) (length (registrations es))) (sym first);
      many = omega (arith, first);
    }
one_in_turn (Restarted epoch) es past n goes_on is turn numbers = absurd (cc goes_on)
one_in_turn e es past n goes_on is turn numbers = record { number = n; is = is; turn = turn; goes_on = goes_on; numbers = numbers; many = refl }

-- those that are given numbers have the next ones
all_in_turn : (j es : List Entry) (n : ℕ) → restarts_in es ≡ [] → n ≡ last_number (reverse j) → AreInTurn (reverse j) →
    numbers_of (registrations es) ≡ range_with_len (n + 1) (length (registrations es)) →
    (length (registrations es) + n ≡ last_number (reverse (j ++ es))) × AreInTurn (reverse (j ++ es))
all_in_turn j [] n goes_on is turn numbers =
    let whole : j ≡ j ++ [] = sym (append-nil j) in
    let last : n ≡ last_number (reverse (j ++ [])) = is ∙ ap (λ l. last_number (reverse l)) whole in
    (omega (arith, last), subst (λ l. AreInTurn (reverse l)) whole turn)
all_in_turn j (e ∷ es) n goes_on is turn numbers =
    let one = one_in_turn e es (reverse j) n goes_on is turn numbers in
    let newest : e ∷ reverse j ≡ reverse (j ++ e ∷ []) = sym (reverse-append j (e ∷ [])) in
    let rest = all_in_turn (j ++ e ∷ []) es one.number one.goes_on (one.is ∙ ap last_number newest) (subst AreInTurn newest one.turn) one.numbers in
    let joined = append_assoc j (e ∷ []) es in
    (one.many ∙ rest.0 ∙ ap (λ l. last_number (reverse l)) joined, subst (λ l. AreInTurn (reverse l)) joined rest.1)

-- In the first epoch the numbers are 1, 2, 3 and so on.
abbrev AreFirst : ℕ → List (Pmac × ℕ) → Type 0
AreFirst n rs = (n ≡ length rs) × (numbers_of rs ≡ range_with_len 1 (length rs))

one_behind : (e : Entry) (past : List Entry) → registrations (reverse (e ∷ past)) ≡ registrations (reverse past) ++ registrations (e ∷ [])
one_behind e past = ap registrations (reverse-append (e ∷ []) past) ∙ filter_map-append registration_in (reverse past) (e ∷ [])

first_numbers : (past : List Entry) → AreInTurn past → restarts past ≡ 0 → AreFirst (last_number past) (registrations (reverse past))
first_numbers [] turn none = (refl, refl)
first_numbers (Registered pmac n ∷ past) turn none =
    let rest = first_numbers past turn.1 none in
    let rs = registrations (reverse past) in
    let next : n ≡ 1 + length rs = let now = turn.0 in let so = rest.0 in omega (arith, now, so) in
    let long : length (rs ++ (pmac, n) ∷ []) ≡ suc (length rs) = let at = length-append rs ((pmac, n) ∷ []) in omega (arith, at) in
    subst (AreFirst n) (sym (one_behind (Registered pmac n) past)) (
      omega (arith, next, long),
      map-append (λ (r : Pmac × ℕ). r.1) rs ((pmac, n) ∷ []) ∙ ap (λ ns. ns ++ n ∷ []) rest.1 ∙ ap (λ m. range_with_len 1 (length rs) ++ m ∷ []) next
          ∙ sym (range_more 1 (length rs)) ∙ ap (range_with_len 1) (sym long),
    )
first_numbers (Restarted epoch ∷ past) turn none = absurd (omega (arith, none))
first_numbers (e ∷ past) turn none =
    subst (AreFirst (last_number past)) (sym (one_behind e past ∙ append-nil (registrations (reverse past)))) (first_numbers past turn none)

pub in_first_epoch : (w : WorldView) → HasRegistered w → restarts (reverse w.journal) ≡ 0 →
    (w.manager.learnt.count ≡ length (registrations w.journal)) ×
    (map (λ (r : Pmac × ℕ). r.1) (registrations w.journal) ≡ range_with_len 1 (length (registrations w.journal)))
in_first_epoch w are none =
    let first = subst (λ j. AreFirst (last_number (reverse w.journal)) (registrations j)) (reverse-reverse w.journal)
    (first_numbers (reverse w.journal) are.numbers none) in
    (are.count ∙ first.0, first.1)

found_passes : {X : Type 0} (test : X → Bool) (xs : List X) (x : X) → find test xs ≡ Some x → test x ≡ true
found_passes test [] x found = absurd (none-some x found)
found_passes test (y ∷ xs) x found = by (λ at. found_passes test xs x at) (test y) refl found
  where
    by : (find test xs ≡ Some x → test x ≡ true) → (b : Bool) → test y ≡ b → cond b (Some y) (find test xs) ≡ Some x → test x ≡ true
    by behind true passes at = ap test (sym (same_Some y x at)) ∙ passes
    by behind false fails at = behind at

module _ {X : Type 0} (test : X → Bool) where
  find_behind : (xs ys : List X) → find test (xs ++ ys) ≡ option_or (find test xs) (find test ys)
  find_behind [] ys = refl
  find_behind (x ∷ xs) ys = by (test x) (find_behind xs ys)
    where
      by : (b : Bool) → find test (xs ++ ys) ≡ option_or (find test xs) (find test ys) →
          cond b (Some x) (find test (xs ++ ys)) ≡ option_or (cond b (Some x) (find test xs)) (find test ys)
      by true rest = refl
      by false rest = rest

  found_there : (xs : List X) (x : X) → find test xs ≡ Some x → IsAmong x xs
  found_there [] x found = absurd (none-some x found)
  found_there (y ∷ xs) x found = by (found_there xs x) (test y) found
    where
      by : (find test xs ≡ Some x → IsAmong x xs) → (b : Bool) → cond b (Some y) (find test xs) ≡ Some x → IsAmong x (y ∷ xs)
      by behind true at = inl (same_Some y x at)
      by behind false at = inr (behind at)

  never_there : (xs : List X) (x : X) → find test xs ≡ None → IsAmong x xs → test x ≡ true → ⊥
  never_there [] x none h passes = h
  never_there (y ∷ xs) x none h passes = by (λ at there. never_there xs x at there passes) (test y) refl none h
    where
      by : (find test xs ≡ None → IsAmong x xs → ⊥) → (b : Bool) → test y ≡ b → cond b (Some y) (find test xs) ≡ None → IsAmong x (y ∷ xs) → ⊥
      by behind true is at there = none-some y (sym at)
      by behind false is at (inl here) = false≢true (sym is ∙ ap test here ∙ passes)
      by behind false is at (inr there) = behind at there

among_reversed : {X : Type 0} (x : X) (xs : List X) → IsAmong x xs → IsAmong x (reverse xs)
among_reversed x [] h = absurd h
among_reversed x (y ∷ xs) (inl here) = subst (IsAmong x) (sym (reverse-append (y ∷ []) xs)) (among_right x (reverse xs) (y ∷ []) (inl here))
among_reversed x (y ∷ xs) (inr there) = subst (IsAmong x) (sym (reverse-append (y ∷ []) xs)) (among_left x (reverse xs) (y ∷ []) (among_reversed x xs there))

reversed_among : {X : Type 0} (x : X) (xs : List X) → IsAmong x (reverse xs) → IsAmong x xs
reversed_among x [] h = h
reversed_among x (y ∷ xs) h = elim (among_append x (reverse xs) (y ∷ []) (subst (IsAmong x) (reverse-append (y ∷ []) xs) h)) [
  | inl there ↦ inr (reversed_among x xs there)
  | inr now ↦ elim now [ inl here ↦ inl here | inr none ↦ absurd none ]
]

-- of an address that is registered then the last number stands behind all others
last_given : (before after : ManagerView) (rs more : List (Pmac × ℕ)) → AreNumbered before after more →
    ((x : Pmac) (r : Registration) → registration before.learnt x ≡ Some r → find (λ g. same_pmac g.0 x) (reverse rs) ≡ Some (with_number r)) →
    (x : Pmac) (r : Registration) → registration after.learnt x ≡ Some r → find (λ g. same_pmac g.0 x) (reverse (rs ++ more)) ≡ Some (with_number r)
last_given before after rs more given last x r is =
    ap (find test) (reverse-append rs more) ∙ find_behind test (reverse more) (reverse rs) ∙ by (find test (reverse more)) refl (given.registered x r is)
  where
    test : Pmac × ℕ → Bool
    test g = same_pmac g.0 x

    by : (o : Option (Pmac × ℕ)) → find test (reverse more) ≡ o → (registration before.learnt x ≡ Some r) ⊎ Contains more (with_number r) →
        option_or o (find test (reverse rs)) ≡ Some (with_number r)
    by (Some g) found was =
        let at : g.0 ≡ x = pmac_is g.0 x (found_passes test (reverse more) g found) in
        let now : Contains more (g.0, g.1) = Contains-of_among g more (reversed_among g more (found_there test (reverse more) g found)) in
        ap Some (sym (given.given_as g.0 g.1 r now (ap (registration after.learnt) at ∙ is)))
    by None found (inl was) = last x r was
    by None found (inr now) =
        absurd (never_there test (reverse more) (with_number r) found (among_reversed (with_number r) more (among_of_Contains (with_number r) more now))
        (found_passes (λ (s : Registration). same_pmac s.pmac x) (registry after.learnt) r is))

module _ (switch : SwitchRule) (manager : ManagerRule) (host : HostRule) (duly : AnswersDuly manager) where
  goes_on_registered : (old new : WorldView) → Registers old new → HasRegistered old → HasRegistered new
  goes_on_registered old new r are =
      let all : registrations new.journal ≡ registrations old.journal ++ registrations r.entries =
      ap registrations r.added ∙ filter_map-append registration_in old.journal r.entries in
      let turn = all_in_turn old.journal r.entries old.manager.learnt.count r.goes_on are.count are.numbers r.given.numbers in
      record {
        last = λ x g is.
            ap (λ rs. find (λ (h : Pmac × ℕ). same_pmac h.0 x) (reverse rs)) all
            ∙ last_given old.manager new.manager (registrations old.journal) (registrations r.entries) r.given are.last x g is;
        count = r.given.count ∙ turn.0 ∙ ap (λ j. last_number (reverse j)) (sym r.added);
        numbers = subst (λ j. AreInTurn (reverse j)) (sym r.added) turn.1;
      }

  anew_registered : (old : WorldView) (happens : Event) (new : WorldView) → BeginsAnew old happens new → HasRegistered old → HasRegistered new
  anew_registered old happens new anew are =
      let epoch = old.manager.epoch + 1 in
      let newest : Restarted epoch ∷ reverse old.journal ≡ reverse new.journal =
      sym (ap reverse anew.journal ∙ reverse-append old.journal (Restarted epoch ∷ [])) in
      record {
        last = λ x r is. absurd (none-some r (sym (ap (λ (m : ManagerView). registration m.learnt x) anew.manager) ∙ is));
        count = ap (λ (m : ManagerView). m.learnt.count) anew.manager ∙ ap last_number newest;
        numbers = subst AreInTurn newest are.numbers;
      }

  pub step_registered : (old : WorldView) (happens : Event) (new : WorldView) → WorldStep switch manager host old happens new → HasRegistered old → HasRegistered new
  step_registered old happens new step are = elim (registers switch manager host old happens new step duly) [
    | inl r ↦ goes_on_registered old new r are
    | inr anew ↦ anew_registered old happens new anew are
  ]

  pub marked_registered : (old : WorldView) (entry : Entry) → IsMark entry → HasRegistered old → HasRegistered (noted old entry)
  marked_registered old entry mark are =
      let other = mark_is_other entry mark in
      let none : registrations (entry ∷ []) ≡ [] = ap (λ o. cons_option o []) other.1 in
      let count = old.manager.learnt.count in
      let turn = all_in_turn old.journal (entry ∷ []) count (ap (λ o. cons_option o []) other.2) are.count are.numbers
      (subst (λ rs. numbers_of rs ≡ range_with_len (count + 1) (length rs)) (sym none) refl) in
      let same : registrations (old.journal ++ entry ∷ []) ≡ registrations old.journal =
      filter_map-append registration_in old.journal (entry ∷ []) ∙ ap (λ rs. registrations old.journal ++ rs) none ∙ append-nil (registrations old.journal) in
      record {
        last = λ x r is. ap (λ rs. find (λ (h : Pmac × ℕ). same_pmac h.0 x) (reverse rs)) same ∙ are.last x r is;
        count = let no_more = ap (λ rs. length rs) none in let now = turn.0 in omega (arith, no_more, now);
        numbers = turn.1;
      }

  pub run_registered : (old : WorldView) (moments : List Moment) (new : WorldView) → HasRegistered old → WorldRun switch manager host old moments new → HasRegistered new
  run_registered old [] new are same = subst HasRegistered (sym same) are
  run_registered old (Step event ∷ moments) new are run = run_registered run.0 moments new (step_registered old event run.0 run.1.1 are) run.2
  run_registered old (Mark entry ∷ moments) new are run =
      run_registered run.0 moments new (subst HasRegistered (sym run.1.1) (marked_registered old entry run.1.0 are)) run.2

pub registered_at_first : (plan : Plan) (limits : Limits) → HasRegistered (booted plan limits)
registered_at_first plan limits = record { last = λ x r is. absurd (none-some r is); count = refl; numbers = tt }
