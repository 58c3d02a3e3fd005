-- The frames of a run are numbered in the order in which they begin, and end at most once.
use Rattle.std.proofs.Common.{◌≡◌, ◌⊎◌, ℕ, suc, ◌+◌, ◌≤◌, true, false, cond, ◌==◌, ◌||◌, List, [], ◌∷◌, ◌++◌, reverse, filter_map, Some, None, refl, sym, ap, ◌∙◌, subst, inl, inr, arith, append-nil}
use Rattle.std.specs.List.{range_with_len}
use Rattle.std.proofs.lemmas.Bool.{false≢true, eqb-true, eqb-false, eq-eqb, ne_eqb, or_cases, or_left, or_right, or_parts, and_parts, and_from, cases_Bool, cases_eq, cond_both, both_ways}
use Rattle.std.proofs.lemmas.List.{reverse-append, reverse-reverse}
use Rattle.std.proofs.lemmas.List.Elements.{filter_map-append}
use Rattle.pl_lemmas.proofs.Exports.{range_more}
use Rattle.pl_wiring.specs.Plan.{Plan}
use Rattle.pl_journal.specs.declared.entry.Entry.{Entry}
use Rattle.pl_journal.specs.declared.entry.Entry.TheVariants.{Sent, Made, Copied, Arrived, Taken, Dropped}
use Rattle.pl_journal.specs.Flights.{before_copy, begun, begun_by, ends, is_begun, is_flying, root}
use Rattle.pl_journal.specs.Lossy.{Run, RunTo}

-- the frame g that begins next is the one, or it is another
one_more : (past : List Entry) (g id : ℕ) → g ≡ begun past + 1 → (is_begun past id ≡ true → (1 ≤ id) × (id ≤ begun past)) →
    ((g == id) || is_begun past id) ≡ true → (1 ≤ id) × (id ≤ begun past + 1)
one_more past g id next before h = elim (or_cases (g == id) (is_begun past id) h) [
  | inl same ↦ let e : g ≡ id = eqb-true g id same in (omega arith, omega arith)
  | inr old ↦ let k = before old in (k.0, omega arith)
]

pub begun_within : (plan : Plan) (past : List Entry) (id : ℕ) → RunTo plan past → is_begun past id ≡ true → (1 ≤ id) × (id ≤ begun past)
begun_within plan [] id run h = absurd (false≢true h)
begun_within plan (Sent g k f ∷ past) id run h = one_more past g id run.1 (begun_within plan past id run.0) h
begun_within plan (Made g s f ∷ past) id run h = one_more past g id run.1 (begun_within plan past id run.0) h
begun_within plan (Copied g c ∷ past) id run h = one_more past c id run.1.2 (begun_within plan past id run.0) h
begun_within plan (entry ∷ past) id run h = begun_within plan past id run.0 h

one_of_more : (past : List Entry) (g id : ℕ) → g ≡ begun past + 1 → (id ≤ begun past → is_begun past id ≡ true) → id ≤ begun past + 1 →
    ((g == id) || is_begun past id) ≡ true
one_of_more past g id next before h = elim (cases_eq g id) [
  | inl same ↦ or_left (g == id) (is_begun past id) (eq-eqb g id same)
  | inr other ↦ or_right (g == id) (is_begun past id) (before (omega arith))
]

pub within_begun : (plan : Plan) (past : List Entry) (id : ℕ) → RunTo plan past → 1 ≤ id → id ≤ begun past → is_begun past id ≡ true
within_begun plan [] id run least most = absurd (omega arith)
within_begun plan (Sent g k f ∷ past) id run least most = one_of_more past g id run.1 (within_begun plan past id run.0 least) most
within_begun plan (Made g s f ∷ past) id run least most = one_of_more past g id run.1 (within_begun plan past id run.0 least) most
within_begun plan (Copied g c ∷ past) id run least most = one_of_more past c id run.1.2 (within_begun plan past id run.0 least) most
within_begun plan (entry ∷ past) id run least most = within_begun plan past id run.0 least most

-- the next number is not in use
pub next_is_new : (plan : Plan) (past : List Entry) (id : ℕ) → RunTo plan past → id ≡ begun past + 1 → is_begun past id ≡ false
next_is_new plan past id run next = elim (cases_Bool (is_begun past id)) [
  | inl old ↦ let within = begun_within plan past id run old in absurd (omega arith)
  | inr new ↦ new
]

-- a frame that is in flight has begun
pub flying_is_begun : (past : List Entry) (id : ℕ) → is_flying past id ≡ true → is_begun past id ≡ true
flying_is_begun past id h = (and_parts (is_begun past id) (ends past id == 0) h).0

-- one that has begun is not one that has not
pub apart : (past : List Entry) (g id : ℕ) → is_begun past g ≡ true → is_begun past id ≡ false → (g == id) ≡ false
apart past g id old new = ne_eqb g id (λ same. both_ways (is_begun past id) new (subst (λ n. is_begun past n ≡ true) same old))

-- one that has not begun is no copy
pub root_of_new : (plan : Plan) (past : List Entry) (id : ℕ) → RunTo plan past → is_begun past id ≡ false → root past id ≡ id
root_of_new plan [] id run new = refl
root_of_new plan (Sent g k f ∷ past) id run new = root_of_new plan past id run.0 (or_parts (g == id) (is_begun past id) new).1
root_of_new plan (Made g s f ∷ past) id run new = root_of_new plan past id run.0 (or_parts (g == id) (is_begun past id) new).1
root_of_new plan (Copied g c ∷ past) id run new =
    let parts = or_parts (c == id) (is_begun past id) new in
    rw (parts.0) (root_of_new plan past id run.0 parts.1)
root_of_new plan (entry ∷ past) id run new = root_of_new plan past id run.0 new

root_is_begun_after : (plan : Plan) (past : List Entry) (g id : ℕ) → RunTo plan past →
    (is_begun past id ≡ true → is_begun past (root past id) ≡ true) → ((g == id) || is_begun past id) ≡ true →
    ((g == root past id) || is_begun past (root past id)) ≡ true
root_is_begun_after plan past g id run before h = elim (cases_Bool (is_begun past id)) [
  | inl old ↦ or_right (g == root past id) (is_begun past (root past id)) (before old)
  | inr new ↦
      let same : g ≡ id = elim (or_cases (g == id) (is_begun past id) h) [ inl e ↦ eqb-true g id e | inr old ↦ absurd (both_ways (is_begun past id) new old) ] in
      or_left (g == root past id) (is_begun past (root past id)) (eq-eqb g (root past id) (same ∙ sym (root_of_new plan past id run new)))
]

-- the root of a frame has begun
pub root_is_begun : (plan : Plan) (past : List Entry) (id : ℕ) → RunTo plan past → is_begun past id ≡ true → is_begun past (root past id) ≡ true
root_is_begun plan [] id run h = h
root_is_begun plan (Sent g k f ∷ past) id run h = root_is_begun_after plan past g id run.0 (root_is_begun plan past id run.0) h
root_is_begun plan (Made g s f ∷ past) id run h = root_is_begun_after plan past g id run.0 (root_is_begun plan past id run.0) h
root_is_begun plan (Copied g c ∷ past) id run h =
    or_right (c == root past (before_copy g c id)) (is_begun past (root past (before_copy g c id)))
    (cond_both (c == id) g id (λ n. is_begun past (root past n) ≡ true)
    (λ same. root_is_begun plan past g run.0 (flying_is_begun past g run.1.0))
    (λ other. root_is_begun plan past id run.0 (elim (or_cases (c == id) (is_begun past id) h) [ inl same ↦ absurd (both_ways (c == id) other same) | inr old ↦ old ])))
root_is_begun plan (entry ∷ past) id run h = root_is_begun plan past id run.0 h

abbrev ids : List Entry → List ℕ
ids journal = filter_map begun_by journal

-- the ids of a journal that begins one more frame, and of one that does not
ids_more : (past : List Entry) (entry : Entry) (g : ℕ) → begun_by entry ≡ Some g → g ≡ begun past + 1 → ids (reverse past) ≡ range_with_len 1 (begun past) →
    ids (reverse (entry ∷ past)) ≡ range_with_len 1 (begun past + 1)
ids_more past entry g is next before =
    let split = ap ids (reverse-append (entry ∷ []) past) ∙ filter_map-append begun_by (reverse past) (entry ∷ []) in
    let last : ids (entry ∷ []) ≡ g ∷ [] = rw is refl in
    let one : 1 + begun past ≡ g = omega arith in
    let long : begun past + 1 ≡ suc (begun past) = omega arith in
    split ∙ ap (λ r. ids (reverse past) ++ r) last ∙ ap (λ r. r ++ g ∷ []) before
    ∙ ap (λ n. range_with_len 1 (begun past) ++ n ∷ []) (sym one) ∙ sym (range_more 1 (begun past)) ∙ ap (range_with_len 1) (sym long)

ids_same : (past : List Entry) (entry : Entry) → begun_by entry ≡ None → ids (reverse (entry ∷ past)) ≡ ids (reverse past)
ids_same past entry is =
    let last : ids (entry ∷ []) ≡ [] = rw is refl in
    ap ids (reverse-append (entry ∷ []) past) ∙ filter_map-append begun_by (reverse past) (entry ∷ [])
    ∙ ap (λ r. ids (reverse past) ++ r) last ∙ append-nil (ids (reverse past))

ids_to : (plan : Plan) (past : List Entry) → RunTo plan past → ids (reverse past) ≡ range_with_len 1 (begun past)
ids_to plan [] run = refl
ids_to plan (Sent g k f ∷ past) run = ids_more past (Sent g k f) g refl run.1 (ids_to plan past run.0)
ids_to plan (Made g s f ∷ past) run = ids_more past (Made g s f) g refl run.1 (ids_to plan past run.0)
ids_to plan (Copied g c ∷ past) run = ids_more past (Copied g c) c refl run.1.2 (ids_to plan past run.0)
ids_to plan (entry ∷ past) run = ids_same past entry refl ∙ ids_to plan past run.0

pub ids_in_order : (plan : Plan) (journal : List Entry) → Run plan journal → filter_map begun_by journal ≡ range_with_len 1 (begun (reverse journal))
ids_in_order plan journal run = ap ids (sym (reverse-reverse journal)) ∙ ids_to plan (reverse journal) run

-- an entry that ends the frame g
one_end : (past : List Entry) (g id : ℕ) → is_flying past g ≡ true → ends past id ≤ 1 → cond (g == id) (ends past id + 1) (ends past id) ≤ 1
one_end past g id flies before = cond_both (g == id) (ends past id + 1) (ends past id) (λ n. n ≤ 1)
    (λ same. let none : ends past g ≡ 0 = eqb-true (ends past g) 0 (and_parts (is_begun past g) (ends past g == 0) flies).1 in
    let e : ends past g ≡ ends past id = ap (ends past) (eqb-true g id same) in omega arith)
    (λ other. before)

pub ends_once : (plan : Plan) (past : List Entry) (id : ℕ) → RunTo plan past → ends past id ≤ 1
ends_once plan [] id run = omega arith
ends_once plan (Arrived g h f ∷ past) id run = one_end past g id run.1.0 (ends_once plan past id run.0)
ends_once plan (Taken g s ∷ past) id run = one_end past g id run.1.0 (ends_once plan past id run.0)
ends_once plan (Dropped g cause ∷ past) id run = one_end past g id run.1.0 (ends_once plan past id run.0)
ends_once plan (entry ∷ past) id run = ends_once plan past id run.0

no_end : (past : List Entry) (g id : ℕ) → is_flying past g ≡ true → is_begun past id ≡ false → ends past id ≡ 0 → cond (g == id) (ends past id + 1) (ends past id) ≡ 0
no_end past g id flies new before = let other = apart past g id (flying_is_begun past g flies) new in rw other before

pub ends_after_it_begins : (plan : Plan) (past : List Entry) (id : ℕ) → RunTo plan past → is_begun past id ≡ false → ends past id ≡ 0
ends_after_it_begins plan [] id run new = refl
ends_after_it_begins plan (Sent g k f ∷ past) id run new = ends_after_it_begins plan past id run.0 (or_parts (g == id) (is_begun past id) new).1
ends_after_it_begins plan (Made g s f ∷ past) id run new = ends_after_it_begins plan past id run.0 (or_parts (g == id) (is_begun past id) new).1
ends_after_it_begins plan (Copied g c ∷ past) id run new = ends_after_it_begins plan past id run.0 (or_parts (c == id) (is_begun past id) new).1
ends_after_it_begins plan (Arrived g h f ∷ past) id run new = no_end past g id run.1.0 new (ends_after_it_begins plan past id run.0 new)
ends_after_it_begins plan (Taken g s ∷ past) id run new = no_end past g id run.1.0 new (ends_after_it_begins plan past id run.0 new)
ends_after_it_begins plan (Dropped g cause ∷ past) id run new = no_end past g id run.1.0 new (ends_after_it_begins plan past id run.0 new)
ends_after_it_begins plan (entry ∷ past) id run new = ends_after_it_begins plan past id run.0 new

pub flies_or_ended : (plan : Plan) (past : List Entry) (id : ℕ) → RunTo plan past → is_begun past id ≡ true → (is_flying past id ≡ true) ⊎ (ends past id ≡ 1)
flies_or_ended plan past id run old = elim (cases_Bool (ends past id == 0)) [
  | inl none ↦ inl (and_from (is_begun past id) (ends past id == 0) old none)
  | inr some ↦
      let once = ends_once plan past id run in
      let other : ends past id ≡ 0 → ⊥ = eqb-false (ends past id) 0 some in
      inr (omega arith)
]
