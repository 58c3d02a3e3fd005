-- The table of frames, entry by entry.
use Rattle.std.proofs.Common.{◌≡◌, ◌≢◌, ℕ, zero, suc, ◌+◌, ◌<◌, false, set, List, [], ◌∷◌, ◌++◌, length, Some, slice_get, refl, sym, ap, ◌∙◌, inl, inr, arith}
use Rattle.std.proofs.lemmas.Bool.{cases_eq}
use Rattle.std.proofs.lemmas.List.{length-set}
use Rattle.pl_wiring.specs.Plan.{Plan}
use Rattle.pl_journal.specs.declared.entry.Entry.{Entry}
use Rattle.pl_journal.specs.Flights.{begun}
use Rattle.pl_past.specs.Kept.{IsTable, Kept, kept, touched_by}
use Rattle.pl_past.proofs.Frames.{others_stay}

get_set_same : {A : Type 0} (xs : List A) (n : ℕ) (x : A) → n < length xs → slice_get (set xs n x) n ≡ Some x
get_set_same [] n x h = absurd (omega arith)
get_set_same (y ∷ xs) zero x h = refl
get_set_same (y ∷ xs) (suc n) x h = get_set_same xs n x (omega arith)

get_set_other : {A : Type 0} (xs : List A) (n m : ℕ) (x : A) → m ≢ n → slice_get (set xs n x) m ≡ slice_get xs m
get_set_other [] n m x other = refl
get_set_other (y ∷ xs) zero zero x other = absurd (other refl)
get_set_other (y ∷ xs) zero (suc m) x other = refl
get_set_other (y ∷ xs) (suc n) zero x other = refl
get_set_other (y ∷ xs) (suc n) (suc m) x other = get_set_other xs n m x (λ same. other (ap suc same))

get_before : {A : Type 0} (xs : List A) (x : A) (m : ℕ) → m < length xs → slice_get (xs ++ x ∷ []) m ≡ slice_get xs m
get_before [] x m h = absurd (omega arith)
get_before (y ∷ xs) x zero h = refl
get_before (y ∷ xs) x (suc m) h = get_before xs x m (omega arith)

get_last : {A : Type 0} (xs : List A) (x : A) (m : ℕ) → m ≡ length xs → slice_get (xs ++ x ∷ []) m ≡ Some x
get_last [] x m h = ap (slice_get (x ∷ [])) h
get_last (y ∷ xs) x zero h = absurd (omega arith)
get_last (y ∷ xs) x (suc m) h = get_last xs x m (omega arith)

one_longer : {A : Type 0} (xs : List A) (x : A) → length (xs ++ x ∷ []) ≡ length xs + 1
one_longer [] x = omega arith
one_longer (y ∷ xs) x = let e = one_longer xs x in omega arith

-- An entry of a frame that has begun changes its place alone.
pub one_changes : (plan : Plan) (past : List Entry) (entry : Entry) (frames : List Kept) (n : ℕ) (new : Kept) → IsTable plan past frames →
    begun (entry ∷ past) ≡ begun past → n < begun past → kept plan (entry ∷ past) (n + 1) ≡ new →
    ((id : ℕ) → id ≢ n + 1 → touched_by past entry id ≡ false) → IsTable plan (entry ∷ past) (set frames n new)
one_changes plan past entry frames n new table same within is others = record {
  many = length-set frames n new ∙ table.many ∙ sym same;
  each = λ m h. elim (cases_eq m n) [
    | inl here ↦
        let long : n < length frames = let e = table.many in omega arith in
        ap (slice_get (set frames n new)) here ∙ get_set_same frames n new long ∙ ap Some (sym is)
        ∙ ap (λ k. Some (kept plan (entry ∷ past) (k + 1))) (sym here)
    | inr other ↦
        let before : m < begun past = omega arith in
        get_set_other frames n m new other ∙ table.each m before
        ∙ ap Some (sym (others_stay plan past entry (m + 1) (others (m + 1) (λ e. other (omega arith)))))
  ];
}

-- One that begins a frame adds a place.
pub one_begins : (plan : Plan) (past : List Entry) (entry : Entry) (frames : List Kept) (new : Kept) → IsTable plan past frames →
    begun (entry ∷ past) ≡ begun past + 1 → kept plan (entry ∷ past) (begun past + 1) ≡ new →
    ((id : ℕ) → id ≢ begun past + 1 → touched_by past entry id ≡ false) → IsTable plan (entry ∷ past) (frames ++ new ∷ [])
one_begins plan past entry frames new table more is others = record {
  many = one_longer frames new ∙ ap (λ n. n + 1) (table.many) ∙ sym more;
  each = λ m h. elim (cases_eq m (begun past)) [
    | inl last ↦
        get_last frames new m (last ∙ sym (table.many)) ∙ ap Some (sym is) ∙ ap (λ k. Some (kept plan (entry ∷ past) (k + 1))) (sym last)
    | inr other ↦
        let before : m < begun past = omega arith in
        let within : m < length frames = let e = table.many in omega arith in
        get_before frames new m within ∙ table.each m before
        ∙ ap Some (sym (others_stay plan past entry (m + 1) (others (m + 1) (λ e. other (omega arith)))))
  ];
}

-- Any other entry changes nothing.
pub none_changes : (plan : Plan) (past : List Entry) (entry : Entry) (frames : List Kept) → IsTable plan past frames →
    begun (entry ∷ past) ≡ begun past → ((id : ℕ) → touched_by past entry id ≡ false) → IsTable plan (entry ∷ past) frames
none_changes plan past entry frames table same others = record {
  many = table.many ∙ sym same;
  each = λ m h. let before : m < begun past = omega arith in
      table.each m before ∙ ap Some (sym (others_stay plan past entry (m + 1) (others (m + 1))));
}
