-- The rows of the table of frames, entry by entry.
use Rattle.std.proofs.Common.{◌≡◌, ℕ, zero, suc, ◌+◌, ◌-◌, ◌≤◌, ◌<◌, ◌==◌, ◌&&◌, Bool, true, false, not, cond, set, List, [], ◌∷◌, ◌++◌, length, Option, Some, None, is_none, is_some, slice_get, refl, sym, ap, subst, ◌∙◌, inl, inr, arith, drop, nat_le, ◌≢◌, ◌⊎◌}
use Rattle.byteorder.specs.Endian.{big_number}
use Rattle.std.proofs.lemmas.Bool.{and_parts, both_ways, cases_eq, false_from_ne_true}
use Rattle.std.proofs.lemmas.List.{length-set}
use Rattle.std.proofs.lemmas.Option.{none-some, same_Some, slice_get_within}
use Rattle.pl_lemmas.proofs.Exports.{set_get, set_get_other}
use Rattle.pl_frame.specs.declared.address.Mac.{Mac}
use Rattle.pl_frame.specs.Ethernet.{destination_of}
use Rattle.pl_layouts.specs.Memberships.{flood, group_of, is_group, is_ip_group}
use Rattle.pl_wiring.specs.Plan.{Plan}
use Rattle.pl_journal.specs.declared.entry.Entry.{Entry}
use Rattle.pl_journal.specs.Causes.{goes_to_group}
use Rattle.pl_journal.specs.Flights.{begun, ends, is_begun, is_flying}
use Rattle.pl_journal.specs.Lossy.{RunTo}
use Rattle.pl_journal.proofs.Exports.{begun_within, within_begun}
use Rattle.pl_past.specs.Kept.{Kept, kept, touched_by}
use Rattle.pl_past.proofs.Exports.{others_stay}
use Rattle.pl_past_tables.specs.declared.row.Row.{Row}
use Rattle.pl_past_tables.specs.Frames.{IsRow, KeepsFrames}

-- the frame flies exactly where its row is there and not over
pub flies_by_row : (plan : Plan) (text : List ℕ) (past : List Entry) (rows : List Row) (id : ℕ) (row : Row) → RunTo plan past →
    KeepsFrames plan text past rows →
    1 ≤ id → slice_get rows (id - 1) ≡ Some row → (IsRow text row (kept plan past id)) × (is_flying past id ≡ not row.over)
flies_by_row plan text past rows id row run keeps least at =
    let whole : id - 1 + 1 ≡ id = omega arith in
    let is : IsRow text row (kept plan past id) = subst (λ m. IsRow text row (kept plan past m)) whole (keeps.each (id - 1) row at) in
    let within = slice_get_within rows (id - 1) row at in
    let most : id ≤ begun past = let e = keeps.many in omega arith in
    let old = within_begun plan past id run least most in
    (is, ap (λ b. b && (ends past id == 0)) old ∙ turned (ends past id == 0) ∙ ap not (sym is.over))
  where
    turned : (b : Bool) → b ≡ not (not b)
    turned true = refl
    turned false = refl

pub none_flies : (plan : Plan) (text : List ℕ) (past : List Entry) (rows : List Row) (id : ℕ) → RunTo plan past → KeepsFrames plan text past rows →
    ((1 ≤ id) × (id ≤ length rows) → ⊥) → is_flying past id ≡ false
none_flies plan text past rows id run keeps out = false_from_ne_true (is_flying past id) (λ flies.
    let old = (and_parts (is_begun past id) (ends past id == 0) flies).0 in
    let within = begun_within plan past id run old in
    let many = keeps.many in
    out (within.0, omega arith))

-- An entry of a frame that has begun changes its row alone.
pub one_row : (plan : Plan) (text : List ℕ) (past : List Entry) (entry : Entry) (rows : List Row) (id : ℕ) (row : Row) → KeepsFrames plan text past rows →
    begun (entry ∷ past) ≡ begun past → 1 ≤ id → id ≤ length rows → IsRow text row (kept plan (entry ∷ past) id) →
    ((other : ℕ) → other ≢ id → touched_by past entry other ≡ false) → KeepsFrames plan text (entry ∷ past) (set rows (id - 1) row)
one_row plan text past entry rows id row keeps same least most is others = record {
  many = length-set rows (id - 1) row ∙ keeps.many ∙ sym same;
  each = λ n x at. elim (cases_eq (id - 1) n) [
    | inl here ↦
        let within : id - 1 < length rows = omega arith in
        let new : row ≡ x = same_Some row x (sym (set_get rows (id - 1) row within) ∙ ap (slice_get (set rows (id - 1) row)) here ∙ at) in
        let place : id ≡ n + 1 = omega arith in
        subst (λ y. IsRow text y (kept plan (entry ∷ past) (n + 1))) new (subst (λ m. IsRow text row (kept plan (entry ∷ past) m)) place is)
    | inr other ↦
        let before = keeps.each n x (sym (set_get_other rows (id - 1) n row other) ∙ at) in
        subst (IsRow text x) (sym (others_stay plan past entry (n + 1) (others (n + 1) (λ e. other (omega arith))))) before
  ];
}

last_of : {A : Type 0} (xs : List A) (y x : A) (n : ℕ) → slice_get (xs ++ y ∷ []) n ≡ Some x → (slice_get xs n ≡ Some x) ⊎ ((n ≡ length xs) × (y ≡ x))
last_of [] y x zero at = inr (refl, same_Some y x at)
last_of [] y x (suc n) at = absurd (none-some x at)
last_of (z ∷ xs) y x zero at = inl at
last_of (z ∷ xs) y x (suc n) at = elim (last_of xs y x n at) as (λ _. (slice_get xs n ≡ Some x) ⊎ ((suc n ≡ suc (length xs)) × (y ≡ x))) [
  | inl before ↦ inl before
  | inr last ↦ inr (ap suc last.0, last.1)
]

one_longer : {A : Type 0} (xs : List A) (x : A) → length (xs ++ x ∷ []) ≡ length xs + 1
one_longer [] x = omega arith
one_longer (y ∷ xs) x = let e = one_longer xs x in omega arith

-- One that begins a frame adds a row.
pub one_more_row : (plan : Plan) (text : List ℕ) (past : List Entry) (entry : Entry) (rows : List Row) (id : ℕ) (row : Row) → KeepsFrames plan text past rows →
    begun (entry ∷ past) ≡ begun past + 1 → id ≡ begun past + 1 → IsRow text row (kept plan (entry ∷ past) id) →
    ((other : ℕ) → other ≢ id → touched_by past entry other ≡ false) → KeepsFrames plan text (entry ∷ past) (rows ++ row ∷ [])
one_more_row plan text past entry rows id row keeps more next is others = record {
  many = one_longer rows row ∙ ap (λ n. n + 1) (keeps.many) ∙ sym more;
  each = λ n x at. elim (last_of rows row x n at) [
    | inl before ↦
        let within = slice_get_within rows n x before in
        let many = keeps.many in
        subst (IsRow text x) (sym (others_stay plan past entry (n + 1) (others (n + 1) (λ e. absurd (omega arith))))) (keeps.each n x before)
    | inr last ↦
        let many = keeps.many in
        let end = last.0 in
        let place : id ≡ n + 1 = omega arith in
        subst (λ y. IsRow text y (kept plan (entry ∷ past) (n + 1))) last.1 (subst (λ m. IsRow text row (kept plan (entry ∷ past) m)) place is)
  ];
}

-- Any other entry changes none.
pub no_row : (plan : Plan) (text : List ℕ) (past : List Entry) (entry : Entry) (rows : List Row) → KeepsFrames plan text past rows →
    begun (entry ∷ past) ≡ begun past → ((id : ℕ) → touched_by past entry id ≡ false) → KeepsFrames plan text (entry ∷ past) rows
no_row plan text past entry rows keeps same others = record {
  many = keeps.many ∙ sym same;
  each = λ n x at. subst (IsRow text x) (sym (others_stay plan past entry (n + 1) (others (n + 1)))) (keeps.each n x at);
}

-- a frame goes to a group exactly where its destination has one
pub some_group : (mac : Mac) → is_some (group_of mac) ≡ is_group mac
some_group mac = by (is_group mac) (is_ip_group mac && nat_le 256 (big_number 3 (drop 3 mac.0)))
  where
    by : (g t : Bool) → is_some (cond (not g) None (cond t (Some (big_number 3 (drop 3 mac.0))) (Some flood))) ≡ g
    by true true = refl
    by true false = refl
    by false t = refl

pub group_of_row : (text : List ℕ) (row : Row) (frame : Kept) → IsRow text row frame → is_some row.carried.group ≡ is_group (destination_of frame.beginning)
group_of_row text row frame is = ap (λ (o : Option ℕ). is_some o) (is.carried.group) ∙ some_group (destination_of frame.beginning)

pub group_by_row : (plan : Plan) (text : List ℕ) (past : List Entry) (id : ℕ) (row : Row) → IsRow text row (kept plan past id) →
    is_some row.carried.group ≡ goes_to_group past id
group_by_row plan text past id row is = group_of_row text row (kept plan past id) is

pub none_is_not_some : (o : Option ℕ) → is_none o ≡ true → is_some o ≡ false
none_is_not_some None is = refl
none_is_not_some (Some n) is = absurd (both_ways false refl is)

pub some_is_not_none : (o : Option ℕ) → is_none o ≡ false → is_some o ≡ true
some_is_not_none None is = absurd (both_ways true is refl)
some_is_not_none (Some n) is = refl
